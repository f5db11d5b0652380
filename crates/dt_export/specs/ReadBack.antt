-- An export that is read back.
use Rattle.std.specs.Prelude.{◌≡◌, ℕ, List, Ok, [], None}
use Rattle.dt_base.specs.Image.{ImageParts}
use Rattle.dt_host.specs.Store.{StoreFiles}
use Rattle.dt_tree.specs.FileTree.{FileTree}
use Rattle.dt_image.specs.ImageOf.{image_of}
use Rattle.dt_export.specs.ExportedFiles.{exported_files, with_files}

-- where the export of a tree with this index is put into any folder of any store, that folder is read as this image
unfoldable pub IsReadAs : FileTree → List ℕ → ImageParts → Type 0
IsReadAs t text image =
    (files : StoreFiles) (folder : List ℕ)
    → image_of (with_files files folder (exported_files t text)) folder None ≡ Ok (image, [])
