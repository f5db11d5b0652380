-- Inner words: no public clause cites these. What a store holds of an export.
use Rattle.std.specs.Prelude.{◌≡◌, ℕ, List, codes, Some, IfSome}
use Rattle.std.specs.List.{Contains}
use Rattle.std.specs.FinMap.{get}
use Rattle.dt_host.specs.Store.{StoreFiles}
use Rattle.dt_host.specs.World.{file_at}
use Rattle.dt_tree.specs.FileTree.{FileTree}
use Rattle.dt_image.specs.ImageOf.{name_below}
use Rattle.dt_image.specs.Paths.{paths_of}
use Rattle.dt_export.specs.ExportedIndex.{blob_name}

-- a store has the export of a tree in a folder: the text as the index, and each file that has a path as the blob of its
-- inode
pub record HasExport (files : StoreFiles) (folder text : List ℕ) (t : FileTree) : Type 0 where
  pub index : get files (name_below folder (codes "image.json")) ≡ Some text
  pub blobs : (path : List ℕ) (n : ℕ) → Contains (paths_of t.shape) (path, n)
      → IfSome (file_at t.shape n) (λ bytes. get files (name_below folder (blob_name n)) ≡ Some bytes)
