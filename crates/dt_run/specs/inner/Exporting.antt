-- Inner words: the steps of an export.
use Rattle.std.specs.Prelude.{◌≡◌, ◌⊎◌, ℕ, List, ◌∷◌, ◌++◌, map, Option, Ok, Err, ⊤}
use Rattle.dt_base.specs.Image.{ImageParts}
use Rattle.dt_host.specs.Sink.{added, AddsPart}
use Rattle.dt_host.specs.Store.{StoreFiles, StoresPart}
use Rattle.dt_host.specs.World.{content}
use Rattle.dt_tree.specs.FileTree.{FileTree}
use Rattle.dt_export.specs.ExportedFiles.{exported_text, exported_files, blob_at}
use Rattle.dt_export.specs.ExportedImage.{image_of_tree}
use Rattle.dt_export.specs.ExportedIndex.{blob_name}
use Rattle.dt_export.specs.ReadBack.{IsReadAs}
use Rattle.dt_image.specs.ImageOf.{name_below}
use Rattle.dt_run.specs.declared.failure.Failure.{Failure}
use Rattle.dt_run.specs.declared.failure.Failure.TheVariants.{Usage, Image, Export, Store, Host, Output, NoMemory}
use Rattle.dt_run.specs.Outcome.{ExportTo, Outcome, text_of}
use Rattle.dt_run.specs.SomeRun.{HasExport}
use Rattle.dt_run.specs.Exports.{IsRefusedLate, PutsSome, told_with_files}

-- what is told after the blobs of these inodes were put
abbrev pub told_with_blobs : Option StoreFiles → List ℕ → FileTree → List ℕ → Option StoreFiles
told_with_blobs told folder t inodes = told_with_files told folder (map (blob_at t) inodes)

-- the export of a tree was put into a folder
pub record PutsTree (t : FileTree) (folder : List ℕ) (told now : Option StoreFiles) : Type 0 where
  pub text : List ℕ
  pub index : exported_text t.version t ≡ Ok text
  pub files : now ≡ told_with_files told folder (exported_files t text)
  pub image : ImageParts
  pub exported : image_of_tree t ≡ Ok image
  pub read : IsReadAs t text image

-- a failure of the outside while an export is put
abbrev pub IsPutFault : Failure → Type 0
IsPutFault Usage = ⊥
IsPutFault (Image refusal) = ⊥
IsPutFault (Export refusal) = ⊥
IsPutFault Store = ⊤
IsPutFault Host = ⊤
IsPutFault Output = ⊥
IsPutFault NoMemory = ⊤

-- the export of a tree to a folder
abbrev pub export_of : FileTree → List ℕ → ExportTo
export_of t folder = record { folder = folder; index = exported_text t.version t }

-- the blobs of the first of these inodes were put, and maybe a part of the next one
pub record PutsBlobs (t : FileTree) (folder inodes : List ℕ) (told now : Option StoreFiles) : Type 0 where
  pub before : List ℕ
  pub next : ℕ
  pub rest : List ℕ
  pub split : inodes ≡ before ++ (next ∷ rest)
  pub part : StoresPart (told_with_blobs told folder t before) now (name_below folder (blob_name next)) (content t.shape next)

-- why a tree was not put: it has no export, and nothing was put; or the store failed, and some was put; or the host or memory
-- failed, and nothing or some was put
abbrev pub FailsPut : Failure → FileTree → List ℕ → Option StoreFiles → Option StoreFiles → Type 0
FailsPut Usage t folder told now = ⊥
FailsPut (Image refusal) t folder told now = ⊥
FailsPut (Export refusal) t folder told now = (exported_text t.version t ≡ Err refusal) × (now ≡ told)
FailsPut Store t folder told now = PutsSome t (export_of t folder) told now
FailsPut Host t folder told now = (now ≡ told) ⊎ PutsSome t (export_of t folder) told now
FailsPut Output t folder told now = ⊥
FailsPut NoMemory t folder told now = (now ≡ told) ⊎ PutsSome t (export_of t folder) told now

-- why a run with an export was not completed: the last tree has no export, and the report was written; the store failed after
-- the report of a tree that has one; or the host, the output or memory failed
abbrev pub FailsExport : Failure → Outcome → Option (List ℕ) → Option (List ℕ) → Type 0
FailsExport Usage outcome old new = ⊥
FailsExport (Image refusal) outcome old new = ⊥
FailsExport (Export refusal) outcome old new = IsRefusedLate refusal old new outcome
FailsExport Store outcome old new = HasExport outcome × (new ≡ added old (text_of outcome))
FailsExport Host outcome old new = AddsPart old new (text_of outcome)
FailsExport Output outcome old new = AddsPart old new (text_of outcome)
FailsExport NoMemory outcome old new = AddsPart old new (text_of outcome)
