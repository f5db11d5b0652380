-- What words come to: a run with what is written of it, and the export of its last tree, where one is asked for; or steps.
use Rattle.std.specs.Prelude.{◌≡◌, ℕ, List, Option, None, Some, Result, Ok, Err}
use Rattle.dt_host.specs.Sink.{added}
use Rattle.dt_host.specs.Store.{StoreFiles}
use Rattle.dt_host.specs.World.{World, IsEmptyStart}
use Rattle.dt_tree.specs.FileTree.{FileTree}
use Rattle.dt_export.specs.declared.refusal.ExportRefusal.{ExportRefusal}
use Rattle.dt_export.specs.ExportedFiles.{exported_text, exported_files, with_files}
use Rattle.dt_engine.specs.Run.{status_of_run}
use Rattle.dt_engine.specs.Completed.{Written, Finishes}
use Rattle.dt_steps.specs.Steps.{Steps}
use Rattle.dt_run.specs.declared.status.TheConstants.{EXPORT_REFUSED}

-- an export: the folder that it goes to, and the text of a tree's index, or why the tree has no export
pub record ExportTo : Type 0 where
  pub folder : List ℕ
  pub index : Result (List ℕ) ExportRefusal

pub data Outcome : Type 0 where
  one_run : Written → Option ExportTo → Outcome
  some_steps : Steps → Outcome

-- all that is written of it
abbrev pub text_of : Outcome → List ℕ
text_of (one_run written export) = written.text
text_of (some_steps steps) = steps.output

-- the export that is asked for
abbrev pub asked_export : Outcome → Option ExportTo
asked_export (one_run written export) = export
asked_export (some_steps steps) = None

-- nothing is exported
abbrev pub written_alone : Written → Outcome
written_alone written = one_run written None

-- a run with its report, and the export of its last tree to a folder
abbrev pub exported : List ℕ → Written → Outcome
exported folder written =
    one_run written (Some (record { folder = folder; index = exported_text written.run.last.tree.version written.run.last.tree }))

-- ---- the status, and a store's files then

-- the status of a run whose tree has an export, or has none
abbrev pub status_with_index : ℕ → Result (List ℕ) ExportRefusal → ℕ
status_with_index status (Ok text) = status
status_with_index status (Err refusal) = EXPORT_REFUSED

abbrev pub status_with_export : ℕ → Option ExportTo → ℕ
status_with_export status None = status
status_with_export status (Some export) = status_with_index status export.index

-- the status of steps, or of the refusal where the next one has no image
abbrev pub status_of_steps : Result ℕ ExportRefusal → ℕ
status_of_steps (Ok status) = status
status_of_steps (Err refusal) = EXPORT_REFUSED

-- the status: the run's, but that of a refusal where an export is asked for and the tree has none; or that of steps
abbrev pub status_of_outcome : Outcome → ℕ
status_of_outcome (one_run written export) = status_with_export (status_of_run written.run) export
status_of_outcome (some_steps steps) = status_of_steps steps.answer

-- the files once blobs and index of a tree stand in a folder; as they were where the tree has no export
abbrev pub files_with_index : FileTree → List ℕ → Result (List ℕ) ExportRefusal → StoreFiles → StoreFiles
files_with_index t folder (Ok text) files = with_files files folder (exported_files t text)
files_with_index t folder (Err refusal) files = files

abbrev pub files_with_export : FileTree → Option ExportTo → StoreFiles → StoreFiles
files_with_export t None files = files
files_with_export t (Some export) files = files_with_index t export.folder export.index files

-- a store's files then: those of the export were put, where one is asked for and the tree has one
abbrev pub files_after : Outcome → StoreFiles → StoreFiles
files_after (one_run written export) files = files_with_export written.run.last.tree export files
files_after (some_steps steps) files = files

-- ---- that it was completed

-- steps came to their end: the answer is their status, all that is written of them was added, and the host holds nothing
pub record FinishesSteps (steps : Steps) (answer : ℕ) (old new : Option (List ℕ)) (w : World) : Type 0 where
  pub status : steps.answer ≡ Ok answer
  pub report : new ≡ added old steps.output
  pub empty : IsEmptyStart w

-- a run was completed, or steps were
abbrev pub IsCompleted : Outcome → ℕ → Option (List ℕ) → Option (List ℕ) → World → Type 0
IsCompleted (one_run written export) = Finishes written
IsCompleted (some_steps steps) = FinishesSteps steps
