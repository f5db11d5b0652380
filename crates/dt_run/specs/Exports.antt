-- What an export leaves in a store, and why it is refused, or the image of a tree between two steps.
use Rattle.std.specs.Prelude.{◌≡◌, ◌≢◌, ◌⊎◌, ℕ, List, ◌∷◌, ◌++◌, Option, Some, None, Result, Ok, Err, option_map, codes, IsOk, IfSome, IsSomeAnd, ⊤, []}
use Rattle.std.specs.FinMap.{get}
use Rattle.dt_base.specs.Image.{ImageParts}
use Rattle.dt_base.specs.declared.refusal.Refusal.{Refusal}
use Rattle.dt_host.specs.Sink.{added}
use Rattle.dt_host.specs.Store.{StoreFiles, StoresPart}
use Rattle.dt_tree.specs.FileTree.{FileTree}
use Rattle.dt_image.specs.ImageOf.{image_of, name_below}
use Rattle.dt_export.specs.declared.refusal.ExportRefusal.{ExportRefusal}
use Rattle.dt_export.specs.declared.refusal.ExportRefusal.TheVariants.{Exists}
use Rattle.dt_export.specs.ExportedImage.{image_of_tree}
use Rattle.dt_export.specs.ExportedIndex.{blob_name}
use Rattle.dt_export.specs.ExportedFiles.{exported_files, with_files}
use Rattle.dt_options.specs.Options.{Form, run_form, export_form, demo_form, steps_form}
use Rattle.dt_run.specs.declared.failure.Failure.TheVariants.{Export}
use Rattle.dt_run.specs.Outcome.{ExportTo, Outcome, one_run, some_steps, text_of, asked_export, files_after}
use Rattle.dt_run.specs.Wanted.{wanted, AsksExport}
use Rattle.dt_run.specs.SomeRun.{SomeRun}

-- what was read of a folder is the image of a tree
pub record IsImageOfTree (t : FileTree) (found : Result (ImageParts × List ℕ) Refusal) : Type 0 where
  pub image : ImageParts
  pub exported : image_of_tree t ≡ Ok image
  pub read : found ≡ Ok (image, [])

-- where a tree's export has an index, its folder is read as the image of the tree
abbrev pub IsReadBack : FileTree → ExportTo → Result (List ℕ) ExportRefusal → StoreFiles → Type 0
IsReadBack t export (Ok text) files = IsImageOfTree t (image_of files export.folder None)
IsReadBack t export (Err refusal) files = ⊤

-- likewise where an export is asked for
abbrev pub IsReadAfter : Outcome → StoreFiles → Type 0
IsReadAfter (one_run written export) files = IfSome export (λ to. IsReadBack written.run.last.tree to to.index files)
IsReadAfter (some_steps steps) files = ⊤

-- where an export is asked for, it is not refused, and was put; then it is read as the image of the run's last tree
pub record HasPut (outcome : Outcome) (told now : Option StoreFiles) : Type 0 where
  pub accepted : IfSome (asked_export outcome) (λ export. IsOk export.index)
  pub files : now ≡ option_map (files_after outcome) told
  pub image : IfSome now (IsReadAfter outcome)

-- names other than those of an index and of blobs in this folder hold what they held
abbrev pub KeepsOthers : List ℕ → StoreFiles → StoreFiles → Type 0
KeepsOthers folder files now =
    (name : List ℕ) → name ≢ name_below folder (codes "image.json") → ((n : ℕ) → name ≢ name_below folder (blob_name n))
    → get now name ≡ get files name

-- so it is with a store that tells its files
abbrev pub ChangesFolder : List ℕ → Option StoreFiles → Option StoreFiles → Type 0
ChangesFolder folder None now = now ≡ None
ChangesFolder folder (Some files) now = IsSomeAnd now (KeepsOthers folder files)

-- what is told after files were put into a folder
abbrev pub told_with_files : Option StoreFiles → List ℕ → List (List ℕ × List ℕ) → Option StoreFiles
told_with_files told folder puts = option_map (λ files. with_files files folder puts) told

-- some of a tree's export was put: its first files, maybe a part or all of the next one, and nothing of those behind that
pub record PutsSome (t : FileTree) (export : ExportTo) (told now : Option StoreFiles) : Type 0 where
  pub text : List ℕ
  pub index : export.index ≡ Ok text
  pub before : List (List ℕ × List ℕ)
  pub next : List ℕ × List ℕ
  pub rest : List (List ℕ × List ℕ)
  pub split : exported_files t text ≡ before ++ (next ∷ rest)
  pub part : StoresPart (told_with_files told export.folder before) now (name_below export.folder next.0) next.1

-- likewise of the export that is asked for
abbrev pub PutsOf : Outcome → Option StoreFiles → Option StoreFiles → Type 0
PutsOf (one_run written export) told now = IsSomeAnd export (λ to. PutsSome written.run.last.tree to told now)
PutsOf (some_steps steps) told now = ⊥

-- and that after all that is written was added
pub record PutsPart (old new : Option (List ℕ)) (told now : Option StoreFiles) (outcome : Outcome) : Type 0 where
  pub report : new ≡ added old (text_of outcome)
  pub some : PutsOf outcome told now

-- what becomes of the store, whatever fails: it is left as it is, but an export may change blobs and index of its folder
abbrev pub MayPut : Option Form → Option StoreFiles → Option StoreFiles → Type 0
MayPut None told now = now ≡ told
MayPut (Some (run_form request)) told now = now ≡ told
MayPut (Some (export_form request)) told now = ChangesFolder request.to told now
MayPut (Some (demo_form request)) told now = now ≡ told
MayPut (Some (steps_form request)) told now = now ≡ told

-- an export is refused before its run, since the folder has an index, and nothing was written
pub record IsRefusedAtOnce (refusal : ExportRefusal) (told : Option StoreFiles) (words : List (List ℕ)) (old new : Option (List ℕ)) : Type 0 where
  pub asked : AsksExport words
  pub is : refusal ≡ Exists
  pub first : IfSome (wanted told words) (λ found. found ≡ Err (Export Exists))
  pub nothing : new ≡ old

-- the last tree of a run has no export, or the next of some steps has no image
abbrev pub HasNoExport : ExportRefusal → Outcome → Type 0
HasNoExport refusal (one_run written export) = IsSomeAnd export (λ to. to.index ≡ Err refusal)
HasNoExport refusal (some_steps steps) = steps.answer ≡ Err refusal

-- so it is refused after the run, or between two steps, and all that is written was added
pub record IsRefusedLate (refusal : ExportRefusal) (old new : Option (List ℕ)) (outcome : Outcome) : Type 0 where
  pub is : HasNoExport refusal outcome
  pub report : new ≡ added old (text_of outcome)

-- either is the case
abbrev pub RefusesExport : ExportRefusal → Option StoreFiles → List (List ℕ) → Option (List ℕ) → Option (List ℕ) → Type 0
RefusesExport refusal told words old new =
    IsRefusedAtOnce refusal told words old new ⊎ SomeRun told words (IsRefusedLate refusal old new)
