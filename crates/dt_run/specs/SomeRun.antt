-- A run that the words ask for, or steps, whether the store's files are known or not.
use Rattle.std.specs.Prelude.{◌≡◌, ℕ, List, [], Option, Some, None, Ok, IsOk, IfSome, IsSomeAnd, ⊤}
use Rattle.dt_base.specs.Command.{Words}
use Rattle.dt_base.specs.Image.{ImageParts, IsImage}
use Rattle.dt_host.specs.Sink.{added, AddsPart}
use Rattle.dt_host.specs.Store.{StoreFiles}
use Rattle.dt_export.specs.Steps.{IsListed}
use Rattle.dt_options.specs.Options.{Form, run_form, export_form, demo_form, steps_form, form_of}
use Rattle.dt_run.specs.Outcome.{Outcome, text_of, asked_export}
use Rattle.dt_run.specs.Wanted.{outcome_on, wanted}

-- these are commands that a file may list, where the form is that of steps; no other form looks at them
abbrev pub AreListed : Form → List Words → Type 0
AreListed (run_form request) commands = ⊤
AreListed (export_form request) commands = ⊤
AreListed (demo_form request) commands = ⊤
AreListed (steps_form request) commands = IsListed commands

-- this may be the input of a run that the form asks for: it is empty where none is named; no other form looks at it
abbrev pub IsInput : Form → List ℕ → Type 0
IsInput (run_form request) input = request.input ≡ None → input ≡ []
IsInput (export_form request) input = request.run.input ≡ None → input ≡ []
IsInput (demo_form request) input = ⊤
IsInput (steps_form request) input = ⊤

-- what the words ask for on some image, with some input and some commands, has this property; where it is known what is wanted, this
-- is it. A demonstration is the same on each image
pub record SomeRun (told : Option StoreFiles) (words : List (List ℕ)) (P : Outcome → Type 0) : Type 0 where
  pub form : Form
  pub parsed : form_of words ≡ Some form
  pub image : ImageParts
  pub good : IsImage image
  pub input : List ℕ
  pub named : IsInput form input
  pub commands : List Words
  pub listed : AreListed form commands
  pub is_wanted : IfSome (wanted told words) (λ found. found ≡ Ok (outcome_on form (image, input) commands))
  pub holds : P (outcome_on form (image, input) commands)

-- a prefix of what is written of it was added
abbrev pub AddsTextPart : Option StoreFiles → List (List ℕ) → Option (List ℕ) → Option (List ℕ) → Type 0
AddsTextPart told words old new = SomeRun told words (λ outcome. AddsPart old new (text_of outcome))

-- an export is asked for, and it is not refused
abbrev pub HasExport : Outcome → Type 0
HasExport outcome = IsSomeAnd (asked_export outcome) (λ export. IsOk export.index)

-- an export was asked for that is not refused, and all that is written of its run was added
abbrev pub AddsExportText : Option StoreFiles → List (List ℕ) → Option (List ℕ) → Option (List ℕ) → Type 0
AddsExportText told words old new = SomeRun told words (λ outcome. HasExport outcome × (new ≡ added old (text_of outcome)))
