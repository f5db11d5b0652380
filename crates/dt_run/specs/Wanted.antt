-- What the words ask for, over a store's files where those are known.
use Rattle.std.specs.Prelude.{◌≡◌, ℕ, List, Option, Some, None, option_map, option_and_then, Result, Ok, Err, IsSome, IfSome, if◌then◌else◌}
use Rattle.dt_base.specs.Image.{ImageParts}
use Rattle.dt_base.specs.Command.{Words}
use Rattle.dt_base.specs.declared.refusal.Refusal.{Refusal}
use Rattle.dt_base.specs.declared.refusal.Refusal.TheVariants.{BadSteps}
use Rattle.dt_host.specs.Store.{StoreFiles}
use Rattle.dt_run.specs.declared.failure.Failure.{Failure}
use Rattle.dt_run.specs.declared.failure.Failure.TheVariants.{Usage, Image, Export}
use Rattle.dt_export.specs.declared.refusal.ExportRefusal.TheVariants.{Exists}
use Rattle.dt_export.specs.ExportedFiles.{has_index}
use Rattle.dt_export.specs.Steps.{steps_at}
use Rattle.dt_options.specs.Options.{Request, ExportRequest, StepsRequest, Form, run_form, export_form, demo_form, steps_form, form_of}
use Rattle.dt_image.specs.ImageOf.{image_of}
use Rattle.dt_engine.specs.Run.{Run, run_of}
use Rattle.dt_engine.specs.Completed.{Written, reported}
use Rattle.dt_run.specs.Written.{demonstrated}
use Rattle.dt_steps.specs.Steps.{steps_on}
use Rattle.dt_run.specs.Outcome.{Outcome, some_steps, written_alone, exported}

-- a request's run on an image and its input
abbrev pub run_on : Request → ImageParts × List ℕ → Run
run_on request found = run_of found.0 (record request.command { input = found.1 }) request.seed request.budget

-- that run with its report
abbrev pub reported_on : Request → ImageParts × List ℕ → Written
reported_on request found = reported found.0.version (run_on request found)

-- what words of this form ask for, on an image and its input and with these commands; a demonstration has its own image, and
-- looks at no other, only steps look at the commands, and they at no input
abbrev pub outcome_on : Form → ImageParts × List ℕ → List Words → Outcome
outcome_on (run_form request) found commands = written_alone (reported_on request found)
outcome_on (export_form request) found commands = exported request.to (reported_on request.run found)
outcome_on (demo_form request) found commands = written_alone (demonstrated request.number)
outcome_on (steps_form request) found commands = some_steps (steps_on found.0 commands request.seed request.budget)

-- a request's run on an image that was read, or the image's refusal
abbrev pub run_or_refusal : Request → Result (ImageParts × List ℕ) Refusal → Result Outcome Failure
run_or_refusal request (Err refusal) = Err (Image refusal)
run_or_refusal request (Ok found) = Ok (written_alone (reported_on request found))

-- likewise with its export, or the refusal where the folder has an index already
abbrev pub export_or_refusal : ExportRequest → StoreFiles → Result (ImageParts × List ℕ) Refusal → Result Outcome Failure
export_or_refusal request files (Err refusal) = Err (Image refusal)
export_or_refusal request files (Ok found) =
    if has_index files request.to then Err (Export Exists) else Ok (exported request.to (reported_on request.run found))

-- the steps on an image that was read, the image's refusal, or that of the file, where it lists no commands
abbrev pub steps_or_refusal : StepsRequest → Result (ImageParts × List ℕ) Refusal → Option (List Words) → Result Outcome Failure
steps_or_refusal request (Err refusal) commands = Err (Image refusal)
steps_or_refusal request (Ok found) None = Err (Image BadSteps)
steps_or_refusal request (Ok found) (Some commands) = Ok (some_steps (steps_on found.0 commands request.seed request.budget))

-- what words of a form want of these files; without a form they are refused, whatever the files are, and a demonstration
-- wants none of them
abbrev pub form_outcome : Option Form → Option StoreFiles → Option (Result Outcome Failure)
form_outcome None told = Some (Err Usage)
form_outcome (Some (run_form request)) told = option_map (λ files. run_or_refusal request (image_of files request.image request.input)) told
form_outcome (Some (export_form request)) told =
    option_map (λ files. export_or_refusal request files (image_of files request.run.image request.run.input)) told
form_outcome (Some (demo_form request)) told = Some (Ok (written_alone (demonstrated request.number)))
form_outcome (Some (steps_form request)) told =
    option_map (λ files. steps_or_refusal request (image_of files request.image None) (steps_at files request.image request.file)) told

-- what the words come to, or the first refusal; none where that depends on files that
-- are not known
unfoldable pub wanted : Option StoreFiles → List (List ℕ) → Option (Result Outcome Failure)
wanted told words = form_outcome (form_of words) told

-- the folder whose image is read
abbrev pub image_folder : Form → Option (List ℕ)
image_folder (run_form request) = Some request.image
image_folder (export_form request) = Some request.run.image
image_folder (demo_form request) = None
image_folder (steps_form request) = Some request.image

-- the request of an export
abbrev pub request_of_export : Form → Option ExportRequest
request_of_export (run_form request) = None
request_of_export (export_form request) = Some request
request_of_export (demo_form request) = None
request_of_export (steps_form request) = None

-- the words ask for a run, an export or steps, for which the store is read
abbrev pub ReadsStore : List (List ℕ) → Type 0
ReadsStore words = IsSome (option_and_then image_folder (form_of words))

-- the words ask for an export
abbrev pub AsksExport : List (List ℕ) → Type 0
AsksExport words = IsSome (option_and_then request_of_export (form_of words))

-- the request of steps
abbrev pub request_of_steps : Form → Option StepsRequest
request_of_steps (run_form request) = None
request_of_steps (export_form request) = None
request_of_steps (demo_form request) = None
request_of_steps (steps_form request) = Some request

-- the words ask for steps
abbrev pub AsksSteps : List (List ℕ) → Type 0
AsksSteps words = IsSome (option_and_then request_of_steps (form_of words))

-- the image is refused for this reason, where what is wanted is known; a file of steps is only refused where steps are asked
-- for
pub record IsRefusedFor (refusal : Refusal) (told : Option StoreFiles) (words : List (List ℕ)) : Type 0 where
  pub first : IfSome (wanted told words) (λ found. found ≡ Err (Image refusal))
  pub steps : refusal ≡ BadSteps → AsksSteps words
