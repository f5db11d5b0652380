-- Steps: commands that are run one after the other, each on the image of the tree that the one before it left.
use Rattle.std.specs.Prelude.{ℕ, ◌+◌, ◌==◌, List, [], ◌∷◌, ◌++◌, codes, Result, Ok, Err, if◌then◌else◌}
use Rattle.std.specs.Fmt.{decimal}
use Rattle.dt_base.specs.Image.{ImageParts}
use Rattle.dt_base.specs.Command.{Words}
use Rattle.dt_export.specs.declared.refusal.ExportRefusal.{ExportRefusal}
use Rattle.dt_export.specs.ExportedImage.{image_of_tree}
use Rattle.dt_engine.specs.declared.status.TheConstants.{ENDED_ZERO}
use Rattle.dt_engine.specs.Run.{Run, run_of, status_of_run, report_of}
use Rattle.dt_steps.specs.declared.input.StepInput.{StepInput}

-- a step's whole input
abbrev pub input_of : ℕ → ℕ → ImageParts → Words → StepInput
input_of seed budget image command = record { image = image; command = command; seed = seed; budget = budget }

-- its run
unfoldable pub run_of_step : StepInput → Run
run_of_step i = run_of i.image i.command i.seed i.budget

-- the image of the tree that a run leaves, or why it has none
abbrev pub image_after : Run → Result ImageParts ExportRefusal
image_after run = image_of_tree run.last.tree

-- what is written of a step on an image of that version: its number, and its report
abbrev pub step_text : ℕ → ℕ → Run → List ℕ
step_text number version run = codes "step " ++ (decimal number ++ (codes "\n" ++ report_of version run))

-- what is written of these steps, the first of which has this number
abbrev pub steps_text : ℕ → List StepInput → List ℕ
steps_text number [] = []
steps_text number (input ∷ rest) = step_text number input.image.version (run_of_step input) ++ steps_text (number + 1) rest

-- what steps come to: those that are run, all that is written, and the status, or why the next step has no image to run on
pub record Steps : Type 0 where
  pub run : List StepInput
  pub output : List ℕ
  pub answer : Result ℕ ExportRefusal

-- no step is run
abbrev pub no_step : Result ℕ ExportRefusal → Steps
no_step answer = record { run = []; output = []; answer = answer }

-- a step is run before others
abbrev pub step_before : StepInput → List ℕ → Steps → Steps
step_before input text rest = record { run = input ∷ rest.run; output = text ++ rest.output; answer = rest.answer }

-- the steps of these commands, the first of which has this number and runs on this image, if there is one: they stop after
-- the first status that is not 0
unfoldable pub steps_from : ℕ → ℕ → ℕ → Result ImageParts ExportRefusal → List Words → Steps
steps_from seed budget number image [] = no_step (Ok ENDED_ZERO)
steps_from seed budget number (Err refusal) (command ∷ rest) = no_step (Err refusal)
steps_from seed budget number (Ok image) (command ∷ rest) =
    let input = input_of seed budget image command in
    let run = run_of_step input in
    step_before input (step_text number image.version run) (
    if status_of_run run == ENDED_ZERO then steps_from seed budget (number + 1) (image_after run) rest
    else no_step (Ok (status_of_run run)))

-- the steps of these commands, the first on an image
abbrev pub steps_on : ImageParts → List Words → ℕ → ℕ → Steps
steps_on image commands seed budget = steps_from seed budget 1 (Ok image) commands
