-- The image that is left after a step in code.
use Rattle.std.specs.Prelude.{◌≡◌, Result, Ok, Err}
use Rattle.dt_base.specs.Image.{ImageParts}
use Rattle.dt_export.specs.declared.refusal.ExportRefusal.{ExportRefusal}
use Rattle.dt_export.specs.declared.refusal.ExportRefusal.TheVariants as refusal
use Rattle.dt_engine.specs.Run.{Run, status_of_run}
use Rattle.dt_steps.specs.declared.step.NoImage.{NoImage}
use Rattle.dt_steps.specs.declared.step.NoImage.TheVariants.{LongPath, TooMany}
use Rattle.dt_steps.specs.declared.step.Step.{Step}
use Rattle.dt_steps.specs.Steps.{image_after}

-- why there is no image, as a refusal of an export
abbrev pub refusal_of : NoImage → ExportRefusal
refusal_of LongPath = refusal.LongPath
refusal_of TooMany = refusal.TooMany

-- it is of the tree's paths
abbrev pub IsOfPaths : ExportRefusal → Type 0
IsOfPaths refusal.Exists = ⊥
IsOfPaths refusal.LongPath = Unit {0}
IsOfPaths refusal.TooMany = Unit {0}
IsOfPaths refusal.NotText = ⊥
IsOfPaths refusal.BigIndex = ⊥

-- an image or why there is none, as the definitions say it
abbrev pub image_or_refusal : Result ImageParts NoImage → Result ImageParts ExportRefusal
image_or_refusal (Ok image) = Ok image
image_or_refusal (Err none) = Err (refusal_of none)

-- a step came to what its run gives
pub record IsStep (run : Run) (step : Step) : Type 0 where
  pub status : step.status ≡ status_of_run run
  pub left : image_or_refusal step.left ≡ image_after run
