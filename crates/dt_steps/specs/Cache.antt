-- A cache of steps: what each entry says, and what a step leaves of it.
use Rattle.std.specs.Prelude.{◌≡◌, ℕ, ◌-◌, ◌≤◌, List, [], ◌∷◌, ◌++◌, length, map, drop, Result, Ok, Err}
use Rattle.std.specs.List.{All, Contains}
use Rattle.dt_base.specs.Image.{ImageParts}
use Rattle.dt_export.specs.declared.refusal.ExportRefusal.{ExportRefusal}
use Rattle.dt_engine.specs.Run.{status_of_run, report_of}
use Rattle.dt_steps.specs.declared.cache.TheConstants.{CACHE_LIMIT}
use Rattle.dt_steps.specs.declared.cache.CachedStep.{CachedStep}
use Rattle.dt_steps.specs.declared.input.StepInput.{StepInput}
use Rattle.dt_steps.specs.Steps.{run_of_step, image_after}

-- what is kept of a step that left a tree with this image
abbrev pub cached : StepInput → ImageParts → CachedStep
cached input left =
    let run = run_of_step input in
    record { input = input; report = report_of input.image.version run; status = status_of_run run; left = left }

-- an entry is the run of its input: its report and its status, and the image of the tree that it leaves
pub record IsCached (step : CachedStep) : Type 0 where
  pub run : step ≡ cached step.input step.left
  pub left : image_after (run_of_step step.input) ≡ Ok step.left

-- the entries, the oldest first, and how many have room
pub record CacheView : Type 0 where
  pub steps : List CachedStep
  pub room : ℕ

-- each entry is the run of its input, and there are no more than have room
pub record IsCache (c : CacheView) : Type 0 where
  pub each : All IsCached c.steps
  pub fits : length c.steps ≤ c.room
  pub room : c.room ≤ CACHE_LIMIT

-- a cache has an entry for a step
abbrev pub Knows : CacheView → StepInput → Type 0
Knows c input = Contains (map (λ (step : CachedStep). step.input) c.steps) input

-- the newest entries that have room
abbrev pub newest : ℕ → List CachedStep → List CachedStep
newest room steps = drop (length steps - room) steps

-- with an entry for a step behind all others, where the tree that it leaves has an image
abbrev pub with_step : CacheView → StepInput → Result ImageParts ExportRefusal → CacheView
with_step c input (Err refusal) = c
with_step c input (Ok left) = record c { steps = newest c.room (c.steps ++ cached input left ∷ []) }

-- a step that is found leaves the cache as it is, and one that is not has an entry then
pub record IsAfterStep (input : StepInput) (old new : CacheView) : Type 0 where
  pub found : Knows old input → new ≡ old
  pub missing : (Knows old input → ⊥) → new ≡ with_step old input (image_after (run_of_step input))

-- the cache after steps, one after the other
abbrev pub IsAfterSteps : List StepInput → CacheView → CacheView → Type 0
IsAfterSteps [] old new = new ≡ old
IsAfterSteps (input ∷ rest) old new = (between : CacheView) × IsAfterStep input old between × IsAfterSteps rest between new
