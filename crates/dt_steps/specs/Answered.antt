-- What a call answers that runs steps.
use Rattle.std.specs.Prelude.{◌≡◌, ◌≤◌, ◌+◌, ℕ, List, length, take, drop, Option, Some, None, Result, Ok, Err}
use Rattle.dt_export.specs.declared.refusal.ExportRefusal.{ExportRefusal}
use Rattle.dt_export.specs.declared.refusal.ExportRefusal.TheVariants as refusal
use Rattle.dt_host.specs.Sink.{added, AddsPart}
use Rattle.dt_steps.specs.declared.error.StepsErr.{StepsErr}
use Rattle.dt_steps.specs.declared.error.StepsErr.TheVariants.{Run, LongPath, TooMany}
use Rattle.dt_steps.specs.declared.input.StepInput.{StepInput}
use Rattle.dt_steps.specs.Steps.{Steps, steps_text}
use Rattle.dt_steps.specs.Cache.{CacheView, IsAfterSteps}

-- the answer of steps, as a call gives it; none where a run was not completed
abbrev pub answer_of : Result ℕ StepsErr → Option (Result ℕ ExportRefusal)
answer_of (Ok status) = Some (Ok status)
answer_of (Err LongPath) = Some (Err refusal.LongPath)
answer_of (Err TooMany) = Some (Err refusal.TooMany)
answer_of (Err (Run error)) = None

-- this is the answer of steps, all that is written of them was added, and the cache has all of them behind it
pub record Answers (steps : Steps) (told new : Option (List ℕ)) (before after : CacheView) (given : Result ℕ ExportRefusal) : Type 0 where
  pub answer : steps.answer ≡ given
  pub output : new ≡ added told steps.output
  pub cache : IsAfterSteps steps.run before after

-- the first of these steps were run whole, and the cache has them behind it; what was added is all that is written of them, and
-- of the next one a part
pub record IsAfterSome (steps : List StepInput) (told new : Option (List ℕ)) (before after : CacheView) : Type 0 where
  pub count : ℕ
  pub within : count ≤ length steps
  pub cache : IsAfterSteps (take count steps) before after
  pub output : AddsPart (added told (steps_text 1 (take count steps))) new (steps_text (count + 1) (take 1 (drop count steps)))
