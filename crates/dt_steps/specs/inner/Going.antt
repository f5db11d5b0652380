-- Steps of which the first were run.
use Rattle.std.specs.Prelude.{◌≡◌, ◌+◌, ℕ, List, ◌++◌, length, Option}
use Rattle.dt_host.specs.Sink.{added}
use Rattle.dt_steps.specs.declared.input.StepInput.{StepInput}
use Rattle.dt_steps.specs.Steps.{Steps, steps_text}
use Rattle.dt_steps.specs.Cache.{CacheView, IsAfterSteps}

-- steps are those that were run, and a rest, the first of which has this number; what was written of them was added, and the
-- cache has them behind it
pub record HasGone (whole rest : Steps) (number : ℕ) (told now : Option (List ℕ)) (cache after : CacheView) : Type 0 where
  pub run : List StepInput
  pub text : List ℕ
  pub counted : number ≡ length run + 1
  pub texts : text ≡ steps_text 1 run
  pub inputs : whole.run ≡ run ++ rest.run
  pub output : whole.output ≡ text ++ rest.output
  pub answer : whole.answer ≡ rest.answer
  pub wrote : now ≡ added told text
  pub behind : IsAfterSteps run cache after
