use Rattle.std.proofs.Common.{◌≢◌, take}
use Rattle.std.specs.List.{All}
use Rattle.dt_steps.specs.declared.cache.CachedStep.{CachedStep}
use Rattle.dt_steps.proofs.cache.Cache.find.Given as goal

-- none so far has this input
abbrev pub invariant-loop-step : goal.invariant-loop-step
invariant-loop-step l = All (λ (step : CachedStep). step.input ≢ l.input) (take l.step-index l.step-items)
