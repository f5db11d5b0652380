use Rattle.std.proofs.Common.{arith, List, map, ap, sym, subst, ◌∙◌}
use Rattle.std.specs.List.{Contains}
use Rattle.dt_steps.specs.declared.cache.CachedStep.{CachedStep}
use Rattle.dt_steps.specs.Cache.{CacheView}
use Rattle.dt_steps.proofs.Kept.{unknown}
use Rattle.dt_steps.proofs.cache.Cache.find.Goals as goal

pub returns-clause-missing : goal.returns-clause-missing
returns-clause-missing c = λ known.
    let same = c.deref-step-items.ensures.value ∙ ap (λ (v : CacheView). v.steps) c.self.view_is in
    unknown c.deref-step-items.result.now c.loop-step.step-index c.args.input.now (omega arith) c.loop-step.invariant
    (subst (λ (steps : List CachedStep). Contains (map (λ (step : CachedStep). step.input) steps) c.args.input.now) (sym same) known)
