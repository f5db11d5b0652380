use Rattle.std.proofs.Common.{arith, List, Ok, ap, ◌∙◌}
use Rattle.std.specs.List.{remove}
use Rattle.dt_steps.specs.declared.cache.CachedStep.{CachedStep}
use Rattle.dt_steps.specs.Cache.{CacheView, with_step}
use Rattle.dt_steps.proofs.Kept.{with-room, without-first, newest-full}
use Rattle.dt_steps.proofs.cache.Cache.add.Goals as goal

pub invariant_of-self-then-full : goal.invariant_of-self-then-full
invariant_of-self-then-full c =
    without-first c.self.inside.steps.items c.remove.new.self.items c.args.step c.self.inside.room c.self.invariant c.requires.cached
    (c.remove.ensures.items ∙ ap (λ (xs : List CachedStep). remove xs 0) c.in_ok-push.ensures.items)

pub invariant_of-self-else-full : goal.invariant_of-self-else-full
invariant_of-self-else-full c =
    with-room c.self.inside.steps.items c.push.new.self.items c.args.step c.self.inside.room c.self.invariant c.requires.cached
    (omega (arith, c.self.invariant.fits, c.len.ensures, c.if-full.false)) c.in_ok-push.ensures.items

pub returns-then-full-clause-ok : goal.returns-then-full-clause-ok
returns-then-full-clause-ok c =
    newest-full c.self.inside.steps.items c.remove.new.self.items c.args.step c.self.inside.room (omega (arith, c.len.ensures, c.if-full.true)) c.requires.cached.run
    (c.remove.ensures.items ∙ ap (λ (xs : List CachedStep). remove xs 0) c.in_ok-push.ensures.items)
    ∙ ap (λ (v : CacheView). with_step v c.args.step.input (Ok c.args.step.left)) c.self.view_is
