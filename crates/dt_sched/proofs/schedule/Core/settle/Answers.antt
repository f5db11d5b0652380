use Rattle.std.proofs.Common.{sym, ◌∙◌, subst}
use Rattle.dt_sched.specs.Core.{IsReady, core_of, head}
use Rattle.dt_sched.proofs.Tables.{none-ready, counted-settled, going-after}
use Rattle.dt_sched.proofs.schedule.Core.settle.Goals as goal

pub invariant_of-self : goal.invariant_of-self
invariant_of-self c =
    let old = c.self.inside in
    let ready : IsReady (head (core_of old.queue old.blocked old.left old.verdict)) =
    subst (λ v. IsReady (head v)) (sym c.self.view_is) c.requires.ready in
    record {
      each_once = c.len-count.ensures.each_once;
      counted = counted-settled old.queue _ c.args.turn c.self.invariant.counted c.settle.ensures;
      few = c.len-count.ensures.few;
      going = going-after (core_of old.queue old.blocked old.left old.verdict) _
          c.in-Some.field-0 c.args.turn
          (sym c.first.ensures ∙ c.in-Some.is) (c.self.invariant.going (none-ready old.verdict old.blocked old.left old.queue ready)) ready
          c.settle.ensures c.blocked_after-self-inside.ensures c.verdict_after-self-inside.ensures;
    }
