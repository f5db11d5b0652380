use Rattle.std.proofs.Common.{◌∙◌, sym}
use Rattle.dt_signals.proofs.Deliveries.{delivered-lowest}
use Rattle.dt_signals.proofs.delivery.deliver_pending.Goals as goal

pub returns-in-Ok-clause-delivered : goal.returns-in-Ok-clause-delivered
returns-in-Ok-clause-delivered c =
    delivered-lowest c.args.sig.now c.drop_ignored.new.self c.in-Some.signal c.args.call c.args.machine.now c.drop_ignored.ensures (sym c.deliverable.ensures.lowest ∙ c.in-Some.is) ∙ (rw c.take.ensures at c.in-Ok.ensures.acted)
