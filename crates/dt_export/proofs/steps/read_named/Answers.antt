use Rattle.std.proofs.Common.{arith}
use Rattle.dt_export.proofs.Listed.{too_long}
use Rattle.dt_export.proofs.steps.read_named.Goals as goal

pub returns-in-Some-clause-steps : goal.returns-in-Some-clause-steps
returns-in-Some-clause-steps g c =
    too_long (g.S.Store.told c.args.store.now) c.args.name.now c.in-Some.size (rw c.in-Some.is at c.in_ok-size_in.ensures.ok) (omega arith)
