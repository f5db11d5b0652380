use Rattle.std.proofs.Common.{arith, ap}
use Rattle.dt_pipes.specs.Table.{Table}
use Rattle.dt_pipes.proofs.Cleared.{none-left}
use Rattle.dt_pipes.proofs.pipes.Pipes.clear.Goals as goal

pub returns-clause-cleared : goal.returns-clause-cleared
returns-clause-cleared g c =
    let last = ap (λ (t : Table). t.next) c.self.view_is in
    none-left c.loop-q.self _ c.loop-q.invariant.stands
    (λ r least below. c.loop-q.invariant.gone r least (omega (arith, last, below, c.loop-q.invariant.next, c.loop-q.auto.q-end, c.loop-q-test.false)))
