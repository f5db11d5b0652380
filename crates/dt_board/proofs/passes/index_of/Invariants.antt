use Rattle.std.proofs.Common.{◌≡◌, true, drop}
use Rattle.dt_board.specs.inner.Held.{has}
use Rattle.dt_board.proofs.passes.index_of.Given as goal

abbrev pub invariant-loop-index : goal.invariant-loop-index
invariant-loop-index l = has l.fn.place (drop l.index l.fn.order.items) ≡ true
