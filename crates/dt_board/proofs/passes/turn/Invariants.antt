use Rattle.std.proofs.Common.{◌≡◌}
use Rattle.dt_board.specs.inner.Held.{rotated}
use Rattle.dt_board.proofs.passes.turn.Given as goal

abbrev pub invariant-loop : goal.invariant-loop
invariant-loop l = (l.seat.table_id ≡ l.fn.seat.table_id) × (l.seat.id ≡ l.fn.seat.id) × (l.seat.me ≡ (l.fn.seat.me.0, rotated l.counter l.fn.seat.me.1))
