use Rattle.std.proofs.Common.{◌≡◌, ◌≤◌}
use Rattle.std.specs.VecDeque.{deque_capacity}
use Rattle.dt_board.specs.inner.Held.{places_from}
use Rattle.dt_board.specs.declared.view.TheConstants.{PLACES}
use Rattle.dt_board.proofs.board.all_places.Given as goal

abbrev pub invariant-loop-place : goal.invariant-loop-place
invariant-loop-place l = (l.order.items ≡ places_from 0 l.place) × (PLACES ≤ deque_capacity l.order)
