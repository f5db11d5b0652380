use Rattle.std.proofs.Common.{◌≡◌, length}
use Rattle.std.specs.Prelude.{All}
use Rattle.dt_board.specs.Passes.{IsIdleAt}
use Rattle.dt_tests_machine.proofs.crews.end.Given as goal

abbrev pub invariant-loop-worker : goal.invariant-loop-worker
invariant-loop-worker l = (l.pass ≡ l.fn.pass) × All (IsIdleAt l.fn.board) l.crew.items

abbrev pub decreases-loop-worker : goal.decreases-loop-worker
decreases-loop-worker l = length l.crew.items
