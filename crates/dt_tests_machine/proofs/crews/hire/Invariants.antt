use Rattle.std.proofs.Common.{◌≡◌}
use Rattle.std.specs.Prelude.{All}
use Rattle.dt_board.specs.Passes.{IsIdleAt}
use Rattle.dt_tests_machine.proofs.crews.hire.Given as goal

abbrev pub invariant-loop : goal.invariant-loop
invariant-loop l = (l.pass ≡ l.fn.pass) × All (IsIdleAt l.fn.board) l.crew.items
