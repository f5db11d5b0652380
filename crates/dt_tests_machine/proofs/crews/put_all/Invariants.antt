use Rattle.std.proofs.Common.{◌≡◌}
use Rattle.dt_tests_machine.proofs.crews.put_all.Given as goal

abbrev pub invariant-loop-place : goal.invariant-loop-place
invariant-loop-place l = l.desk.pass.board ≡ l.fn.desk.pass.board
