use Rattle.dt_board.specs.Passes.{IsIdleAt}
use Rattle.dt_tests_machine.proofs.crews.sweep.Given as goal

abbrev pub invariant-loop : goal.invariant-loop
invariant-loop l = IsIdleAt l.fn.board l.pass
