use Rattle.dt_board.specs.Sweep.{IsSweep}
use Rattle.dt_board.proofs.board.Board.work.Given as goal

abbrev pub invariant-loop-place : goal.invariant-loop-place
invariant-loop-place g l = IsSweep l.place l.fn.pass l.pass l.done
