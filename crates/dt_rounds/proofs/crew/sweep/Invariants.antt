use Rattle.dt_rounds.specs.inner.Crew.{IsIdle}
use Rattle.dt_rounds.proofs.crew.sweep.Given as goal

-- it is idle between two sweeps
abbrev pub invariant-loop : goal.invariant-loop
invariant-loop g l = IsIdle l.board l.worker
