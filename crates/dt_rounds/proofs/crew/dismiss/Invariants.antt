use Rattle.std.proofs.Common.{◌≡◌, All}
use Rattle.dt_rounds.specs.inner.Crew.{IsIdle}
use Rattle.dt_rounds.proofs.crew.dismiss.Given as goal

-- the workers that are left are idle
abbrev pub invariant-loop-worker : goal.invariant-loop-worker
invariant-loop-worker l = (l.pass ≡ l.fn.pass) × All (IsIdle l.board) l.crew.items

abbrev pub decreases-loop-worker : goal.decreases-loop-worker
decreases-loop-worker l = goal.left-loop-worker l
