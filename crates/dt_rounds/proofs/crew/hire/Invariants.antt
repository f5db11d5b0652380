use Rattle.std.proofs.Common.{◌≡◌, All}
use Rattle.dt_rounds.specs.inner.Crew.{IsIdle}
use Rattle.dt_rounds.proofs.crew.hire.Given as goal

-- the workers so far are idle
abbrev pub invariant-loop : goal.invariant-loop
invariant-loop l = (l.pass ≡ l.fn.pass) × All (IsIdle l.board) l.crew.items
