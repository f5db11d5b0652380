use Rattle.std.proofs.Common.{◌≡◌, ◌≤◌, ◌<◌, ℕ, false}
use Rattle.dt_pipes.specs.declared.pipe.TheConstants.{FIRST_PIPE}
use Rattle.dt_pipes.specs.Changes.{OnlyPipes}
use Rattle.dt_pipes.specs.Table.{Stands, has_pipe}
use Rattle.dt_pipes.proofs.pipes.Pipes.clear.Given as goal

-- so far the first numbers have no pipes
abbrev pub invariant-loop-q : goal.invariant-loop-q
invariant-loop-q g l = record {
  later : g.H.Host.count l.fn.host ≤ g.H.Host.count l.host;
  gone : (r : ℕ) → FIRST_PIPE ≤ r → r < l.q → has_pipe l.self r ≡ false;
  next : l.self.next ≡ l.fn.self.next;
  stands : Stands l.self (g.H.Host.view l.host).pipes;
  rest : OnlyPipes (g.H.Host.view l.fn.host) (g.H.Host.view l.host);
}
