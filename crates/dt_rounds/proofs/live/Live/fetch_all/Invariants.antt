use Rattle.std.proofs.Common.{◌≡◌, ◌≤◌, length}
use Rattle.dt_rounds.specs.inner.Round.{KeepsRun}
use Rattle.dt_rounds.proofs.live.Live.fetch_all.Given as goal

-- the machines of these pids have not come home
abbrev pub invariant-loop-host : goal.invariant-loop-host
invariant-loop-host g l = record {
  keeps : KeepsRun l.fn.self.engine l.fn.self.lents.items l.self.engine l.self.lents.items (g.H.Host.view l.fn.host);
  count : length l.vpids.items ≡ length l.self.lents.items;
  stays : g.H.Host.view l.host ≡ g.H.Host.view l.fn.host;
  board : l.self.desk.pass.board ≡ l.fn.self.desk.pass.board;
  open_still : l.self.engine.finished ≡ l.fn.self.engine.finished;
  host : g.H.Host.count l.fn.host ≤ g.H.Host.count l.host;
}

abbrev pub decreases-loop-host : goal.decreases-loop-host
decreases-loop-host g l = length l.vpids.items
