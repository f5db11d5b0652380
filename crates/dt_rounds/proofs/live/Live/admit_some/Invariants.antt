use Rattle.std.proofs.Common.{◌≡◌, ◌≤◌}
use Rattle.dt_rounds.specs.inner.Round.{GoesOn}
use Rattle.dt_rounds.proofs.live.Live.admit_some.Given as goal

-- turns were taken, and machines may have come home
abbrev pub invariant-loop : goal.invariant-loop
invariant-loop g l = record {
  on : GoesOn l.fn.self.engine l.fn.self.lents.items (g.H.Host.view l.fn.host) (g.O.Sink.told l.fn.out)
      l.self.engine l.self.lents.items (g.H.Host.view l.host) (g.O.Sink.told l.out);
  board : l.self.desk.pass.board ≡ l.fn.self.desk.pass.board;
  open_still : l.self.engine.finished ≡ l.fn.self.engine.finished;
  host : g.H.Host.count l.fn.host ≤ g.H.Host.count l.host;
  sink : g.O.Sink.count l.fn.out ≤ g.O.Sink.count l.out;
}
