use Rattle.std.proofs.Common.{◌≡◌, ◌≤◌, [], None, All}
use Rattle.dt_engine.specs.InPlay.{playing_of}
use Rattle.dt_engine.specs.Onward.{left_of, IsAtRest, Goes}
use Rattle.dt_rounds.specs.inner.Crew.{IsIdle}
use Rattle.dt_rounds.proofs.Taking.{steps_ahead}
use Rattle.dt_rounds.proofs.live.Live.go_on.Given as goal

-- the run is what was written so far, and what is left
abbrev pub invariant-loop-self : goal.invariant-loop-self
invariant-loop-self g l = record {
  goes : Goes (left_of (playing_of l.fn.self.engine (g.H.Host.view l.fn.host))) (g.O.Sink.told l.fn.out)
      (playing_of l.self.engine (g.H.Host.view l.host)) [] (g.O.Sink.told l.out);
  rest : IsAtRest l.self.engine (g.H.Host.view l.host);
  home : l.self.engine.verdict ≡ None → l.self.lents.items ≡ [];
  board : l.self.desk.pass.board ≡ l.fn.self.desk.pass.board;
  runner : l.runner.board.now ≡ l.fn.runner.board.now;
  crew : All (IsIdle l.runner.board.now) l.runner.crew.items;
  open_still : l.self.engine.finished ≡ l.fn.self.engine.finished;
  host : g.H.Host.count l.fn.host ≤ g.H.Host.count l.host;
  sink : g.O.Sink.count l.fn.out ≤ g.O.Sink.count l.out;
}

abbrev pub decreases-loop-self : goal.decreases-loop-self
decreases-loop-self g l = steps_ahead l.self.engine
