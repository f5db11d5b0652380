use Rattle.std.proofs.Common.{◌≡◌, ◌≤◌}
use Rattle.dt_calls.specs.Sound.{IsSoundContainer}
use Rattle.dt_engine.specs.InPlay.{playing_of, IsFull, IsInPlay}
use Rattle.dt_engine.proofs.Happened.{Plays}
use Rattle.dt_engine.proofs.engine.Engine.play_longest.Given as goal

-- those so far have happened, and what they showed was written
abbrev pub invariant-loop-happening : goal.invariant-loop-happening
invariant-loop-happening g l = record {
  plays : Plays (playing_of l.fn.self (g.H.Host.view l.fn.host)) l.happenings (g.O.Sink.told l.fn.out) l.happening-index
      (playing_of l.self (g.H.Host.view l.host)) (g.O.Sink.told l.out);
  place : l.count ≡ l.happening-index;
  whole : IsInPlay l.self;
  sound : IsSoundContainer l.self.state.container (g.H.Host.view l.host);
  full : (let e = playing_of l.self (g.H.Host.view l.host) in IsFull e.state);
  open_still : l.self.finished ≡ l.fn.self.finished;
  host : g.H.Host.count l.fn.host ≤ g.H.Host.count l.host;
  sink : g.O.Sink.count l.fn.out ≤ g.O.Sink.count l.out;
}
