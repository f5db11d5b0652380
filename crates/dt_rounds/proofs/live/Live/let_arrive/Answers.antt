use Rattle.std.proofs.Common.{ap, ◌∙◌}
use Rattle.dt_engine.specs.Ahead.{with_segment_of}
use Rattle.dt_engine.specs.Playing.{playing_with_all_segments}
use Rattle.dt_engine.specs.InPlay.{playing_of}
use Rattle.dt_engine.proofs.Aheads.{ran-ahead}
use Rattle.dt_rounds.proofs.live.Live.let_arrive.Goals as goal

pub arrive-requires-clause-full : goal.arrive-requires-clause-full
arrive-requires-clause-full g c = λ _. c.requires.full

pub returns-clause-alike : goal.returns-clause-alike
returns-clause-alike g c =
    let now = g.H.Host.view c.next_stop.new.self in
    let e = playing_of c.args.self.now.engine now in
    ap playing_with_all_segments (c.in_ok-stop.ensures.ran now)
    ∙ ap (λ s. record e { state = s }) (ran-ahead _ e.state)
    ∙ ap (λ w. playing_with_all_segments (playing_of c.args.self.now.engine w)) c.next_stop.ensures.stays

pub returns-clause-full : goal.returns-clause-full
returns-clause-full g c = c.in_ok-stop.ensures.full (g.H.Host.view c.next_stop.new.self)
