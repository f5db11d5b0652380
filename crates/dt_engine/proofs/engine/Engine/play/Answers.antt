use Rattle.dt_engine.specs.InPlay.{playing_of}
use Rattle.dt_engine.proofs.Happened.{play-run, play-shown}
use Rattle.dt_engine.proofs.engine.Engine.play.Goals as goal

pub returns-clause-turns : goal.returns-clause-turns
returns-clause-turns g c =
    play-run c.play_longest.result (playing_of c.args.self.now (g.H.Host.view c.args.host.now))
    (playing_of c.play_longest.new.self (g.H.Host.view c.play_longest.new.host)) c.args.happenings.now
    c.play_longest.ensures.count c.play_longest.ensures.run

pub returns-clause-shown : goal.returns-clause-shown
returns-clause-shown g c =
    play-shown c.play_longest.result (playing_of c.args.self.now (g.H.Host.view c.args.host.now)) c.args.happenings.now
    (g.O.Sink.told c.args.out.now) (g.O.Sink.told c.play_longest.new.out)
    c.play_longest.ensures.count c.play_longest.ensures.wrote
