use Rattle.std.proofs.Common.{ap, ◌∙◌}
use Rattle.dt_engine.specs.Happenings.{may_happen}
use Rattle.dt_engine.specs.InPlay.{playing_of}
use Rattle.dt_engine.proofs.Queueing.{full-good, good-full}
use Rattle.dt_engine.proofs.engine.Engine.happen.Goals as goal

pub run_owed-requires-clause-good : goal.run_owed-requires-clause-good
run_owed-requires-clause-good g c =
    full-good c.args.self.now.state (g.H.Host.view c.args.host.now) c.requires.whole.kept c.requires.full

pub returns-in_ok-run_owed-in-Ran-clause-full : goal.returns-in_ok-run_owed-in-Ran-clause-full
returns-in_ok-run_owed-in-Ran-clause-full g c =
    good-full c.run_owed.new.self.state (g.H.Host.view c.args.host.now) c.in_ok-run_owed-in-Ran.ensures.good

pub returns-in_ok-run_owed-in-Ran-clause-may : goal.returns-in_ok-run_owed-in-Ran-clause-may
returns-in_ok-run_owed-in-Ran-clause-may g c =
    let before = g.H.Host.view c.args.host.now in
    ap (may_happen (playing_of c.args.self.now before)) c.in-Ran.is ∙ c.in_ok-run_owed-in-Ran.ensures.may before
