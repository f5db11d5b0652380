use Rattle.std.proofs.Common.{refl}
use Rattle.dt_engine.proofs.Arriving.{run-counts}
use Rattle.dt_rounds.proofs.Brought.{away-at, comes-home}
use Rattle.dt_rounds.proofs.live.Live.take.Goals as goal

pub ran-requires-clause-away : goal.ran-requires-clause-away
ran-requires-clause-away c =
    away-at c.args.self.now.engine c.args.self.now.lents.items c.args.index c.remove-lent.result c.remove-lent.ensures.value
    c.requires.index c.requires.running c.requires.away

pub ran-requires-clause-count : goal.ran-requires-clause-count
ran-requires-clause-count c = run-counts c.remove-lent.result.copy c.in_ok-machine.machine c.in_ok-machine.seg c.in_ok-machine.ensures

pub returns-clause-keeps : goal.returns-clause-keeps
returns-clause-keeps c =
    comes-home c.args.self.now.engine c.args.self.now.lents.items c.args.index c.remove-lent.result c.remove-lent.ensures.value
    c.requires.index c.requires.running c.in_ok-machine.machine c.in_ok-machine.seg c.in_ok-machine.ensures
    c.ran.new.self c.remove-lent.new.self.items c.remove-lent.ensures.items
    c.ran.ensures.run c.ran.ensures.nearer c.ran.ensures.whole c.ran.ensures.sound
