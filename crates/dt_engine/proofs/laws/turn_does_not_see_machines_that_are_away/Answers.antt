use Rattle.dt_engine.proofs.Aways.{turn-away}
use Rattle.dt_engine.proofs.laws.turn_does_not_see_machines_that_are_away.Goals as goal

pub returns : goal.returns
returns c = turn-away
