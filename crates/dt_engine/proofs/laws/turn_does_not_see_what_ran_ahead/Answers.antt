use Rattle.dt_engine.proofs.Aheads.{turn-ahead}
use Rattle.dt_engine.proofs.laws.turn_does_not_see_what_ran_ahead.Goals as goal

pub returns : goal.returns
returns c = turn-ahead
