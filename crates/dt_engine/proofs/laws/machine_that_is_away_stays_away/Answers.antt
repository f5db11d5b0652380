use Rattle.dt_engine.proofs.Left.{away-stays}
use Rattle.dt_engine.proofs.laws.machine_that_is_away_stays_away.Goals as goal

pub returns : goal.returns
returns c = away-stays
