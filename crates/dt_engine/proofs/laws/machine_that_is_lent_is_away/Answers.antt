use Rattle.dt_engine.proofs.Left.{lend-leaves}
use Rattle.dt_engine.proofs.laws.machine_that_is_lent_is_away.Goals as goal

pub returns : goal.returns
returns c = lend-leaves
