use Rattle.dt_engine.proofs.Aheads.{ran-ahead}
use Rattle.dt_engine.proofs.laws.running_ahead_again_changes_nothing.Goals as goal

pub returns : goal.returns
returns c = ran-ahead
