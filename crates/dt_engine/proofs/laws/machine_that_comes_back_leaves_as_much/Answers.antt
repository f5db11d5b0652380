use Rattle.dt_engine.proofs.Left.{return-leaves}
use Rattle.dt_engine.proofs.laws.machine_that_comes_back_leaves_as_much.Goals as goal

pub returns : goal.returns
returns c = return-leaves
