use Rattle.dt_engine.proofs.Returns.{return-runs}
use Rattle.dt_engine.proofs.laws.machine_that_comes_back_has_run_its_segment.Goals as goal

pub returns : goal.returns
returns c = return-runs
