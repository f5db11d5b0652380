use Rattle.dt_engine.proofs.Turns.{runs-alike}
use Rattle.dt_engine.proofs.laws.runs_do_not_see_what_ran_ahead.Goals as goal

pub returns : goal.returns
returns c = runs-alike
