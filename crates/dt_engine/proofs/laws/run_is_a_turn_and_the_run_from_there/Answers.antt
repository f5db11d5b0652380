use Rattle.dt_engine.proofs.Turns.{run-by-turns}
use Rattle.dt_engine.proofs.laws.run_is_a_turn_and_the_run_from_there.Goals as goal

pub returns : goal.returns
returns c = run-by-turns
