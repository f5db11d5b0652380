use Rattle.dt_engine.proofs.Returns.{rest-at-first}
use Rattle.dt_engine.proofs.laws.all_of_a_run_is_left_at_first.Goals as goal

pub returns : goal.returns
returns c = rest-at-first
