use Rattle.dt_runlaws.proofs.FewRuns.{runs-show-few}
use Rattle.dt_runlaws.proofs.few.each_turn_of_a_run_shows_few_events.Goals as goal

pub returns : goal.returns
returns c = runs-show-few
