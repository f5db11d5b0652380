use Rattle.dt_runlaws.proofs.FewRuns.{states-show-few}
use Rattle.dt_runlaws.proofs.few.turn_of_run_shows_few_events.Goals as goal

pub returns : goal.returns
returns c = states-show-few
