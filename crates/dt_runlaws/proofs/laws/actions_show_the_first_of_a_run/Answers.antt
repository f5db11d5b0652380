use Rattle.dt_runlaws.proofs.Onward.{points-show}
use Rattle.dt_runlaws.proofs.laws.actions_show_the_first_of_a_run.Goals as goal

pub returns : goal.returns
returns c = points-show
