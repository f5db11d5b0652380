use Rattle.dt_runlaws.proofs.FewContainers.{launches-leave-few}
use Rattle.dt_runlaws.proofs.few.launch_leaves_few_processes.Goals as goal

pub returns : goal.returns
returns c = launches-leave-few
