use Rattle.dt_runlaws.proofs.FewContainers.{containers-begin-few}
use Rattle.dt_runlaws.proofs.few.container_begins_with_few_processes.Goals as goal

pub returns : goal.returns
returns c = containers-begin-few
