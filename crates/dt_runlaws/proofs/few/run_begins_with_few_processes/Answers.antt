use Rattle.dt_runlaws.proofs.FewRuns.{first-states-have-few}
use Rattle.dt_runlaws.proofs.few.run_begins_with_few_processes.Goals as goal

pub returns : goal.returns
returns c = first-states-have-few
