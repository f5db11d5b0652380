use Rattle.dt_runlaws.proofs.FewRuns.{playings-keep-few}
use Rattle.dt_runlaws.proofs.few.run_keeps_few_processes.Goals as goal

pub returns : goal.returns
returns c = playings-keep-few
