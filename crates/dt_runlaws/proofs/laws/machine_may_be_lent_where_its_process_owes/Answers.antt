use Rattle.dt_runlaws.proofs.Points.{may-lend-owed}
use Rattle.dt_runlaws.proofs.laws.machine_may_be_lent_where_its_process_owes.Goals as goal

pub returns : goal.returns
returns c = may-lend-owed
