use Rattle.dt_runlaws.proofs.Carries.{owes-at-home}
use Rattle.dt_runlaws.proofs.laws.process_that_owes_has_its_machine_at_home.Goals as goal

pub returns : goal.returns
returns c = owes-at-home
