use Rattle.dt_runlaws.proofs.Carries.{nothing-lent}
use Rattle.dt_runlaws.proofs.laws.with_nothing_lent_all_machines_are_at_home.Goals as goal

pub returns : goal.returns
returns c = nothing-lent
