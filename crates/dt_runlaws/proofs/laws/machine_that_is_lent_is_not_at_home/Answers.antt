use Rattle.dt_runlaws.proofs.Carries.{lent-is-away}
use Rattle.dt_runlaws.proofs.laws.machine_that_is_lent_is_not_at_home.Goals as goal

pub returns : goal.returns
returns c = lent-is-away
