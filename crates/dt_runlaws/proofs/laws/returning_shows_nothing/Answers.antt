use Rattle.dt_runlaws.proofs.Carries.{return-shows}
use Rattle.dt_runlaws.proofs.laws.returning_shows_nothing.Goals as goal

pub returns : goal.returns
returns c = return-shows
