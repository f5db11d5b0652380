use Rattle.dt_runlaws.proofs.Carries.{admission-shows}
use Rattle.dt_runlaws.proofs.laws.admission_shows_its_events.Goals as goal

pub returns : goal.returns
returns c = admission-shows
