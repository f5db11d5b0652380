use Rattle.dt_runlaws.proofs.Carries.{verdict-shows}
use Rattle.dt_runlaws.proofs.laws.verdict_shows_everything.Goals as goal

pub returns : goal.returns
returns c = verdict-shows
