use Rattle.dt_runlaws.proofs.Begins.{begin-shows}
use Rattle.dt_runlaws.proofs.laws.beginning_shows_nothing.Goals as goal

pub returns : goal.returns
returns c = begin-shows
