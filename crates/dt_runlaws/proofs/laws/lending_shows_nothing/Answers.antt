use Rattle.dt_runlaws.proofs.Carries.{lend-shows}
use Rattle.dt_runlaws.proofs.laws.lending_shows_nothing.Goals as goal

pub returns : goal.returns
returns c = lend-shows
