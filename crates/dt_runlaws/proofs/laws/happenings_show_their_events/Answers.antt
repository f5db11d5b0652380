use Rattle.dt_runlaws.proofs.Carries.{happenings-show}
use Rattle.dt_runlaws.proofs.laws.happenings_show_their_events.Goals as goal

pub returns : goal.returns
returns c = happenings-show
