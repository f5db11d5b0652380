use Rattle.dt_runlaws.proofs.FewCalls.{turns-show-few}
use Rattle.dt_runlaws.proofs.few.turn_shows_few_events.Goals as goal

pub returns : goal.returns
returns c = turns-show-few
