use Rattle.dt_runlaws.proofs.FewContainers.{containers-show-few}
use Rattle.dt_runlaws.proofs.few.container_shows_few_events.Goals as goal

pub returns : goal.returns
returns c = containers-show-few
