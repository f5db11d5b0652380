use Rattle.dt_runlaws.proofs.FewRuns.{admissions-show-few}
use Rattle.dt_runlaws.proofs.few.admission_shows_few_events.Goals as goal

pub returns : goal.returns
returns c = admissions-show-few
