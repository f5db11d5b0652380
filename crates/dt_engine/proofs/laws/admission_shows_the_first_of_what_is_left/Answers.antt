use Rattle.dt_engine.proofs.Left.{admission-leaves}
use Rattle.dt_engine.proofs.laws.admission_shows_the_first_of_what_is_left.Goals as goal

pub returns : goal.returns
returns c = admission-leaves
