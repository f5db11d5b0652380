use Rattle.dt_engine.proofs.Left.{happenings-leave}
use Rattle.dt_engine.proofs.laws.happenings_show_the_first_of_what_is_left.Goals as goal

pub returns : goal.returns
returns c = happenings-leave
