use Rattle.dt_sched.proofs.Beside.{arrival-beside}
use Rattle.dt_sched.proofs.schedule.arrival_goes_beside_a_turn.Goals as goal

pub returns : goal.returns
returns c = arrival-beside
