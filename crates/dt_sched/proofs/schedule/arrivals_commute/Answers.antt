use Rattle.std.proofs.Common.{ap}
use Rattle.dt_sched.proofs.Tables.{arrived-twice}
use Rattle.dt_sched.proofs.schedule.arrivals_commute.Goals as goal

pub returns : goal.returns
returns c = λ core p q first second apart. ap (λ queue. record core { queue = queue }) (arrived-twice p q first second core.queue apart)
