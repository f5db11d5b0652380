use Rattle.dt_runlaws.proofs.Writes.{happenings-write}
use Rattle.dt_runlaws.proofs.laws.happenings_write_a_prefix.Goals as goal

pub returns : goal.returns
returns c = happenings-write
