use Rattle.dt_runlaws.proofs.Writes.{admission-writes}
use Rattle.dt_runlaws.proofs.laws.admission_writes_a_prefix.Goals as goal

pub returns : goal.returns
returns c = admission-writes
