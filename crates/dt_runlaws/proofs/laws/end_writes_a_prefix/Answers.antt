use Rattle.dt_runlaws.proofs.Writes.{end-writes}
use Rattle.dt_runlaws.proofs.laws.end_writes_a_prefix.Goals as goal

pub returns : goal.returns
returns c = end-writes
