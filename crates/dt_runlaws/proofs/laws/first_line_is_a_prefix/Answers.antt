use Rattle.dt_runlaws.proofs.Writes.{begin-writes}
use Rattle.dt_runlaws.proofs.laws.first_line_is_a_prefix.Goals as goal

pub returns : goal.returns
returns c = begin-writes
