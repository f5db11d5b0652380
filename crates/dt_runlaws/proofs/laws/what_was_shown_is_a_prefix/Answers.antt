use Rattle.dt_runlaws.proofs.Writes.{nothing-writes}
use Rattle.dt_runlaws.proofs.laws.what_was_shown_is_a_prefix.Goals as goal

pub returns : goal.returns
returns c = nothing-writes
