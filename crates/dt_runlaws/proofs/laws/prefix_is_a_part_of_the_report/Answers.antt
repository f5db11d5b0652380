use Rattle.dt_runlaws.proofs.Writes.{prefix-is-part}
use Rattle.dt_runlaws.proofs.laws.prefix_is_a_part_of_the_report.Goals as goal

pub returns : goal.returns
returns c = prefix-is-part
