use Rattle.std.proofs.Common.{arith}
use Rattle.std.proofs.lemmas.List.Edits.{map_over_more}
use Rattle.std.proofs.lemmas.Grind.{common_steps}
use Rattle.std.proofs.lemmas.Bool.Decides.{nat_tests}
use Rattle.dt_procs.specs.inner.Rows.{row_after_end}
use Rattle.dt_procs.proofs.row.end.Goals as goal

pub loop-row-preserved : goal.loop-row-preserved
loop-row-preserved c = grind (arith, nat_tests, common_steps, map_over_more (row_after_end c.args.vpid c.args.end))
