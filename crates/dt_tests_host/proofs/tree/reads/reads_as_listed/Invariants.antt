use Rattle.dt_tree.specs.Table.{Stands}
use Rattle.dt_tests_host.proofs.tree.reads.reads_as_listed.Given as goal

abbrev pub invariant-loop-off : goal.invariant-loop-off
invariant-loop-off l = Stands l.tree l.host.view.forest
