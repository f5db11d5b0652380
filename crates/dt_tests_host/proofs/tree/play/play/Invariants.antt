use Rattle.dt_tree.specs.Table.{Stands}
use Rattle.dt_tests_host.proofs.tree.play.play.Given as goal

abbrev pub invariant-loop-index : goal.invariant-loop-index
invariant-loop-index l = Stands l.tree l.host.view.forest
