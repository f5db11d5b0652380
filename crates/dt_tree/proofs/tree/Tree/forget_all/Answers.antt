use Rattle.std.proofs.Common.{arith, ap, ◌∙◌}
use Rattle.dt_host.specs.World.{empty_forest}
use Rattle.dt_tree.proofs.Emptied.{first-forgotten, root-left}
use Rattle.dt_tree.proofs.tree.Tree.forget_all.Goals as goal

pub returns-clause-cleared : goal.returns-clause-cleared
returns-clause-cleared g c =
    root-left c.args.self.now c.loop-n.n _ (omega arith) c.loop-n.invariant.forgotten
    ∙ ap empty_forest c.loop-n.invariant.root
