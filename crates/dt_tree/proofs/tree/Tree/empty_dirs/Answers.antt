use Rattle.std.proofs.Common.{arith, ◌∙◌}
use Rattle.dt_tree.proofs.Emptied.{has-kinds, kinds-thinned, emptied}
use Rattle.dt_tree.proofs.tree.Tree.empty_dirs.Goals as goal

pub empty_at-requires : goal.empty_at-requires
empty_at-requires g c = kinds-thinned c.args.self.now _ _ c.loop-n.invariant.thins (has-kinds c.args.self.now _ c.requires)

pub returns-clause-emptied : goal.returns-clause-emptied
returns-clause-emptied g c =
    emptied c.args.self.now _ c.requires _ c.loop-n.invariant.thins
    (λ q inode least below there. c.loop-n.invariant.done q inode least (omega (arith, below)) there)
