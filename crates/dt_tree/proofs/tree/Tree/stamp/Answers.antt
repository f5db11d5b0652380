use Rattle.std.proofs.Common.{◌≡◌, refl, sym, subst}
use Rattle.dt_tree.specs.Changes.{with_stamp, tree_with_stamp}
use Rattle.dt_tree.specs.Table.{tree_of, IsMirror}
use Rattle.dt_tree.proofs.Linked.{mirrors-changed, tree-changed}
use Rattle.dt_tree.proofs.tree.Tree.stamp.Goals as goal

pub returns-clause-mirrors : goal.returns-clause-mirrors
returns-clause-mirrors c v s =
    subst (λ t. IsMirror t v) (sym c.set.ensures)
    (mirrors-changed c.args.self.now v c.args.n c.inode-inode.result (record c.inode-inode.result { stamp = c.args.stamp }) (with_stamp c.args.stamp) s c.inode-inode.ensures refl refl refl refl refl)

pub returns-clause-tree : goal.returns-clause-tree
returns-clause-tree c v s =
    subst (λ t. tree_of t v ≡ tree_with_stamp (tree_of c.args.self.now v) c.args.n c.args.stamp) (sym c.set.ensures)
    (tree-changed c.args.self.now v c.args.n c.inode-inode.result (record c.inode-inode.result { stamp = c.args.stamp }) (with_stamp c.args.stamp) s c.inode-inode.ensures refl refl refl refl refl)
