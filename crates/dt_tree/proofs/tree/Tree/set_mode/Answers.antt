use Rattle.std.proofs.Common.{refl, sym, ap, subst, ◌∙◌}
use Rattle.dt_tree.specs.FileTree.{IsTree}
use Rattle.dt_tree.specs.Calls.{KeepsHeld}
use Rattle.dt_tree.specs.Changes.{with_mode}
use Rattle.dt_tree.specs.Table.{tree_of, IsMirror}
use Rattle.dt_tree.proofs.Mirroring.{has_inode}
use Rattle.dt_tree.proofs.Linked.{mirrors-changed, tree-changed}
use Rattle.dt_tree.proofs.Calling.{IsTree-chmodded, KeepsHeld-chmodded}
use Rattle.dt_tree.proofs.tree.Tree.set_mode.Goals as goal

pub inode-inode-requires : goal.inode-inode-requires
inode-inode-requires g c = has_inode _ (g.H.Host.view c.args.host.now).forest _ c.requires.live

pub returns-clause-tree : goal.returns-clause-tree
returns-clause-tree g c =
    let v = (g.H.Host.view c.args.host.now).forest in
    ap (λ t. tree_of t v) c.set.ensures
    ∙ tree-changed c.args.self.now v c.args.vino c.inode-inode.result (record c.inode-inode.result { mode = c.args.mode }) (with_mode c.args.mode) c.requires.stands.mirrors c.inode-inode.ensures refl refl refl refl refl

pub returns-clause-stands : goal.returns-clause-stands
returns-clause-stands g c =
    let v = (g.H.Host.view c.args.host.now).forest in
    let after = ap (λ t. tree_of t v) c.set.ensures ∙ tree-changed c.args.self.now v c.args.vino c.inode-inode.result (record c.inode-inode.result { mode = c.args.mode }) (with_mode c.args.mode) c.requires.stands.mirrors c.inode-inode.ensures refl refl refl refl refl in
    record {
      mirrors = subst (λ t. IsMirror t v) (sym c.set.ensures) (mirrors-changed c.args.self.now v c.args.vino c.inode-inode.result (record c.inode-inode.result { mode = c.args.mode }) (with_mode c.args.mode) c.requires.stands.mirrors c.inode-inode.ensures refl refl refl refl refl);
      tree = subst IsTree (sym after) (IsTree-chmodded (tree_of c.args.self.now v) c.args.vino c.args.mode c.requires.stands.tree c.requires.no_link c.requires.mode);
    }

pub returns-clause-held : goal.returns-clause-held
returns-clause-held g c =
    let v = (g.H.Host.view c.args.host.now).forest in
    let after = ap (λ t. tree_of t v) c.set.ensures ∙ tree-changed c.args.self.now v c.args.vino c.inode-inode.result (record c.inode-inode.result { mode = c.args.mode }) (with_mode c.args.mode) c.requires.stands.mirrors c.inode-inode.ensures refl refl refl refl refl in
    subst (λ t. KeepsHeld (tree_of c.args.self.now v) t) (sym after) (KeepsHeld-chmodded (tree_of c.args.self.now v) c.args.vino c.args.mode)
