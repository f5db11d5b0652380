use Rattle.std.proofs.Common.{arith, ◌≡◌, ◌-◌, ℕ, Some, refl, sym, ap, subst, ◌∙◌}
use Rattle.std.specs.FinMap.{get}
use Rattle.dt_host.specs.World.{Forest, IsLive}
use Rattle.dt_tree.specs.declared.inode.Inode.{Inode}
use Rattle.dt_tree.specs.FileTree.{FileTree, IsTree, IsTreeBut}
use Rattle.dt_tree.specs.Changes.{with_attributes, attributes_without_hold, without_unused}
use Rattle.dt_tree.specs.Table.{Table, tree_of, IsMirror}
use Rattle.dt_tree.specs.inner.Tables.{with_inode}
use Rattle.dt_tree.proofs.Mirroring.{live-inode}
use Rattle.dt_tree.proofs.Changing.{IsTreeBut-released, shape-with_attributes}
use Rattle.dt_tree.proofs.Calling.{released-is, IsTree-released}
use Rattle.dt_tree.proofs.Linked.{mirrors-changed, tree-changed, holds-inode, has_inode-held}
use Rattle.dt_host.proofs.Outcomes.{on_ok, on_both}
use Rattle.dt_tree.proofs.tree.Tree.release.Goals as goal

-- the tree with one hold fewer
fewer : (t new : Table) (v : Forest) (n : ℕ) (inode : Inode) → IsMirror t v → get t.inodes n ≡ Some inode → new ≡ with_inode t n (record inode { holds = inode.holds - 1 }) → tree_of new v ≡ with_attributes (tree_of t v) n attributes_without_hold
fewer t new v n inode s at e = ap (λ t. tree_of t v) e ∙ tree-changed t v n inode (record inode { holds = inode.holds - 1 }) attributes_without_hold s at refl refl refl refl refl

pub inode-inode-requires : goal.inode-inode-requires
inode-inode-requires g c = has_inode-held c.args.self.now (g.H.Host.view c.args.host.now).forest _ c.requires.held

pub overflow_sub-inode : goal.overflow_sub-inode
overflow_sub-inode g c = omega (arith, c.requires.held, holds-inode c.args.self.now (g.H.Host.view c.args.host.now).forest c.args.vino c.inode-inode.result c.inode-inode.ensures)

pub sweep-requires-clause-mirrors : goal.sweep-requires-clause-mirrors
sweep-requires-clause-mirrors g c =
    let v = (g.H.Host.view c.args.host.now).forest in
    subst (λ t. IsMirror t v) (sym c.set.ensures)
    (mirrors-changed c.args.self.now v c.args.vino c.inode-inode.result (record c.inode-inode.result { holds = c.inode-inode.result.holds - 1 }) attributes_without_hold c.requires.stands.mirrors c.inode-inode.ensures refl refl refl refl refl)

pub sweep-requires-clause-tree : goal.sweep-requires-clause-tree
sweep-requires-clause-tree g c =
    let v = (g.H.Host.view c.args.host.now).forest in
    subst (IsTreeBut _) (sym (fewer c.args.self.now c.set.new.self v c.args.vino c.inode-inode.result c.requires.stands.mirrors c.inode-inode.ensures c.set.ensures)) (IsTreeBut-released (tree_of c.args.self.now v) c.args.vino c.requires.stands.tree)

pub sweep-requires-clause-live : goal.sweep-requires-clause-live
sweep-requires-clause-live g c =
    let v = (g.H.Host.view c.args.host.now).forest in
    let t = tree_of c.args.self.now v in
    let after = fewer c.args.self.now c.set.new.self v c.args.vino c.inode-inode.result c.requires.stands.mirrors c.inode-inode.ensures c.set.ensures in
    let shape = ap (λ (t : FileTree). t.shape) after ∙ shape-with_attributes t c.args.vino attributes_without_hold in
    subst (λ w. IsLive w c.args.vino) (sym shape) (live-inode c.args.self.now v c.args.vino (has_inode-held c.args.self.now v c.args.vino c.requires.held))

pub returns-clause-tree : goal.returns-clause-tree
returns-clause-tree g c =
    let v = (g.H.Host.view c.args.host.now).forest in
    let after = fewer c.args.self.now c.set.new.self v c.args.vino c.inode-inode.result c.requires.stands.mirrors c.inode-inode.ensures c.set.ensures in
    on_ok c.sweep.result (λ e. e ∙ ap (λ t. without_unused t c.args.vino) after ∙ sym (released-is (tree_of c.args.self.now v) c.args.vino)) c.sweep.ensures.tree

pub returns-clause-stands : goal.returns-clause-stands
returns-clause-stands g c =
    let v = (g.H.Host.view c.args.host.now).forest in
    let after = fewer c.args.self.now c.set.new.self v c.args.vino c.inode-inode.result c.requires.stands.mirrors c.inode-inode.ensures c.set.ensures in
    on_both c.sweep.result (λ m e. record {
      mirrors = m;
      tree = subst IsTree (sym (e ∙ ap (λ t. without_unused t c.args.vino) after ∙ sym (released-is (tree_of c.args.self.now v) c.args.vino))) (IsTree-released (tree_of c.args.self.now v) c.args.vino c.requires.stands.tree);
    }) c.sweep.ensures.mirrors c.sweep.ensures.tree
