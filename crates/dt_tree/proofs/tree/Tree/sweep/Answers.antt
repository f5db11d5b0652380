use Rattle.std.proofs.Common.{◌≡◌, sym, ap, subst, ◌∙◌}
use Rattle.dt_host.specs.World.{World}
use Rattle.dt_host.proofs.Pipes.{may_go, without-node}
use Rattle.dt_tree.specs.Changes.{without_unused}
use Rattle.dt_tree.specs.Table.{tree_of, IsMirror}
use Rattle.dt_tree.specs.inner.Tables.{without_inode}
use Rattle.dt_tree.proofs.Changing.{swept-stays, swept-goes, unused_node}
use Rattle.dt_tree.proofs.Mirroring.{has_inode, real_live}
use Rattle.dt_tree.proofs.Linked.{is_unused-inode}
use Rattle.dt_tree.proofs.Forgetting.{real_bare, real_nameless, real_low, mirrors-without, tree-without}
use Rattle.dt_tree.proofs.tree.Tree.sweep.Goals as goal

pub inode-inode-requires : goal.inode-inode-requires
inode-inode-requires g c = has_inode _ _ _ c.requires.live

pub returns-then-not-is_unused-clause-tree : goal.returns-then-not-is_unused-clause-tree
returns-then-not-is_unused-clause-tree g c =
    let v = (g.H.Host.view c.args.host.now).forest in
    swept-stays (tree_of c.args.self.now v) c.args.n (is_unused-inode c.args.self.now v c.args.n c.inode-inode.result c.requires.mirrors c.inode-inode.ensures ∙ sym c.is_unused.ensures ∙ c.if-not-is_unused.true)

pub forget-requires : goal.forget-requires
forget-requires g c =
    let v = (g.H.Host.view c.args.host.now).forest in
    let unused = unused_node (tree_of c.args.self.now v) c.args.n c.requires.tree (is_unused-inode c.args.self.now v c.args.n c.inode-inode.result c.requires.mirrors c.inode-inode.ensures ∙ sym c.is_unused.ensures ∙ c.if-not-is_unused.false) in
    may_go (g.H.Host.view c.args.host.now) c.inode-inode.result.real c.faults-before.ensures.pipes record {
      live = real_live _ _ c.requires.mirrors.pairs _ _ c.inode-inode.ensures;
      nameless = real_nameless c.args.self.now v c.args.n c.inode-inode.result c.requires.mirrors c.inode-inode.ensures unused.1 unused.2 unused.0;
      not_root = real_low c.args.self.now v c.args.n c.inode-inode.result c.requires.mirrors c.inode-inode.ensures unused.1 unused.2 unused.0;
      bare = real_bare c.args.self.now v c.args.n c.inode-inode.result c.requires.mirrors c.inode-inode.ensures unused.1 unused.2 unused.0;
    }

pub returns-clause-mirrors : goal.returns-clause-mirrors
returns-clause-mirrors g c =
    let v = (g.H.Host.view c.args.host.now).forest in
    let unused = unused_node (tree_of c.args.self.now v) c.args.n c.requires.tree (is_unused-inode c.args.self.now v c.args.n c.inode-inode.result c.requires.mirrors c.inode-inode.ensures ∙ sym c.is_unused.ensures ∙ c.if-not-is_unused.false) in
    subst (λ t. IsMirror t (g.H.Host.view c.forget.new.self).forest) (sym c.forget-2.ensures)
    (subst (λ w. IsMirror (without_inode c.args.self.now c.args.n c.inode-inode.result.real) w.forest) (sym (c.in_ok-forget.ensures.legal ∙ without-node (g.H.Host.view c.args.host.now) c.inode-inode.result.real c.faults-before.ensures.pipes (real_live _ _ c.requires.mirrors.pairs _ _ c.inode-inode.ensures)))
    (mirrors-without c.args.self.now v c.args.n c.inode-inode.result c.requires.mirrors c.inode-inode.ensures unused.1 unused.2 unused.0))

pub returns-clause-tree : goal.returns-clause-tree
returns-clause-tree g c =
    let v = (g.H.Host.view c.args.host.now).forest in
    let is = is_unused-inode c.args.self.now v c.args.n c.inode-inode.result c.requires.mirrors c.inode-inode.ensures ∙ sym c.is_unused.ensures ∙ c.if-not-is_unused.false in
    let unused = unused_node (tree_of c.args.self.now v) c.args.n c.requires.tree is in
    subst (λ t. tree_of t (g.H.Host.view c.forget.new.self).forest ≡ without_unused (tree_of c.args.self.now v) c.args.n) (sym c.forget-2.ensures)
    (subst (λ w. tree_of (without_inode c.args.self.now c.args.n c.inode-inode.result.real) w.forest ≡ without_unused (tree_of c.args.self.now v) c.args.n) (sym (c.in_ok-forget.ensures.legal ∙ without-node (g.H.Host.view c.args.host.now) c.inode-inode.result.real c.faults-before.ensures.pipes (real_live _ _ c.requires.mirrors.pairs _ _ c.inode-inode.ensures)))
    (tree-without c.args.self.now v c.args.n c.inode-inode.result c.requires.mirrors c.inode-inode.ensures unused.1 unused.2 unused.0
    ∙ swept-goes (tree_of c.args.self.now v) c.args.n is))

pub returns-clause-rest : goal.returns-clause-rest
returns-clause-rest g c =
    let old = g.H.Host.view c.args.host.now in
    let went = c.in_ok-forget.ensures.legal ∙ without-node (g.H.Host.view c.args.host.now) c.inode-inode.result.real c.faults-before.ensures.pipes (real_live _ _ c.requires.mirrors.pairs _ _ c.inode-inode.ensures) in
    record { pipes = ap (λ (w : World). w.pipes) went; pids = ap (λ (w : World). w.pids) went }
