use Rattle.std.proofs.Common.{arith, ◌≡◌, ◌-◌, None, sym, ap, subst, ◌∙◌}
use Rattle.dt_host.specs.World.{without_entry}
use Rattle.dt_host.proofs.Spots.{IsDir-entry}
use Rattle.dt_tree.specs.declared.inode.Inode.{Inode}
use Rattle.dt_tree.specs.Changes.{with_shape}
use Rattle.dt_tree.specs.Table.{shape_of, tree_of, IsMirror}
use Rattle.dt_tree.specs.inner.Tables.{with_inode, with_names}
use Rattle.dt_tree.proofs.Namings.{named, names_of-le}
use Rattle.dt_tree.proofs.Mirroring.{has_inode-dir, has_inode-named, real_dir, real_named}
use Rattle.dt_tree.proofs.Linked.{mirrors-unnamed, tree-unnamed}
use Rattle.dt_tree.proofs.tree.Tree.unbind.Goals as goal

pub inode-requires : goal.inode-requires
inode-requires g c = has_inode-dir _ _ _ (IsDir-entry _ _ _ _ c.requires.here)

pub inode-inode-requires : goal.inode-inode-requires
inode-inode-requires g c = has_inode-named _ _ c.requires.mirrors.pairs _ _ _ c.requires.here

pub unbind-requires-clause-directory : goal.unbind-requires-clause-directory
unbind-requires-clause-directory g c = real_dir _ _ c.requires.mirrors.pairs _ _ c.inode.ensures (IsDir-entry _ _ _ _ c.requires.here)

pub unbind-requires-clause-named : goal.unbind-requires-clause-named
unbind-requires-clause-named g c = real_named _ _ c.requires.mirrors.pairs _ _ _ c.inode.ensures _ c.requires.here

pub overflow_sub-inode : goal.overflow_sub-inode
overflow_sub-inode g c =
    let keeps = c.requires.mirrors.kept _ _ c.inode-inode.ensures in
    let some = named _ _ _ _ c.requires.here in
    omega (arith, keeps.names)

pub overflow_sub-names : goal.overflow_sub-names
overflow_sub-names g c =
    let some = named _ _ _ _ c.requires.here in
    let most = names_of-le (shape_of c.args.self.now (g.H.Host.view c.args.host.now).forest) c.args.n in
    omega (arith, c.requires.mirrors.counted)

pub returns-clause-mirrors : goal.returns-clause-mirrors
returns-clause-mirrors g c =
    let kept : Inode = record c.inode-inode.result { names = c.inode-inode.result.names - 1; up = None } in
    let after : c.set_names.new.self ≡ with_names (with_inode c.args.self.now c.args.n kept) (c.args.self.now.names - 1) =
    c.set_names.ensures ∙ ap (λ t. with_names t (c.names-names.result - 1)) c.set.ensures ∙ ap (λ k. with_names (with_inode c.args.self.now c.args.n kept) (k - 1)) c.names-names.ensures in
    subst (λ t. IsMirror t (g.H.Host.view c.unbind.new.self).forest) (sym after)
    (subst (λ w. IsMirror (with_names (with_inode c.args.self.now c.args.n kept) (c.args.self.now.names - 1)) w.forest) (sym c.in_ok-unbind.ensures.legal)
    (mirrors-unnamed _ _ _ _ _ _ _ c.requires.mirrors c.inode.ensures c.inode-inode.ensures c.requires.here c.requires.once))

pub returns-clause-tree : goal.returns-clause-tree
returns-clause-tree g c =
    let old = (g.H.Host.view c.args.host.now).forest in
    let tree = with_shape (tree_of c.args.self.now old) (without_entry (shape_of c.args.self.now old) c.args.dir c.args.name.now) in
    let kept : Inode = record c.inode-inode.result { names = c.inode-inode.result.names - 1; up = None } in
    let after : c.set_names.new.self ≡ with_names (with_inode c.args.self.now c.args.n kept) (c.args.self.now.names - 1) =
    c.set_names.ensures ∙ ap (λ t. with_names t (c.names-names.result - 1)) c.set.ensures ∙ ap (λ k. with_names (with_inode c.args.self.now c.args.n kept) (k - 1)) c.names-names.ensures in
    subst (λ t. tree_of t (g.H.Host.view c.unbind.new.self).forest ≡ tree) (sym after)
    (subst (λ w. tree_of (with_names (with_inode c.args.self.now c.args.n kept) (c.args.self.now.names - 1)) w.forest ≡ tree) (sym c.in_ok-unbind.ensures.legal)
    (tree-unnamed _ _ _ _ _ _ _ c.requires.mirrors c.inode.ensures c.inode-inode.ensures c.requires.here c.requires.once))
