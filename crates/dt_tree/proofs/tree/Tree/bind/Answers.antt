use Rattle.std.proofs.Common.{arith, ◌≡◌, ◌+◌, Some, sym, ap, subst, ◌∙◌}
use Rattle.dt_host.specs.World.{with_entry}
use Rattle.dt_tree.specs.declared.inode.Inode.{Inode}
use Rattle.dt_tree.specs.Table.{shape_of, tree_of, IsMirror}
use Rattle.dt_tree.specs.inner.Tables.{with_inode, with_names}
use Rattle.dt_tree.specs.Changes.{with_shape}
use Rattle.dt_tree.proofs.Namings.{names_of-le}
use Rattle.dt_tree.proofs.Mirroring.{has_inode, has_inode-dir, real_dir, real_free, real_live}
use Rattle.dt_tree.proofs.Linked.{mirrors-named, tree-named}
use Rattle.dt_tree.proofs.tree.Tree.bind.Goals as goal

pub inode-inode-requires : goal.inode-inode-requires
inode-inode-requires g c = has_inode _ _ _ c.requires.live

pub inode-requires : goal.inode-requires
inode-requires g c = has_inode-dir _ _ _ c.requires.directory

pub bind-requires-clause-directory : goal.bind-requires-clause-directory
bind-requires-clause-directory g c = real_dir _ _ c.requires.mirrors.pairs _ _ c.inode.ensures c.requires.directory

pub bind-requires-clause-unnamed : goal.bind-requires-clause-unnamed
bind-requires-clause-unnamed g c = real_free _ _ c.requires.mirrors.pairs _ _ _ c.inode.ensures c.requires.free

pub bind-requires-clause-live : goal.bind-requires-clause-live
bind-requires-clause-live g c = real_live _ _ c.requires.mirrors.pairs _ _ c.inode-inode.ensures

pub overflow_add-inode : goal.overflow_add-inode
overflow_add-inode g c =
    let keeps = c.requires.mirrors.kept _ _ c.inode-inode.ensures in
    let most = names_of-le (shape_of c.args.self.now (g.H.Host.view c.args.host.now).forest) c.args.n in
    omega (arith, keeps.names, c.requires.mirrors.counted)

pub returns-clause-room : goal.returns-clause-room
returns-clause-room g c = omega (arith, c.requires.mirrors.counted)

pub returns-clause-mirrors : goal.returns-clause-mirrors
returns-clause-mirrors g c =
    let kept : Inode = record c.inode-inode.result { names = c.inode-inode.result.names + 1; up = Some c.args.dir } in
    let after : c.set_names.new.self ≡ with_names (with_inode c.args.self.now c.args.n kept) (c.args.self.now.names + 1) =
    c.set_names.ensures ∙ ap (λ t. with_names t (c.names-names.result + 1)) c.set.ensures ∙ ap (λ k. with_names (with_inode c.args.self.now c.args.n kept) (k + 1)) c.names-names.ensures in
    subst (λ t. IsMirror t (g.H.Host.view c.bind.new.self).forest) (sym after)
    (subst (λ w. IsMirror (with_names (with_inode c.args.self.now c.args.n kept) (c.args.self.now.names + 1)) w.forest) (sym c.in_ok-bind.ensures.legal)
    (mirrors-named _ _ _ _ _ _ _ c.requires.mirrors c.inode.ensures c.inode-inode.ensures c.requires.directory c.requires.free))

pub returns-clause-tree : goal.returns-clause-tree
returns-clause-tree g c =
    let old = (g.H.Host.view c.args.host.now).forest in
    let tree = with_shape (tree_of c.args.self.now old) (with_entry (shape_of c.args.self.now old) c.args.dir c.args.name.now c.args.n) in
    let kept : Inode = record c.inode-inode.result { names = c.inode-inode.result.names + 1; up = Some c.args.dir } in
    let after : c.set_names.new.self ≡ with_names (with_inode c.args.self.now c.args.n kept) (c.args.self.now.names + 1) =
    c.set_names.ensures ∙ ap (λ t. with_names t (c.names-names.result + 1)) c.set.ensures ∙ ap (λ k. with_names (with_inode c.args.self.now c.args.n kept) (k + 1)) c.names-names.ensures in
    subst (λ t. tree_of t (g.H.Host.view c.bind.new.self).forest ≡ tree) (sym after)
    (subst (λ w. tree_of (with_names (with_inode c.args.self.now c.args.n kept) (c.args.self.now.names + 1)) w.forest ≡ tree) (sym c.in_ok-bind.ensures.legal)
    (tree-named _ _ _ _ _ _ _ c.requires.mirrors c.inode.ensures c.inode-inode.ensures c.requires.directory c.requires.free))
