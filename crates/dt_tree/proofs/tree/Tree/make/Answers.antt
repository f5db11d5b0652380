use Rattle.std.proofs.Common.{◌≡◌, None, refl, sym, ap, subst, ◌∙◌}
use Rattle.dt_host.specs.World.{World}
use Rattle.dt_tree.specs.declared.inode.Inode.{Inode}
use Rattle.dt_tree.specs.Table.{tree_of, IsMirror}
use Rattle.dt_tree.specs.inner.Tables.{with_new}
use Rattle.dt_tree.specs.Changes.{new_node, with_nameless}
use Rattle.dt_tree.proofs.Trees.{bare_new}
use Rattle.dt_tree.proofs.Making.{mirrors_made, tree_made}
use Rattle.dt_tree.proofs.tree.Tree.make.Goals as goal

pub make_real-requires : goal.make_real-requires
make_real-requires g c = (c.args.self.now.version, c.requires.good)

pub returns-clause-mirrors : goal.returns-clause-mirrors
returns-clause-mirrors g c =
    let inode : Inode = record { real = c.in_ok-real.real; mode = c.args.mode; stamp = c.args.stamp; holds = 0; kind = c.kind_of_new-kind.result; names = 0; up = None } in
    subst (λ t. IsMirror t (g.H.Host.view c.make_real.new.host).forest) (sym (c.in_ok-admit.ensures.ok ∙ ap (with_new c.args.self.now) c.new.ensures))
    (subst (λ (w : World). IsMirror (with_new c.args.self.now inode) w.forest) (sym c.in_ok-real.ensures.made.made)
    (mirrors_made c.args.self.now (g.H.Host.view c.args.host.now).forest inode (new_node c.args.what.now) c.requires.stands c.in_ok-real.ensures.made.free (bare_new c.args.what.now) refl refl (sym c.kind_of_new-kind.ensures)))

pub returns-clause-tree : goal.returns-clause-tree
returns-clause-tree g c =
    let inode : Inode = record { real = c.in_ok-real.real; mode = c.args.mode; stamp = c.args.stamp; holds = 0; kind = c.kind_of_new-kind.result; names = 0; up = None } in
    let after = with_nameless (tree_of c.args.self.now (g.H.Host.view c.args.host.now).forest) (new_node c.args.what.now) c.args.mode c.args.stamp in
    subst (λ t. tree_of t (g.H.Host.view c.make_real.new.host).forest ≡ after) (sym (c.in_ok-admit.ensures.ok ∙ ap (with_new c.args.self.now) c.new.ensures))
    (subst (λ (w : World). tree_of (with_new c.args.self.now inode) w.forest ≡ after) (sym c.in_ok-real.ensures.made.made)
    (tree_made c.args.self.now (g.H.Host.view c.args.host.now).forest inode (new_node c.args.what.now) c.requires.stands c.in_ok-real.ensures.made.free (bare_new c.args.what.now)))
