use Rattle.std.proofs.Common.{arith, ◌≡◌, None, sym, ap, subst, ◌∙◌}
use Rattle.dt_host.specs.World.{with_node, entry, IsDir, IsLive}
use Rattle.dt_tree.specs.Shape.{name_count}
use Rattle.dt_tree.specs.FileTree.{FileTree, IsTree}
use Rattle.dt_tree.specs.Table.{tree_of}
use Rattle.dt_tree.specs.Changes.{new_node}
use Rattle.dt_tree.proofs.Trees.{bare_new, is_first, free_first, IsTree-created}
use Rattle.dt_tree.proofs.Making.{live_made, names-made, tree_both}
use Rattle.dt_tree.proofs.tree.Tree.create.Goals as goal

shape : (a b : FileTree) → a ≡ b → a.shape ≡ b.shape
shape a b e = ap (λ (t : FileTree). t.shape) e

pub make-requires-clause-good : goal.make-requires-clause-good
make-requires-clause-good g c = c.requires.may.good

pub bind-requires-clause-directory : goal.bind-requires-clause-directory
bind-requires-clause-directory g c =
    let t = tree_of c.args.self.now (g.H.Host.view c.args.host.now).forest in
    subst (λ s. IsDir s c.args.dir) (sym (shape _ _ c.in_ok-n.ensures.tree)) (is_first t c.args.dir c.args.name.now c.args.what.now c.args.mode c.args.stamp c.requires.stands.tree c.requires.may)

pub bind-requires-clause-free : goal.bind-requires-clause-free
bind-requires-clause-free g c =
    let t = tree_of c.args.self.now (g.H.Host.view c.args.host.now).forest in
    subst (λ s. entry s c.args.dir c.args.name.now ≡ None) (sym (shape _ _ c.in_ok-n.ensures.tree)) (free_first t c.args.dir c.args.name.now c.args.what.now c.args.mode c.args.stamp c.requires.stands.tree c.requires.may)

pub bind-requires-clause-live : goal.bind-requires-clause-live
bind-requires-clause-live g c =
    let t = tree_of c.args.self.now (g.H.Host.view c.args.host.now).forest in
    subst (λ s. IsLive s c.in_ok-n.n) (sym (shape _ _ c.in_ok-n.ensures.tree)) (subst (IsLive (with_node t.shape t.next (new_node c.args.what.now))) (sym c.in_ok-n.ensures.number) (live_made t (new_node c.args.what.now)))

pub returns-clause-tree : goal.returns-clause-tree
returns-clause-tree g c =
    let t = tree_of c.args.self.now (g.H.Host.view c.args.host.now).forest in
    tree_both t _ _ c.args.dir c.args.name.now (new_node c.args.what.now) c.args.mode c.args.stamp c.in_ok-n.n c.in_ok-n.ensures.tree c.in_ok-n.ensures.number c.in_ok-bind.ensures.tree

pub returns-clause-stands : goal.returns-clause-stands
returns-clause-stands g c =
    let t = tree_of c.args.self.now (g.H.Host.view c.args.host.now).forest in
    let after = ap (λ s. name_count s) (shape _ _ c.in_ok-n.ensures.tree) ∙ names-made t (new_node c.args.what.now) c.requires.stands.tree (bare_new c.args.what.now) in
    record {
      mirrors = c.in_ok-bind.ensures.mirrors;
      tree = subst IsTree (sym (tree_both t _ _ c.args.dir c.args.name.now (new_node c.args.what.now) c.args.mode c.args.stamp c.in_ok-n.n c.in_ok-n.ensures.tree c.in_ok-n.ensures.number c.in_ok-bind.ensures.tree))
          (IsTree-created t c.args.dir c.args.name.now c.args.what.now c.args.mode c.args.stamp c.requires.stands.tree c.requires.may (omega (arith, c.in_ok-bind.ensures.room)));
    }
