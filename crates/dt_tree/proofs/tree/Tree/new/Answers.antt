use Rattle.std.proofs.Common.{◌≡◌, None, refl, sym, ap, subst, ◌∙◌}
use Rattle.dt_host.specs.World.{World, empty_forest}
use Rattle.dt_tree.specs.FileTree.{IsTree}
use Rattle.dt_tree.specs.declared.inode.Kind.TheVariants.{Dir}
use Rattle.dt_tree.specs.declared.inode.Inode.{Inode}
use Rattle.dt_tree.specs.ImageTree.{root_tree}
use Rattle.dt_tree.specs.Table.{tree_of, Stands}
use Rattle.dt_tree.specs.inner.Tables.{root_table}
use Rattle.dt_tree.proofs.Starting.{tree_start, mirrors_start, IsTree-start, image_tree-nil}
use Rattle.dt_tree.proofs.tree.Tree.new.Goals as goal

pub returns-clause-tree : goal.returns-clause-tree
returns-clause-tree g c =
    let old = g.H.Host.view c.args.host.now in
    let inode : Inode = record { real = c.in_ok-real.real; mode = 493; stamp = 0; holds = 0; kind = Dir; names = 0; up = None } in
    let start : (g.H.Host.view c.root.new.self).forest ≡ empty_forest old.forest.root = ap (λ (w : World). w.forest) c.root.ensures.stays ∙ c.requires in
    subst (λ t. tree_of t (g.H.Host.view c.root.new.self).forest ≡ root_tree) (sym (c.in_ok-with_root.ensures ∙ ap root_table c.new.ensures))
    (subst (λ v. tree_of (root_table inode) v ≡ root_tree) (sym start) (tree_start old.forest.root inode c.in_ok-real.ensures.ok refl refl refl refl ∙ sym (image_tree-nil 1)))

pub returns-clause-stands : goal.returns-clause-stands
returns-clause-stands g c =
    let old = g.H.Host.view c.args.host.now in
    let inode : Inode = record { real = c.in_ok-real.real; mode = 493; stamp = 0; holds = 0; kind = Dir; names = 0; up = None } in
    let start : (g.H.Host.view c.root.new.self).forest ≡ empty_forest old.forest.root = ap (λ (w : World). w.forest) c.root.ensures.stays ∙ c.requires in
    subst (λ t. Stands t (g.H.Host.view c.root.new.self).forest) (sym (c.in_ok-with_root.ensures ∙ ap root_table c.new.ensures))
    (subst (λ v. Stands (root_table inode) v) (sym start) (record {
      mirrors = mirrors_start old.forest.root inode c.in_ok-real.ensures.ok refl refl refl;
      tree = subst IsTree (sym (tree_start old.forest.root inode c.in_ok-real.ensures.ok refl refl refl refl)) (IsTree-start 1 refl);
    }))
