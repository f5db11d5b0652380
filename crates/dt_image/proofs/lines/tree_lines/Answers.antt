use Rattle.std.proofs.Common.{ℕ, List, sym, subst}
use Rattle.std.specs.List.{All}
use Rattle.dt_host.specs.World.{World, IsLive}
use Rattle.dt_tree.specs.Table.{shape_of, tree_of}
use Rattle.dt_image.specs.declared.paths.TreePath.{TreePath}
use Rattle.dt_image.specs.Paths.{path_pair}
use Rattle.dt_image.proofs.Children.{unmap, live_paths}
use Rattle.dt_image.proofs.Leading.{exact_paths}
use Rattle.dt_image.proofs.lines.tree_lines.Goals as goal

pub write_lines-requires-clause-live : goal.write_lines-requires-clause-live
write_lines-requires-clause-live g c =
    let v = (g.H.Host.view c.args.host.now).forest in
    let shape = shape_of c.args.tree.now v in
    let live = unmap (λ at. IsLive shape at.1) path_pair c.in_ok-paths.paths.items (subst (All (λ (at : List ℕ × ℕ). IsLive shape at.1)) (sym c.in_ok-paths.ensures.ok) (live_paths shape c.requires.tree.shaped)) in
    let there = subst (All (λ (at : TreePath). IsLive shape at.inode)) (sym c.deref.ensures.value) live in
    subst (λ (w : World). All (λ (at : TreePath). IsLive (shape_of c.args.tree.now w.forest) at.inode) c.deref.result.now) (sym c.in_ok-paths.ensures.asks.stays) there

pub returns-in_err-paths-clause-exact : goal.returns-in_err-paths-clause-exact
returns-in_err-paths-clause-exact g c = exact_paths (tree_of c.args.tree.now (g.H.Host.view c.args.host.now).forest) c.requires.tree

pub returns-in_err-write_tree_header-clause-exact : goal.returns-in_err-write_tree_header-clause-exact
returns-in_err-write_tree_header-clause-exact g c = exact_paths (tree_of c.args.tree.now (g.H.Host.view c.args.host.now).forest) c.requires.tree

pub returns-in_err-write_lines-clause-exact : goal.returns-in_err-write_lines-clause-exact
returns-in_err-write_lines-clause-exact g c = exact_paths (tree_of c.args.tree.now (g.H.Host.view c.args.host.now).forest) c.requires.tree

pub returns-clause-exact : goal.returns-clause-exact
returns-clause-exact g c = exact_paths (tree_of c.args.tree.now (g.H.Host.view c.args.host.now).forest) c.requires.tree
