use Rattle.std.proofs.Common.{◌≡◌, [], ◌∷◌, map, fold, refl, sym, ap, subst, ◌∙◌, arith}
use Rattle.std.specs.List.{All, flat_map}
use Rattle.std.specs.Cmp.Lexicographic.{nat_list_cmp_total}
use Rattle.dt_host.specs.World.{World}
use Rattle.dt_tables.proofs.MapOf.{map_of-nil}
use Rattle.dt_tree.specs.Table.{shape_of}
use Rattle.dt_image.specs.declared.paths.TreePath.{TreePath}
use Rattle.dt_image.specs.Paths.{paths_below, level, paths_to, with_path, path_pair}
use Rattle.dt_image.specs.inner.PathView.{IsPlaced}
use Rattle.dt_image.proofs.Children.{unmap, placed_level, level_next, paths_next}
use Rattle.dt_image.proofs.paths.all_paths.Goals as goal

pub loop-depth-init : goal.loop-depth-init
unfolding level paths_to
loop-depth-init g c = record {
  stays = refl;
  later = omega arith;
  here = c.in_ok-level.ensures ∙ ap (λ n. ([], n) ∷ []) (sym c.requires.tree.root);
  found = map_of-nil nat_list_cmp_total (λ path. path) (λ n. n) c.new-paths.result.entries c.new-paths.ensures.empty;
}

pub next_level-requires-clause-placed : goal.next_level-requires-clause-placed
next_level-requires-clause-placed g c =
    let v = (g.H.Host.view c.args.host.now).forest in
    let shape = shape_of c.args.tree.now v in
    let placed = unmap (IsPlaced shape) path_pair c.loop-depth.level.items (subst (All (IsPlaced shape)) (sym c.loop-depth.invariant.here) (placed_level shape c.loop-depth._depth)) in
    let there = subst (All (λ (at : TreePath). IsPlaced shape (path_pair at))) (sym c.deref.ensures.value) placed in
    subst (λ (w : World). All (λ (at : TreePath). IsPlaced (shape_of c.args.tree.now w.forest) (path_pair at)) c.deref.result.now) (sym c.loop-depth.invariant.stays) there

pub loop-depth-preserved : goal.loop-depth-preserved
loop-depth-preserved g c =
    let v = (g.H.Host.view c.args.host.now).forest in
    let shape = shape_of c.args.tree.now v in
    let next =
    c.in_ok-level-2.ensures.ok
    ∙ ap (λ (w : World). flat_map (paths_below (shape_of c.args.tree.now w.forest)) (map path_pair c.deref.result.now)) c.loop-depth.invariant.stays
    ∙ ap (flat_map (paths_below shape)) (ap (map path_pair) c.deref.ensures.value ∙ c.loop-depth.invariant.here)
    ∙ sym (level_next shape c.loop-depth._depth) in
    record {
      stays = c.in_ok-level-2.ensures.asks.stays ∙ c.loop-depth.invariant.stays;
      later = omega (arith, c.in_ok-level-2.ensures.asks.cause.later);
      here = next;
      found = c.in_ok-add_paths.ensures
          ∙ ap (λ paths. fold with_path paths (map path_pair c.deref-in-loop-depth.result.now)) c.loop-depth.invariant.found
          ∙ ap (fold with_path (paths_to shape c.loop-depth._depth)) (ap (map path_pair) c.deref-in-loop-depth.ensures.value ∙ next)
          ∙ sym (paths_next shape c.loop-depth._depth);
    }

pub returns-clause-ok : goal.returns-clause-ok
returns-clause-ok g c =
    let end : c.loop-depth._depth ≡ 4096 = omega arith in
    c.loop-depth.invariant.found ∙ ap (paths_to (shape_of c.args.tree.now (g.H.Host.view c.args.host.now).forest)) end
