use Rattle.std.proofs.Common.{◌≡◌, ◌≤◌, map}
use Rattle.dt_tree.specs.Table.{shape_of}
use Rattle.dt_image.specs.Paths.{level, paths_to, path_pair}
use Rattle.dt_image.specs.inner.PathView.{paths_in}
use Rattle.dt_image.proofs.paths.all_paths.Given as goal

-- the paths of so many names, and those of fewer; the host keeps what it kept
abbrev pub invariant-loop-depth : goal.invariant-loop-depth
invariant-loop-depth g l = record {
  stays : g.H.Host.view l.host ≡ g.H.Host.view l.fn.host;
  later : g.H.Host.count l.fn.host ≤ g.H.Host.count l.host;
  here : map path_pair l.level.items ≡ level (shape_of l.tree (g.H.Host.view l.fn.host).forest) l._depth;
  found : paths_in l.paths ≡ paths_to (shape_of l.tree (g.H.Host.view l.fn.host).forest) l._depth;
}
