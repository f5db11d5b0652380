use Rattle.std.proofs.Common.{◌≡◌, ◌-◌, ◌≤◌}
use Rattle.std.specs.Prelude.{reverse}
use Rattle.dt_tree.specs.Table.{shape_of}
use Rattle.dt_walk.specs.Walk.{walk_of}
use Rattle.dt_walk.specs.inner.Stretch.{walk_by_stretches}
use Rattle.dt_walk.proofs.paths.walk.Given as goal

abbrev pub invariant-loop-i : goal.invariant-loop-i
invariant-loop-i g l = record {
  stays : g.H.Host.view l.host ≡ g.H.Host.view l.fn.host;
  later : g.H.Host.count l.fn.host ≤ g.H.Host.count l.host;
  same : walk_by_stretches (41 - l._i) (shape_of l.tree (g.H.Host.view l.fn.host).forest) l.keep l.at (reverse l.names.items) l.slash ≡ walk_of (shape_of l.tree (g.H.Host.view l.fn.host).forest) l.start l.path l.fn.last;
}
