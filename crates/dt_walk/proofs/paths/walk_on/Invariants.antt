use Rattle.std.proofs.Common.{◌≡◌, ◌≤◌, length}
use Rattle.std.specs.Prelude.{reverse}
use Rattle.dt_tree.specs.Table.{shape_of}
use Rattle.dt_walk.specs.inner.Stretch.{stretch_of}
use Rattle.dt_walk.proofs.paths.walk_on.Given as goal

abbrev pub invariant-loop-name : goal.invariant-loop-name
invariant-loop-name g l = record {
  stays : g.H.Host.view l.host ≡ g.H.Host.view l.fn.host;
  later : g.H.Host.count l.fn.host ≤ g.H.Host.count l.host;
  same : stretch_of (shape_of l.tree (g.H.Host.view l.fn.host).forest) l.keep l.at (reverse l.names.items) l.slash ≡ stretch_of (shape_of l.tree (g.H.Host.view l.fn.host).forest) l.keep l.start (reverse l.fn.names.items) l.slash;
}

abbrev pub decreases-loop-name : goal.decreases-loop-name
decreases-loop-name g l = length l.names.items
