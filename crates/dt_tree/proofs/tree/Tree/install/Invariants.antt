use Rattle.std.proofs.Common.{◌≡◌, ◌+◌, ◌≤◌, take}
use Rattle.std.specs.FinMap.{len}
use Rattle.dt_host.specs.World.{OnlyForest}
use Rattle.dt_tree.specs.ImageTree.{image_tree}
use Rattle.dt_tree.specs.Table.{Stands, shape_of, tree_of}
use Rattle.dt_tree.proofs.tree.Tree.install.Given as goal

abbrev pub invariant-loop-entry : goal.invariant-loop-entry
invariant-loop-entry g l = record {
  later : g.H.Host.count l.fn.host ≤ g.H.Host.count l.host;
  rest : OnlyForest (g.H.Host.view l.fn.host) (g.H.Host.view l.host);
  stands : Stands l.self (g.H.Host.view l.host).forest;
  tree : tree_of l.self (g.H.Host.view l.host).forest ≡ image_tree (record { version = l.fn.image.version; entries = take l.entry-index l.entries });
  nodes : len (shape_of l.self (g.H.Host.view l.host).forest).nodes ≡ l.entry-index + 1;
}
