use Rattle.std.proofs.Common.{◌≡◌, ◌≤◌, map, take}
use Rattle.std.specs.List.{flat_map}
use Rattle.dt_tree.specs.Table.{shape_of}
use Rattle.dt_image.specs.Paths.{paths_below, path_pair}
use Rattle.dt_image.proofs.paths.next_level.Given as goal

-- the entries of the directories so far, and the host keeps what it kept
abbrev pub invariant-loop-at : goal.invariant-loop-at
invariant-loop-at g l = record {
  stays : g.H.Host.view l.host ≡ g.H.Host.view l.fn.host;
  later : g.H.Host.count l.fn.host ≤ g.H.Host.count l.host;
  found : map path_pair l.next.items ≡ flat_map (paths_below (shape_of l.tree (g.H.Host.view l.fn.host).forest)) (map path_pair (take l.at-index l.level));
}
