use Rattle.std.proofs.Common.{◌≡◌, ◌≤◌, ◌++◌, map, take}
use Rattle.std.specs.List.{flat_map}
use Rattle.dt_tree.specs.Table.{tree_of}
use Rattle.dt_image.specs.Report.{path_line}
use Rattle.dt_image.specs.Paths.{path_pair}
use Rattle.dt_image.proofs.lines.write_lines.Given as goal

-- the lines of the paths so far, and the host keeps what it kept
abbrev pub invariant-loop-at : goal.invariant-loop-at
invariant-loop-at g l = record {
  stays : g.H.Host.view l.host ≡ g.H.Host.view l.fn.host;
  later : g.H.Host.count l.fn.host ≤ g.H.Host.count l.host;
  written : l.text.items ≡ l.fn.text.items ++ flat_map (path_line (tree_of l.tree (g.H.Host.view l.fn.host).forest)) (map path_pair (take l.at-index l.paths));
}
