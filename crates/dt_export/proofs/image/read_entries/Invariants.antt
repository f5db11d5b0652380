use Rattle.std.proofs.Common.{◌≡◌, ◌≤◌, map, take}
use Rattle.dt_tree.specs.Table.{tree_of}
use Rattle.dt_export.specs.ExportedImage.{entry_at}
use Rattle.dt_image.specs.Paths.{path_pair}
use Rattle.dt_export.proofs.image.read_entries.Given as goal

-- the entries of the paths so far, and the host keeps what it kept
abbrev pub invariant-loop-at : goal.invariant-loop-at
invariant-loop-at g l = record {
  stays : g.H.Host.view l.host ≡ g.H.Host.view l.fn.host;
  later : g.H.Host.count l.fn.host ≤ g.H.Host.count l.host;
  entries : l.entries.items ≡ map (entry_at (tree_of l.tree (g.H.Host.view l.fn.host).forest)) (map path_pair (take l.at-index l.paths));
}
