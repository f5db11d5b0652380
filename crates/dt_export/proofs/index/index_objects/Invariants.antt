use Rattle.std.proofs.Common.{◌≡◌, ◌≤◌, true, map, take}
use Rattle.std.specs.List.{list_all}
use Rattle.serde_json.specs.View.{view}
use Rattle.dt_tree.specs.Table.{tree_of}
use Rattle.dt_export.specs.ExportedImage.{entry_at}
use Rattle.dt_export.specs.ExportedIndex.{object_at, is_text_entry}
use Rattle.dt_image.specs.Paths.{path_pair}
use Rattle.dt_export.proofs.index.index_objects.Given as goal

-- the objects of the paths so far, all of which are texts, and the host keeps what it kept
abbrev pub invariant-loop-at : goal.invariant-loop-at
invariant-loop-at g l = record {
  stays : g.H.Host.view l.host ≡ g.H.Host.view l.fn.host;
  later : g.H.Host.count l.fn.host ≤ g.H.Host.count l.host;
  objects : map view l.objects.items ≡ map (object_at (tree_of l.tree (g.H.Host.view l.fn.host).forest)) (map path_pair (take l.at-index l.paths));
  text : list_all is_text_entry (map (entry_at (tree_of l.tree (g.H.Host.view l.fn.host).forest)) (map path_pair (take l.at-index l.paths))) ≡ true;
}
