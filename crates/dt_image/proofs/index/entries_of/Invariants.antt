use Rattle.std.proofs.Common.{◌≡◌, ◌++◌, map, drop, IsTrue}
use Rattle.std.specs.Prelude.{option_map}
use Rattle.std.specs.List.{list_all}
use Rattle.serde_json.specs.View.{items_view}
use Rattle.dt_image.specs.Index.{entries_of}
use Rattle.dt_image.specs.inner.IndexView.{entry_in, is_listed}
use Rattle.dt_image.proofs.index.entries_of.Given as goal

-- the entries of all items are those so far, and those of the items that are left
abbrev pub invariant-loop-item : goal.invariant-loop-item
invariant-loop-item l = record {
  value : option_map (λ entries. map entry_in l.entries.items ++ entries) (entries_of l.version (items_view (drop l.item-index l.items))) ≡ entries_of l.version (items_view l.items);
  listed : IsTrue (list_all (is_listed l.version) (map entry_in l.entries.items));
}
