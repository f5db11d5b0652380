use Rattle.std.proofs.Common.{◌≡◌, false, map, take}
use Rattle.dt_image.specs.ImageOf.{has_twice, sorted_entries}
use Rattle.dt_image.specs.inner.IndexView.{entry_in, keyed_entry}
use Rattle.dt_image.proofs.order.sources_by_path.Given as goal

-- no path stood twice so far, and the map has the files so far in order
abbrev pub invariant-loop-entry : goal.invariant-loop-entry
invariant-loop-entry l = record {
  once : has_twice (map entry_in (take l.entry-index l.entries)) ≡ false;
  order : map keyed_entry l.sources.entries ≡ sorted_entries (map entry_in (take l.entry-index l.entries));
}
