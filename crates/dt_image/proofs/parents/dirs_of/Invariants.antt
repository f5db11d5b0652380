use Rattle.std.proofs.Common.{◌≡◌, ℕ, List, map, take}
use Rattle.std.specs.List.{list_any}
use Rattle.dt_image.specs.ImageOf.{is_dir_of_path}
use Rattle.dt_image.specs.inner.IndexView.{entry_in, has_dir}
use Rattle.dt_image.proofs.parents.dirs_of.Given as goal

-- the set has the directories so far
abbrev pub invariant-loop-entry : goal.invariant-loop-entry
invariant-loop-entry l = (path : List ℕ) → has_dir path l.dirs ≡ list_any (is_dir_of_path path) (map entry_in (take l.entry-index l.entries))
