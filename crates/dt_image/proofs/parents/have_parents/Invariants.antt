use Rattle.std.proofs.Common.{◌≡◌, true, map, take}
use Rattle.std.specs.List.{list_all}
use Rattle.dt_image.specs.ImageOf.{has_listed_parent}
use Rattle.dt_image.specs.inner.IndexView.{entry_in}
use Rattle.dt_image.proofs.parents.have_parents.Given as goal

-- the entries so far have parents
abbrev pub invariant-loop-entry : goal.invariant-loop-entry
invariant-loop-entry l = list_all (λ entry. has_listed_parent (map entry_in l.entries) (entry_in entry)) (take l.entry-index l.entries) ≡ true
