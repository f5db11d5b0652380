-- The numbers that are live, as those that a map has.
use Rattle.std.specs.Prelude.{ℕ, Bool, List, is_some}
use Rattle.std.specs.Ordering.{nat_cmp}
use Rattle.std.specs.Map.{keys_of}
use Rattle.std.specs.BTreeMap as tree
use Rattle.std.specs.BTreeMap.{BTreeMap}
use Rattle.std.specs.FinSet.{from_list}
use Rattle.dt_host.specs.World.{HostPids}

-- the map has that number
abbrev pub has_number : {X : Type 0} → BTreeMap ℕ X → ℕ → Bool
has_number m q = is_some (tree.get nat_cmp m q)

-- the pids of a list of entries
abbrev pub pids_of : {X : Type 0} → List (ℕ × X) → HostPids
pids_of entries = from_list (keys_of entries)
