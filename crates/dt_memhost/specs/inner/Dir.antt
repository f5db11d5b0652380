-- The entries of a directory: in the order of their binding, and as a map by name.
use Rattle.std.specs.Prelude.{ℕ, List, map, Vec}
use Rattle.std.specs.FinMap.{from_entries}
use Rattle.dt_host.specs.World.{Names}
use Rattle.dt_memhost.specs.Order.{Order}

-- a list of entries, each name as its bytes
abbrev pub order_of : {Z : Type 0} → List (Vec ℕ Z × ℕ) → Order
order_of entries = map (λ e. (e.0.items, e.1)) entries

-- the numbers by name; of equal names the first counts
abbrev pub names_of : Order → Names
names_of order = from_entries order
