-- Those entries of a list for which a function gives a value, as a map to these values.
use Rattle.std.specs.Prelude.{ℕ, List, [], ◌∷◌, Option, None, Some}
use Rattle.std.specs.Ordering.{nat_cmp}
use Rattle.std.specs.FinMap.{FinMap, empty, insert, remove}

-- the map with this value under a number, or with none
abbrev pub with_value : {Y : Type 0} → FinMap nat_cmp Y → ℕ → Option Y → FinMap nat_cmp Y
with_value m n None = remove m n
with_value m n (Some y) = insert m n y

-- the values that f gives, by number; of entries with one number the first counts
unfoldable pub kept_of : {X Y : Type 0} → (X → Option Y) → List (ℕ × X) → FinMap nat_cmp Y
kept_of f [] = empty
kept_of f (e ∷ es) = with_value (kept_of f es) e.0 (f e.1)
