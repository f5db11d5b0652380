-- A sum over the values of a finite map.
use Rattle.std.specs.Prelude.{ℕ, ◌+◌, List, [], ◌∷◌}
use Rattle.std.specs.declared.cmp.Ordering.{Ordering}
use Rattle.std.specs.FinMap.{FinMap, entries}

-- the sum over these entries
abbrev pub total_in : {K X : Type 0} → (X → ℕ) → List (K × X) → ℕ
total_in g [] = 0
total_in g (e ∷ es) = g e.1 + total_in g es

-- the sum over a map's values
unfoldable pub total : {K X : Type 0} {R : K → K → Ordering} → (X → ℕ) → FinMap R X → ℕ
total g m = total_in g (entries m)
