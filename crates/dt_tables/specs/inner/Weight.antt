-- Inner words: no public clause cites these. What one value adds to a sum over a map.
use Rattle.std.specs.Prelude.{ℕ, Option, None, Some}

-- what a value that may be there adds to a sum
abbrev pub weight : {X : Type 0} → (X → ℕ) → Option X → ℕ
weight g None = 0
weight g (Some x) = g x
