-- Inner words: no public clause cites these. The first name that a list of entries has for a number.
use Rattle.std.specs.Prelude.{ℕ, ◌==◌, cond, List, [], ◌∷◌, Option, None, Some}

-- the first name of these entries that is for this number
abbrev pub name_for : ℕ → List (List ℕ × ℕ) → Option (List ℕ)
name_for n [] = None
name_for n (e ∷ es) = cond (e.1 == n) (Some e.0) (name_for n es)
