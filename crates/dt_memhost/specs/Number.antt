-- The number that a word chooses out of so many from 1 on: one that isn't live.
use Rattle.std.specs.Prelude.{◌≡◌, ℕ, zero, suc, ◌+◌, ◌%◌, ◌<◌, Bool, true, false, ◌||◌, Option, None, Some, MatchOption, if◌then◌else◌}
use Rattle.std.specs.Ordering.{nat_cmp}
use Rattle.std.specs.FinMap.{FinMap, contains_key}

-- one of these maps has that number
abbrev pub is_in_either : {X Y : Type 0} → FinMap nat_cmp X → FinMap nat_cmp Y → ℕ → Bool
is_in_either m w n = contains_key m n || contains_key w n

-- the first of so many numbers, from this one on, isn't live, going round
unfoldable pub next_free : (ℕ → Bool) → ℕ → ℕ → ℕ → Option ℕ
next_free live limit from zero = None
next_free live limit from (suc left) =
    if live (1 + from % limit) then next_free live limit (from + 1) left else Some (1 + from % limit)

-- the least number above those that words choose which isn't live
pub record IsLeastAbove (live : ℕ → Bool) (limit number : ℕ) : Type 0 where
  pub above : limit < number
  pub free : live number ≡ false
  pub least : (q : ℕ) → limit < q → q < number → live q ≡ true

-- the number that a word chooses: its own, or the next upwards that isn't live; where all are live, the least above
abbrev pub IsChosenNumber : (ℕ → Bool) → ℕ → ℕ → ℕ → Type 0
IsChosenNumber live limit word number =
    MatchOption (next_free live limit word limit) (IsLeastAbove live limit number) (λ found. number ≡ found)
