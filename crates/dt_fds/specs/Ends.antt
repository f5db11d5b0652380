-- What is kept of the ends of pipes beside the descriptions, for speed.
use Rattle.std.specs.Prelude.{◌≡◌, ℕ, Bool, false, if◌then◌else◌, Option, None, Some}
use Rattle.std.specs.Ordering.{nat_cmp}
use Rattle.std.specs.FinMap.{FinMap, get}
use Rattle.dt_fds.specs.declared.ends.Ends.{Ends}
use Rattle.dt_fds.specs.Descriptions.{Descriptions, readers, writers}

-- an end that is read from is open; none is of a pipe that has no ends
abbrev pub is_read : Option Ends → Bool
is_read None = false
is_read (Some ends) = ends.read

-- an end that is written to is open
abbrev pub is_written : Option Ends → Bool
is_written None = false
is_written (Some ends) = ends.write

-- 1 where it holds, to count by
abbrev pub one_if : Bool → ℕ
one_if b = if b then 1 else 0

-- each end has one description while it is noted as open, and none else
pub record AreCounted (f : Descriptions) (ends : FinMap nat_cmp Ends) : Type 0 where
  pub reading : (q : ℕ) → readers f q ≡ one_if (is_read (get ends q))
  pub writing : (q : ℕ) → writers f q ≡ one_if (is_written (get ends q))
