-- The set of bytes that a path is shown without, byte by byte.
use Rattle.std.proofs.Common.{◌≡◌, ℕ, zero, suc, ◌<◌, Bool, true, false, ◌&&◌, refl, inl, inr, arith}
use Rattle.std.proofs.lemmas.Bool.{cases_order, and_parts}
use Rattle.percent_encoding.specs.AsciiSet.{contains}
use Rattle.dt_image.specs.Report.{escaped_set, is_escaped}

abbrev same : Bool → Bool → Bool
same true b = b
same false true = false
same false false = true

from_same : (a b : Bool) → same a b ≡ true → a ≡ b
from_same true true h = refl
from_same true false h = absurd (cc)
from_same false true h = absurd (cc)
from_same false false h = refl

-- the set and the test agree on each byte below this one
abbrev agree_below : ℕ → Bool
agree_below zero = true
agree_below (suc n) = same (contains escaped_set n) (is_escaped n) && agree_below n

below : (n b : ℕ) → agree_below n ≡ true → b < n → contains escaped_set b ≡ is_escaped b
below zero b all lt = absurd (omega arith)
below (suc n) b all lt =
    let agree = same (contains escaped_set n) (is_escaped n) in
    elim (cases_order b n) [
      | inl e ↦ rw e (from_same _ _ (and_parts agree (agree_below n) all).0)
      | inr rest ↦ elim rest [ inl less ↦ below n b (and_parts agree (agree_below n) all).1 less | inr more ↦ absurd (omega arith) ]
    ]

-- what the set holds of ASCII
pub contains_escaped : (b : ℕ) → b < 128 → contains escaped_set b ≡ is_escaped b
contains_escaped b ascii = below 128 b refl ascii
