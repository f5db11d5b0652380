-- Texts that begin inside of one that a NUL ends.
use Rattle.std.proofs.Common.{◌≡◌, ℕ, zero, suc, ◌<◌, ◌≤◌, ◌+◌, ◌-◌, ◌%◌, ◌^◌, Bool, false, List, [], ◌∷◌, length, drop, Option, Some, None, Result, Ok, Err, refl, sym, ap, subst, ◌∙◌, arith}
use Rattle.std.specs.Prelude.{IsOk, is_err, ◌||◌}
use Rattle.std.specs.List.{list_any, slice_index_or}
use Rattle.std.proofs.lemmas.List.{at_drop_more}
use Rattle.dt_base.specs.declared.errno.Errno.TheVariants.{Fault as BadAddress}
use Rattle.dt_base.specs.declared.limits.TheConstants.{ADDRESS_LIMIT}
use Rattle.dt_space.specs.declared.access.TextErr.{TextErr}
use Rattle.dt_space.specs.declared.access.TextErr.TheVariants as text_err
use Rattle.dt_space.specs.declared.access.TheConstants.{READ}
use Rattle.dt_space.specs.Argument.{text_or}
use Rattle.dt_space.specs.Space.{PageView, byte_at}
use Rattle.dt_space.specs.Text.{text_from, text_at_address}
use Rattle.dt_exec.specs.Arguments.{word_at}
use Rattle.dt_exec.specs.inner.Rest.{is_unread}

abbrev next : ℕ → ℕ
next address = (address + 1) % 2 ^ 64

from_longer : (address : ℕ) (byte : Option ℕ) (rest longer : Result (List ℕ) TextErr) → ((text : List ℕ) → rest ≡ Ok text → longer ≡ Ok text) → (text : List ℕ) → text_from address byte rest ≡ Ok text → text_from address byte longer ≡ Ok text
from_longer address None rest longer same text is = cc
from_longer address (Some zero) rest longer same text is = is
from_longer address (Some (suc byte)) (Ok rest) longer same text is = rw (same rest refl) is
from_longer address (Some (suc byte)) (Err error) longer same text is = cc

-- a text that ends among so many bytes does so among more
longer : (pages : List PageView) (address max : ℕ) (text : List ℕ) → text_at_address pages address max ≡ Ok text → text_at_address pages address (suc max) ≡ Ok text
unfolding text_at_address
longer pages address zero text is = cc
longer pages address (suc max) text is =
    from_longer address (byte_at pages READ address) (text_at_address pages (next address) max) (text_at_address pages (next address) (suc max)) (λ t. longer pages (next address) max t) text is

rest_of : (address : ℕ) (byte : Option ℕ) (after : Result (List ℕ) TextErr) (b : ℕ) (rest : List ℕ) → text_from address byte after ≡ Ok (b ∷ rest) → after ≡ Ok rest
rest_of address None after b rest is = cc
rest_of address (Some zero) after b rest is = cc
rest_of address (Some (suc byte)) (Ok more) b rest is = cc
rest_of address (Some (suc byte)) (Err error) b rest is = cc

-- what follows the first byte of a text is one too
behind_first : (pages : List PageView) (address max b : ℕ) (rest : List ℕ) → text_at_address pages address max ≡ Ok (b ∷ rest) → text_at_address pages (next address) max ≡ Ok rest
unfolding text_at_address
behind_first pages address zero b rest is = cc
behind_first pages address (suc max) b rest is =
    longer pages (next address) max rest (rest_of address (byte_at pages READ address) (text_at_address pages (next address) max) b rest is)

-- and so is what begins anywhere up to its NUL
ends_inside : (text : List ℕ) (pages : List PageView) (address max k : ℕ) → address < 2 ^ 64 → k ≤ length text → text_at_address pages address max ≡ Ok text → IsOk (text_at_address pages ((address + k) % 2 ^ 64) max)
ends_inside text pages address max zero fits le is =
    let here : (address + 0) % 2 ^ 64 ≡ address = omega arith in
    rw (here, is) refl
ends_inside [] pages address max (suc k) fits le is = absurd (omega (arith, le))
ends_inside (b ∷ rest) pages address max (suc k) fits le is =
    let there : (next address + k) % 2 ^ 64 ≡ (address + suc k) % 2 ^ 64 = omega arith in
    rw there at (ends_inside rest pages (next address) max k (omega arith) (omega (arith, le)) (behind_first pages address max b rest is))

-- words that begin among so many bytes from an address on end
pub record Ended (pages : List PageView) (start count : ℕ) : Type 0 where
  pub each : (k : ℕ) → k < count → is_unread pages ((start + k) % 2 ^ 64) ≡ false

pub none_ended : (pages : List PageView) (start : ℕ) → Ended pages start 0
none_ended pages start = record { each = λ k lt. absurd (omega (arith, lt)) }

text_of : (found : Result (List ℕ) TextErr) (word : List ℕ) → Ok word ≡ text_or BadAddress found → found ≡ Ok word
text_of (Ok text) word is = cc
text_of (Err (text_err.Miss miss)) word is = cc
text_of (Err text_err.Long) word is = cc
text_of (Err text_err.NoMemory) word is = cc

read : (found : Result (List ℕ) TextErr) → IsOk found → is_err (text_or BadAddress found) ≡ false
read (Ok text) is = refl
read (Err error) is = cc

-- so do those that begin in a word that was read, or at its NUL
pub word_ended : (pages : List PageView) (address : ℕ) (word : List ℕ) → address < 2 ^ 64 → Ok word ≡ word_at pages address → Ended pages address (length word + 1)
word_ended pages address word fits is = record {
  each = λ k lt. read (text_at_address pages ((address + k) % 2 ^ 64) ADDRESS_LIMIT)
      (ends_inside word pages address ADDRESS_LIMIT k fits (omega (arith, lt)) (text_of (text_at_address pages address ADDRESS_LIMIT) word is));
}

-- an address that lies among the bytes
pub among : (pages : List PageView) (start count at off : ℕ) → Ended pages start count → at < 2 ^ 64 → start < 2 ^ 64 → off ≡ (at + (2 ^ 64 - start)) % 2 ^ 64 → off < count → is_unread pages at ≡ false
among pages start count at off ended at_fits start_fits is lt =
    let there : (start + off) % 2 ^ 64 ≡ at = omega arith in
    subst (λ a. is_unread pages a ≡ false) there (ended.each off lt)

-- one that leads to no fault changes nothing
pub passed : (p : ℕ → Bool) (xs : List ℕ) (i : ℕ) → i < length xs → p (slice_index_or xs i 0) ≡ false → list_any p (drop (i + 1) xs) ≡ list_any p (drop i xs)
passed p xs i lt fails = sym (at_drop_more (list_any p) xs i 0 lt ∙ ap (λ b. b || list_any p (drop (i + 1) xs)) fails)
