-- Bytes that were stored can be read.
use Rattle.std.proofs.Common.{◌≡◌, ℕ, zero, suc, ◌+◌, ◌/◌, ◌%◌, ◌<◌, ◌^◌, inl, inr, List, [], ◌∷◌, length, get_or, Bool, true, false, cond, Option, Some, None, Result, Ok, Err, bit_and, bit_or, refl, sym, ap, ◌∙◌, arith}
use Rattle.std.specs.List.{All, slice_get}
use Rattle.std.specs.Option.{IsSome}
use Rattle.std.specs.Result.{IsOk}
use Rattle.std.proofs.lemmas.Bool.Decides.{eqb_tells}
use Rattle.std.proofs.lemmas.List.Elements.{All-head, All-tail}
use Rattle.std.proofs.lemmas.Nat.{and_or_self}
use Rattle.dt_base.specs.declared.limits.TheConstants.{PAGE_SIZE}
use Rattle.dt_space.specs.declared.access.Miss.{Miss}
use Rattle.dt_space.specs.declared.access.TheConstants.{READ, WRITE}
use Rattle.dt_space.specs.Space.{PageView, IsPage, IsSpace, has_right, granted_rights, page_at, byte_of, byte_at, byte_before, load}
use Rattle.dt_space.specs.Write.{pages_after_write, pages_after_store}
use Rattle.dt_space.specs.Written.{IsWritten}
use Rattle.dt_space.proofs.Kept.{write-law}

-- rights that can be given have with the right to write that to read
has-read : (rights : ℕ) → granted_rights rights ≡ rights → has_right rights WRITE ≡ true → has_right rights READ ≡ true
has-read rights given writes = by-low (has_right (rights % 8) WRITE) refl
  where
    by-low : (b : Bool) → has_right (rights % 8) WRITE ≡ b → has_right rights READ ≡ true
    by-low true is =
        let with_read : bit_or (rights % 8) READ ≡ rights = sym (ap (λ (b : Bool). cond b (bit_or (rights % 8) READ) (rights % 8)) is) ∙ given in
        let read : bit_and rights READ ≡ READ = ap (λ (n : ℕ). bit_and n READ) (sym with_read) ∙ and_or_self READ (rights % 8) in
        rw read refl
    by-low false is =
        let same : rights % 8 ≡ rights = sym (ap (λ (b : Bool). cond b (bit_or (rights % 8) READ) (rights % 8)) is) ∙ given in
        let clash : has_right rights WRITE ≡ false = ap (λ (n : ℕ). has_right n WRITE) (sym same) ∙ is in
        absurd cc

IsPageOrNone : Option PageView → Type 0
IsPageOrNone None = Unit {0}
IsPageOrNone (Some page) = IsPage page

found-page : (pages : List PageView) (number : ℕ) → All IsPage pages → IsPageOrNone (page_at pages number)
unfolding IsPageOrNone
found-page [] number are = tt
found-page (page ∷ pages) number are = elim (eqb_tells page.number number) [
  | inl same ↦ rw same.0 (All-head IsPage page pages are)
  | inr differ ↦ rw differ.0 (found-page pages number (All-tail IsPage page pages are))
]

byte_of-read : (offset : ℕ) (page : Option PageView) → IsPageOrNone page → IsSome (byte_of WRITE offset page) → IsSome (byte_of READ offset page)
unfolding IsPageOrNone
byte_of-read offset None is some = absurd cc
byte_of-read offset (Some page) is some = by-right (has_right page.rights WRITE) refl some
  where
    by-right : (b : Bool) → has_right page.rights WRITE ≡ b → IsSome (cond b (slice_get page.bytes offset) None) → IsSome (byte_of READ offset (Some page))
    by-right true writes there = rw (has-read page.rights is.rights writes) there
    by-right false writes there = absurd cc

byte_at-read : (pages : List PageView) (address : ℕ) → IsSpace pages → IsSome (byte_at pages WRITE address) → IsSome (byte_at pages READ address)
byte_at-read pages address sound some = byte_of-read (address % PAGE_SIZE) (page_at pages (address / PAGE_SIZE)) (found-page pages (address / PAGE_SIZE) sound.each) some

-- each byte of a range that can be reached
low_byte-parts : (address : ℕ) (byte : Option ℕ) (rest : Result (List ℕ) Miss) → IsOk (byte_before address byte rest) → IsSome byte × IsOk rest
low_byte-parts address None rest ok = absurd cc
low_byte-parts address (Some byte) (Ok bytes) ok = (refl, refl)
low_byte-parts address (Some byte) (Err miss) ok = absurd cc

load-each : (pages : List PageView) (right count address i : ℕ) → address < 2 ^ 64 → IsOk (load pages right address count) → i < count → IsSome (byte_at pages right ((address + i) % 2 ^ 64))
unfolding load
load-each pages right zero address i fits ok within = absurd (omega (arith, within))
load-each pages right (suc count) address zero fits ok within =
    let here : (address + 0) % 2 ^ 64 ≡ address = omega arith in
    let parts = low_byte-parts address (byte_at pages right address) (load pages right ((address + 1) % 2 ^ 64) count) ok in
    rw here parts.0
load-each pages right (suc count) address (suc i) fits ok within =
    let next : (address + suc i) % 2 ^ 64 ≡ ((address + 1) % 2 ^ 64 + i) % 2 ^ 64 = omega arith in
    let parts = low_byte-parts address (byte_at pages right address) (load pages right ((address + 1) % 2 ^ 64) count) ok in
    rw next (load-each pages right count ((address + 1) % 2 ^ 64) i (omega arith) parts.1 (omega (arith, within)))

load-bytes : (pages : List PageView) (right : ℕ) (bytes : List ℕ) (address : ℕ) → address < 2 ^ 64 → ((i : ℕ) → i < length bytes → byte_at pages right ((address + i) % 2 ^ 64) ≡ Some (get_or bytes i 0)) → load pages right address (length bytes) ≡ Ok bytes
unfolding load
load-bytes pages right [] address fits each = refl
load-bytes pages right (byte ∷ bytes) address fits each =
    let here : (address + 0) % 2 ^ 64 ≡ address = omega arith in
    let first : byte_at pages right address ≡ Some byte = rw here at (each 0 (omega arith)) in
    let rest = load-bytes pages right bytes ((address + 1) % 2 ^ 64) (omega arith) (λ i within.
    let next : (address + suc i) % 2 ^ 64 ≡ ((address + 1) % 2 ^ 64 + i) % 2 ^ 64 = omega arith in
    rw next at (each (suc i) (omega (arith, within)))) in
    rw (first, rest) refl

-- what was stored is read back
pub stored-read : (pages new : List PageView) (address : ℕ) (bytes : List ℕ) → IsSpace pages → address < 2 ^ 64 → length bytes < 2 ^ 64 → pages_after_store pages address bytes ≡ Ok new → load new READ address (length bytes) ≡ Ok bytes
stored-read pages new address bytes sound fits few is = by-access (load pages WRITE address (length bytes)) refl
  where
    by-access : (r : Result (List ℕ) Miss) → load pages WRITE address (length bytes) ≡ r → load new READ address (length bytes) ≡ Ok bytes
    by-access (Ok reached) allowed =
        let written : pages_after_write pages address bytes ≡ new = (let gives = rw allowed at is in cc) in
        let ok : IsOk (load pages WRITE address (length bytes)) = rw allowed refl in
        let law : IsWritten pages address bytes new = write-law pages address bytes new fits few written in
        load-bytes new READ bytes address fits (λ i within. law.named i READ within (byte_at-read pages ((address + i) % 2 ^ 64) sound (load-each pages WRITE (length bytes) address i fits ok within)))
    by-access (Err miss) missed = let clash = rw missed at is in absurd cc
