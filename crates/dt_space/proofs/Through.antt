-- Writes that run through several pages are those of their bytes one by one.
use Rattle.std.proofs.Common.{◌≡◌, ℕ, zero, suc, ◌<◌, ◌≤◌, ◌+◌, ◌-◌, ◌*◌, ◌/◌, ◌%◌, ◌^◌, inl, inr, List, [], ◌∷◌, ◌++◌, length, get_or, take, drop, Option, Some, None, IsSome, Result, Ok, Err, IsOk, false, eqb, ne_eqb, refl, sym, ap, subst, ◌∙◌, arith}
use Rattle.std.proofs.lemmas.Bool.{cases_lt}
use Rattle.std.proofs.lemmas.Bool.Decides.{eqb_tells}
use Rattle.std.proofs.lemmas.List.{length-take, length-take-le, length-drop, take-append-drop, drop_more, get_or-take}
use Rattle.dt_base.specs.declared.limits.TheConstants.{PAGE_SIZE}
use Rattle.dt_space.specs.declared.access.Miss.{Miss}
use Rattle.dt_space.specs.declared.access.TheConstants.{WRITE}
use Rattle.dt_space.specs.Space.{PageView, IsPage, IsSpace, page_at, byte_of, byte_at, byte_before, load}
use Rattle.dt_space.specs.Write.{pages_with_byte, pages_after_write}
use Rattle.dt_space.specs.inner.Index.{number_at, IsIndex}
use Rattle.dt_space.specs.inner.Run.{page_after_put, run_after_put}
use Rattle.dt_space.proofs.Pages.{no_page, page_at_absent}
use Rattle.dt_space.proofs.Spaces.{IsSpace-drop}
use Rattle.dt_space.proofs.Writes.{write-none, write-inside}
use Rattle.dt_space.proofs.Kept.{write-more, load-left}

-- a page below an address is not met from there on
byte-behind : (page : PageView) (pages : List PageView) (right address : ℕ) → page.number < address / PAGE_SIZE → byte_at (page ∷ pages) right address ≡ byte_at pages right address
byte-behind page pages right address below = let other : eqb page.number (address / PAGE_SIZE) ≡ false = ne_eqb _ _ (omega arith) in rw other refl

load-behind : (page : PageView) (pages : List PageView) (right count address : ℕ) → page.number < address / PAGE_SIZE → address + count ≤ 2 ^ 64 → load (page ∷ pages) right address count ≡ load pages right address count
unfolding load
load-behind page pages right zero address below fits = refl
load-behind page pages right (suc zero) address below fits = rw (byte-behind page pages right address below) refl
load-behind page pages right (suc (suc count)) address below fits =
    let next : (address + 1) % 2 ^ 64 ≡ address + 1 = omega arith in
    rw (byte-behind page pages right address below, next, load-behind page pages right (suc count) (address + 1) (omega arith) (omega arith)) refl

set-behind : (page : PageView) (pages : List PageView) (address byte : ℕ) → page.number < address / PAGE_SIZE → pages_with_byte (page ∷ pages) address byte ≡ page ∷ pages_with_byte pages address byte
set-behind page pages address byte below = let other : eqb page.number (address / PAGE_SIZE) ≡ false = ne_eqb _ _ (omega arith) in rw other refl

write-behind : (bytes : List ℕ) (page : PageView) (pages : List PageView) (address : ℕ) → page.number < address / PAGE_SIZE → address + length bytes ≤ 2 ^ 64 → pages_after_write (page ∷ pages) address bytes ≡ page ∷ pages_after_write pages address bytes
unfolding pages_after_write
write-behind [] page pages address below fits = refl
write-behind (byte ∷ []) page pages address below fits = set-behind page pages address byte below
write-behind (byte ∷ more ∷ bytes) page pages address below fits =
    let next : (address + 1) % 2 ^ 64 ≡ address + 1 = omega arith in
    rw (set-behind page pages address byte below, next) (write-behind (more ∷ bytes) page (pages_with_byte pages address byte) (address + 1) (omega arith) (omega arith))

-- nor are several
pub load-behind_all : (before pages : List PageView) (right count address : ℕ) → ((i : ℕ) → i < length before → number_at before i < address / PAGE_SIZE) → address + count ≤ 2 ^ 64 → load (before ++ pages) right address count ≡ load pages right address count
load-behind_all [] pages right count address below fits = refl
load-behind_all (page ∷ before) pages right count address below fits =
    load-behind page (before ++ pages) right count address (below 0 (omega arith)) fits ∙ load-behind_all before pages right count address (λ i lt. below (suc i) (omega (arith, lt))) fits

pub write-behind_all : (before pages : List PageView) (bytes : List ℕ) (address : ℕ) → ((i : ℕ) → i < length before → number_at before i < address / PAGE_SIZE) → address + length bytes ≤ 2 ^ 64 → pages_after_write (before ++ pages) address bytes ≡ before ++ pages_after_write pages address bytes
write-behind_all [] pages bytes address below fits = refl
write-behind_all (page ∷ before) pages bytes address below fits =
    write-behind bytes page (before ++ pages) address (below 0 (omega arith)) fits ∙ ap (λ (rest : List PageView). page ∷ rest) (write-behind_all before pages bytes address (λ i lt. below (suc i) (omega (arith, lt))) fits)

-- what can be loaded ends below address 2^38
page-low : (pages : List PageView) (number : ℕ) → IsSpace pages → IsSome (page_at pages number) → number < 2 ^ 26
page-low pages number space is = elim (cases_lt number (2 ^ 26)) [
  | inl low ↦ low
  | inr high ↦
      let none : page_at pages number ≡ None = page_at_absent pages number (λ j lt same. omega (arith, (space.each j no_page lt).low, same)) in
      let clash : IsSome {T = PageView} None = rw none at is in
      absurd cc
]

byte_of-some : (right offset : ℕ) (page : Option PageView) → IsSome (byte_of right offset page) → IsSome page
byte_of-some right offset None is = absurd cc
byte_of-some right offset (Some page) is = refl

first-some : (address : ℕ) (byte : Option ℕ) (rest : Result (List ℕ) Miss) → IsOk (byte_before address byte rest) → IsSome byte
first-some address None rest ok = absurd cc
first-some address (Some byte) rest ok = refl

rest-ok : (address : ℕ) (byte : Option ℕ) (rest : Result (List ℕ) Miss) → IsOk (byte_before address byte rest) → IsOk rest
rest-ok address None rest ok = absurd cc
rest-ok address (Some byte) (Ok bytes) ok = refl
rest-ok address (Some byte) (Err miss) ok = absurd cc

both-ok : (address : ℕ) (byte : Option ℕ) (rest : Result (List ℕ) Miss) → IsSome byte → IsOk rest → IsOk (byte_before address byte rest)
both-ok address None rest some ok = absurd cc
both-ok address (Some byte) (Ok bytes) some ok = refl
both-ok address (Some byte) (Err miss) some ok = absurd cc

-- the first part of what can be loaded
load-front : (pages : List PageView) (right m n total address : ℕ) → m + n ≡ total → IsOk (load pages right address total) → IsOk (load pages right address m)
unfolding load
load-front pages right zero n total address sum ok = refl
load-front pages right (suc m) n total address sum ok =
    let more : total ≡ suc (m + n) = omega (arith, sum) in
    let all : IsOk (load pages right address (suc (m + n))) = rw more at ok in
    let rest = rest-ok address (byte_at pages right address) (load pages right ((address + 1) % 2 ^ 64) (m + n)) all in
    both-ok address (byte_at pages right address) (load pages right ((address + 1) % 2 ^ 64) m) (first-some address (byte_at pages right address) (load pages right ((address + 1) % 2 ^ 64) (m + n)) all) (load-front pages right m n (m + n) ((address + 1) % 2 ^ 64) refl rest)

pub page-loaded : (pages : List PageView) (right address count : ℕ) → 0 < count → IsOk (load pages right address count) → IsSome (page_at pages (address / PAGE_SIZE))
unfolding load
page-loaded pages right address zero some ok = absurd (omega (arith, some))
page-loaded pages right address (suc count) some ok = byte_of-some right (address % PAGE_SIZE) (page_at pages (address / PAGE_SIZE)) (first-some address (byte_at pages right address) (load pages right ((address + 1) % 2 ^ 64) count) ok)

pub load-low : (pages : List PageView) (right count address : ℕ) → IsSpace pages → address < 2 ^ 64 → IsOk (load pages right address count) → address + count ≤ 2 ^ 64
unfolding load
load-low pages right zero address space fits ok = omega (arith, fits)
load-low pages right (suc count) address space fits ok =
    let low = page-low pages (address / PAGE_SIZE) space (page-loaded pages right address (suc count) (omega arith) ok) in
    let next : (address + 1) % 2 ^ 64 ≡ address + 1 = omega (arith, low) in
    let more : IsOk (load pages right ((address + 1) % 2 ^ 64) count) = rest-ok address (byte_at pages right address) (load pages right ((address + 1) % 2 ^ 64) count) ok in
    omega (arith, load-low pages right count (address + 1) space (omega (arith, low)) (rw next at more))

-- behind a page stands the one of the next number, where it is there
pub record BeginsWith (pages : List PageView) (number : ℕ) : Type 0 where
  pub some : 0 < length pages
  pub here : number_at pages 0 ≡ number

next-first : (page : PageView) (pages : List PageView) → IsSpace (page ∷ pages) → IsSome (page_at pages (page.number + 1)) → BeginsWith pages (page.number + 1)
next-first page [] space is = absurd cc
next-first page (q ∷ rest) space is = elim (eqb_tells q.number (page.number + 1)) [
  | inl same ↦ record { some = omega arith; here = same.1 }
  | inr differ ↦
      let after : page.number < q.number = space.rising 0 1 no_page (omega arith) (omega arith) in
      let none : page_at rest (page.number + 1) ≡ None = page_at_absent rest (page.number + 1) (λ j lt here. omega (arith, space.rising 1 (suc (suc j)) no_page (omega arith) (omega (arith, lt)), after, here)) in
      let clash : IsSome {T = PageView} None = rw (differ.0, none) at is in
      absurd cc
]

-- a write through pages, the first of which has the address
abbrev pub IsThrough : List PageView → Type 0
IsThrough pages = (bytes : List ℕ) (address : ℕ) → IsSpace pages → BeginsWith pages (address / PAGE_SIZE) → address + length bytes ≤ 2 ^ 64 → IsOk (load pages WRITE address (length bytes)) → run_after_put pages (address % PAGE_SIZE) bytes ≡ pages_after_write pages address bytes

run-none : (pages : List PageView) (offset : ℕ) → run_after_put pages offset [] ≡ pages
run-none [] offset = refl
run-none (page ∷ pages) offset = refl

-- what the first page doesn't take goes to the others
through-rest : (pages : List PageView) (first page : PageView) (rest : List ℕ) (next : ℕ) → IsThrough pages → first.number ≡ page.number → IsSpace (page ∷ pages) → (0 < length rest → next ≡ (page.number + 1) * PAGE_SIZE) → next + length rest ≤ 2 ^ 64 → IsOk (load (page ∷ pages) WRITE next (length rest))
    → first ∷ run_after_put pages 0 rest ≡ pages_after_write (first ∷ pages) next rest
through-rest pages first page [] next law same space at fits ok = ap (λ (others : List PageView). first ∷ others) (run-none pages 0) ∙ sym (write-none (first ∷ pages) next)
through-rest pages first page (byte ∷ bytes) next law same space at fits ok =
    let rest : List ℕ = byte ∷ bytes in
    let start : next ≡ (page.number + 1) * PAGE_SIZE = at (omega arith) in
    let number : next / PAGE_SIZE ≡ page.number + 1 = omega (arith, start) in
    let offset : next % PAGE_SIZE ≡ 0 = omega (arith, start) in
    let loaded : IsOk (load pages WRITE next (length rest)) = rw (load-behind page pages WRITE (length rest) next (omega (arith, number)) fits) at ok in
    let found : IsSome (page_at pages (page.number + 1)) = rw number at (page-loaded pages WRITE next (length rest) (omega arith) loaded) in
    let begins : BeginsWith pages (next / PAGE_SIZE) = rw number (next-first page pages space found) in
    let others : run_after_put pages (next % PAGE_SIZE) rest ≡ pages_after_write pages next rest = law rest next (IsSpace-drop 1 (page ∷ pages) space) begins fits loaded in
    let through : run_after_put pages 0 rest ≡ pages_after_write pages next rest = rw offset at others in
    ap (λ (others : List PageView). first ∷ others) through ∙ sym (write-behind rest first pages next (omega (arith, number, same)) fits)

through-step : (pages : List PageView) (page : PageView) (bytes : List ℕ) (address : ℕ) → IsThrough pages → IsSpace (page ∷ pages) → page.number ≡ address / PAGE_SIZE → address + length bytes ≤ 2 ^ 64 → IsOk (load (page ∷ pages) WRITE address (length bytes))
    → run_after_put (page ∷ pages) (address % PAGE_SIZE) bytes ≡ pages_after_write (page ∷ pages) address bytes
through-step pages page [] address law space here fits ok = sym (write-none (page ∷ pages) address)
through-step pages page (byte ∷ bytes) address law space here fits ok =
    let all : List ℕ = byte ∷ bytes in
    let offset = address % PAGE_SIZE in
    let room = PAGE_SIZE - offset in
    let piece : List ℕ = take room all in
    let rest : List ℕ = drop room all in
    let first : PageView = page_after_put page offset all in
    let is : IsPage page = space.each 0 page (omega arith) in
    let split : page.number * PAGE_SIZE + offset ≡ address = omega (arith, here) in
    let within : offset + length piece ≤ PAGE_SIZE = omega (arith, length-take room all) in
    let inside : pages_after_write (page ∷ pages) (page.number * PAGE_SIZE + offset) piece ≡ first ∷ pages =
    write-inside piece (page ∷ pages) page.number 0 page page offset (omega arith) (λ j lt same. omega (arith, lt)) refl refl is.low is.whole within in
    let prefix : pages_after_write (page ∷ pages) address piece ≡ first ∷ pages = subst (λ (a : ℕ). pages_after_write (page ∷ pages) a piece ≡ first ∷ pages) split inside in
    let next = (address + length piece) % 2 ^ 64 in
    let parts : pages_after_write (page ∷ pages) address all ≡ pages_after_write (first ∷ pages) next rest =
    ap (pages_after_write (page ∷ pages) address) (sym (take-append-drop room all)) ∙ write-more piece rest (page ∷ pages) address (omega arith) ∙ rw prefix refl in
    let long : length piece + length rest ≡ length all = omega (arith, length-take room all, length-drop room all) in
    let reached : IsOk (load (page ∷ pages) WRITE address (length piece)) = load-front (page ∷ pages) WRITE (length piece) (length rest) (length all) address long ok in
    let left : IsOk (load (page ∷ pages) WRITE next (length rest)) = load-left (page ∷ pages) WRITE address (length piece) (length rest) (length all) (omega arith) long reached ok in
    let full : 0 < length rest → next ≡ (page.number + 1) * PAGE_SIZE = λ some. omega (arith, some, split, length-take room all, length-drop room all, is.low) in
    through-rest pages first page rest next law refl space full (omega (arith, long)) left ∙ sym parts

pub write-through : (pages : List PageView) → IsThrough pages
write-through [] bytes address space begins fits ok = absurd (omega (arith, begins.some))
write-through (page ∷ pages) bytes address space begins fits ok = through-step pages page bytes address (write-through pages) space begins.here fits ok

-- a write from the page of an address on
pub write-from : (pages : List PageView) (index address : ℕ) (bytes : List ℕ) → IsSpace pages → address < 2 ^ 64 → IsIndex pages (address / PAGE_SIZE) index → IsOk (load pages WRITE address (length bytes))
    → take index pages ++ run_after_put (drop index pages) (address % PAGE_SIZE) bytes ≡ pages_after_write pages address bytes
write-from pages index address bytes space fits is ok =
    let low = load-low pages WRITE (length bytes) address space fits ok in
    let whole : take index pages ++ drop index pages ≡ pages = take-append-drop index pages in
    let long : length (take index pages) ≡ index = length-take-le index pages (omega (arith, is.within)) in
    let below : (i : ℕ) → i < length (take index pages) → number_at (take index pages) i < address / PAGE_SIZE = λ i lt. let same : number_at (take index pages) i ≡ number_at pages i = ap (λ (p : PageView). p.number) (get_or-take index pages i no_page (omega (arith, lt, long))) in omega (arith, same, space.rising i index no_page (omega (arith, lt, long)) is.within, is.here) in
    let first : drop index pages ≡ get_or pages index no_page ∷ drop (index + 1) pages = drop_more pages index no_page is.within in
    let begins : BeginsWith (drop index pages) (address / PAGE_SIZE) = record { some = omega (arith, length-drop index pages, is.within); here = rw first is.here } in
    let loaded : IsOk (load (drop index pages) WRITE address (length bytes)) = rw (← load-behind_all (take index pages) (drop index pages) WRITE (length bytes) address below low, whole) ok in
    ap (λ (back : List PageView). take index pages ++ back) (write-through (drop index pages) bytes address (IsSpace-drop index pages space) begins low loaded)
    ∙ sym (write-behind_all (take index pages) (drop index pages) bytes address below low) ∙ rw whole refl

-- where no page has the address, there was nothing to write
pub unwritten : (pages : List PageView) (address : ℕ) (bytes : List ℕ) → page_at pages (address / PAGE_SIZE) ≡ None → IsOk (load pages WRITE address (length bytes)) → pages_after_write pages address bytes ≡ pages
unwritten pages address [] none ok = write-none pages address
unwritten pages address (byte ∷ bytes) none ok =
    let clash : IsSome {T = PageView} None = rw none at (page-loaded pages WRITE address (suc (length bytes)) (omega arith) ok) in
    absurd cc
