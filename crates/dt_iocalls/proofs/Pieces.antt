-- A piece of the bytes of ranges that may be read, and how many bytes these have.
use Rattle.std.proofs.Common.{◌≡◌, ℕ, zero, suc, Bool, true, false, get_or, ◌+◌, ◌-◌, ◌%◌, ◌^◌, ◌<◌, ◌≤◌, min, List, [], ◌∷◌, ◌++◌, length, take, drop, append_assoc, append-nil, Option, None, Some, Result, Ok, Err, IsOk, refl, sym, ap, ◌∙◌, subst, arith}
use Rattle.std.specs.Prelude.{IfOk, nat_le}
use Rattle.std.proofs.lemmas.Bool.Decides.{nat_tests}
use Rattle.std.proofs.Math.Seq.{take-append-add, drop-append-add, drop-append_seam, take-length, take-nil, drop-nil}
use Rattle.std.proofs.lemmas.List.{take-append-le, drop-append-le, drop_all, length-append, length-drop, length-take-le}
use Rattle.std.proofs.lemmas.List.Sums.{sum_by-cons}
use Rattle.dt_space.specs.declared.access.Miss.{Miss}
use Rattle.dt_space.specs.declared.access.TheConstants.{READ}
use Rattle.dt_space.specs.Space.{PageView, byte_at, byte_before, load}
use Rattle.dt_space.proofs.Loads.{load-more, joined as loaded_before}
use Rattle.dt_iocalls.specs.declared.ranges.Range.{Range}
use Rattle.dt_iocalls.specs.Ranges.{total_len, joined_bytes, gathered_bytes}
use Rattle.dt_iocalls.proofs.Scattering.{from-index}

-- the first bytes of what was loaded
prefix-at : (pages : List PageView) (right address n k : ℕ) (bytes : List ℕ) (byte : Option ℕ) (rest : Result (List ℕ) Miss) → byte_at pages right address ≡ byte → load pages right ((address + 1) % 2 ^ 64) (n + k) ≡ rest
    → ((more : List ℕ) → load pages right ((address + 1) % 2 ^ 64) (n + k) ≡ Ok more → load pages right ((address + 1) % 2 ^ 64) n ≡ Ok (take n more))
    → byte_before address byte rest ≡ Ok bytes → byte_before address byte (load pages right ((address + 1) % 2 ^ 64) n) ≡ Ok (take (suc n) bytes)
prefix-at pages right address n k bytes None rest here is law ok = absurd cc
prefix-at pages right address n k bytes (Some byte) (Err miss) here is law ok = absurd cc
prefix-at pages right address n k bytes (Some byte) (Ok rest) here is law ok =
    let same : byte ∷ rest ≡ bytes = cc in
    ap (byte_before address (Some byte)) (law rest is) ∙ ap (λ xs. Ok (take (suc n) xs)) same

load-prefix : (pages : List PageView) (right k n address : ℕ) (bytes : List ℕ) → load pages right address (n + k) ≡ Ok bytes → load pages right address n ≡ Ok (take n bytes)
unfolding load
load-prefix pages right k zero address bytes ok = refl
load-prefix pages right k (suc n) address bytes ok =
    let count : suc n + k ≡ suc (n + k) = omega arith in
    prefix-at pages right address n k bytes (byte_at pages right address) (load pages right ((address + 1) % 2 ^ 64) (n + k)) refl refl (λ more is. load-prefix pages right k n ((address + 1) % 2 ^ 64) more is)
    (ap (load pages right address) (sym count) ∙ ok)

length-byte : (pages : List PageView) (right address n : ℕ) (bytes : List ℕ) (byte : Option ℕ) (rest : Result (List ℕ) Miss) → load pages right ((address + 1) % 2 ^ 64) n ≡ rest → ((more : List ℕ) → load pages right ((address + 1) % 2 ^ 64) n ≡ Ok more → length more ≡ n) → byte_before address byte rest ≡ Ok bytes → length bytes ≡ suc n
length-byte pages right address n bytes None rest is law ok = absurd cc
length-byte pages right address n bytes (Some byte) (Err miss) is law ok = absurd cc
length-byte pages right address n bytes (Some byte) (Ok rest) is law ok =
    let same : byte ∷ rest ≡ bytes = cc in
    sym (ap length same) ∙ ap suc (law rest is)

-- as many bytes are loaded as were to be
load-length : (pages : List PageView) (right n address : ℕ) (bytes : List ℕ) → load pages right address n ≡ Ok bytes → length bytes ≡ n
unfolding load
load-length pages right zero address bytes ok = let none : [] ≡ bytes = cc in sym (ap length none)
load-length pages right (suc n) address bytes ok = length-byte pages right address n bytes (byte_at pages right address) (load pages right ((address + 1) % 2 ^ 64) n) refl (λ more is. load-length pages right n ((address + 1) % 2 ^ 64) more is) ok

-- and those behind them
load-back : (pages : List PageView) (right k n address : ℕ) (bytes : List ℕ) → address < 2 ^ 64 → load pages right address (n + k) ≡ Ok bytes → load pages right ((address + n) % 2 ^ 64) k ≡ Ok (drop n bytes)
load-back pages right k n address bytes fits ok =
    let prefix = load-prefix pages right k n address bytes ok in
    by-rest (load pages right ((address + n) % 2 ^ 64) k) (sym (load-more pages right n k address (take n bytes) fits prefix) ∙ ok) (load-length pages right n address (take n bytes) prefix)
  where
    by-rest : (r : Result (List ℕ) Miss) → loaded_before (take n bytes) r ≡ Ok bytes → length (take n bytes) ≡ n → r ≡ Ok (drop n bytes)
    by-rest (Err miss) is size = absurd cc
    by-rest (Ok rest) is size =
        let same : take n bytes ++ rest ≡ bytes = cc in
        ap Ok (sym (drop-append_seam (take n bytes) rest) ∙ ap (drop (length (take n bytes))) same ∙ ap (λ m. drop m bytes) size)

-- so the bytes of a part of what can be loaded are the part of its bytes
pub load-part : (pages : List PageView) (right address total m n : ℕ) (bytes : List ℕ) → address < 2 ^ 64 → m + n ≤ total → load pages right address total ≡ Ok bytes → load pages right ((address + m) % 2 ^ 64) n ≡ Ok (take n (drop m bytes))
load-part pages right address total m n bytes fits within ok =
    let k = total - (m + n) in
    let sum : total ≡ m + (n + k) = omega arith in
    load-prefix pages right k n ((address + m) % 2 ^ 64) (drop m bytes)
    (load-back pages right (n + k) m address bytes fits (ap (load pages right address) (sym sum) ∙ ok))

-- bytes of two parts, the first ones of which are skipped, and so many of which are taken
drop-both : (b m : List ℕ) (skip s : ℕ) → s ≡ min skip (length b) → drop skip (b ++ m) ≡ drop s b ++ drop (skip - s) m
drop-both b m skip s is = by-test (nat_le skip (length b)) refl
  where
    by-test : (within : Bool) → nat_le skip (length b) ≡ within → drop skip (b ++ m) ≡ drop s b ++ drop (skip - s) m
    by-test true e =
        let within : skip ≤ length b = grind (arith, nat_tests) in
        let here : s ≡ skip = omega arith in
        let none : skip - skip ≡ 0 = omega arith in
        rw (here, none) (drop-append-le skip b m within)
    by-test false e =
        let past : length b ≤ skip = grind (arith, nat_tests) in
        let here : s ≡ length b = omega arith in
        let sum : skip ≡ length b + (skip - length b) = omega arith in
        ap (λ n. drop n (b ++ m)) sum ∙ drop-append-add b m (skip - length b) ∙ rw (here, drop_all (length b) b (omega arith)) refl

take-both : (x y : List ℕ) (left t : ℕ) → t ≡ min left (length x) → take left (x ++ y) ≡ take t x ++ take (left - t) y
take-both x y left t is = by-test (nat_le left (length x)) refl
  where
    by-test : (within : Bool) → nat_le left (length x) ≡ within → take left (x ++ y) ≡ take t x ++ take (left - t) y
    by-test true e =
        let within : left ≤ length x = grind (arith, nat_tests) in
        let here : t ≡ left = omega arith in
        let none : left - left ≡ 0 = omega arith in
        rw (here, none) (take-append-le left x y within ∙ sym (append-nil (take left x)))
    by-test false e =
        let past : length x ≤ left = grind (arith, nat_tests) in
        let here : t ≡ length x = omega arith in
        let sum : left ≡ length x + (left - length x) = omega arith in
        ap (λ n. take n (x ++ y)) sum ∙ take-append-add x y (left - length x) ∙ rw (here, take-length x) refl

both-parts : (b m : List ℕ) (size skip left skipped len : ℕ) → length b ≡ size → skipped ≡ min skip size → len ≡ min left (size - skipped)
    → take left (drop skip (b ++ m)) ≡ take len (drop skipped b) ++ take (left - len) (drop (skip - skipped) m)
both-parts b m size skip left skipped len size_is skipped_is len_is =
    ap (take left) (drop-both b m skip skipped (omega arith))
    ∙ take-both (drop skipped b) (drop (skip - skipped) m) left len (omega (arith, length-drop skipped b))

-- a range that may be read, and those behind it
record Both (first rest : Result (List ℕ) Miss) : Type 0 where
  bytes : List ℕ
  more : List ℕ
  first_is : first ≡ Ok bytes
  rest_is : rest ≡ Ok more

both : (first rest : Result (List ℕ) Miss) → IsOk (joined_bytes first rest) → Both first rest
both (Ok bytes) (Ok more) ok = record { bytes = bytes; more = more; first_is = refl; rest_is = refl }
both (Ok bytes) (Err miss) ok = absurd cc
both (Err miss) rest ok = absurd cc

opened : (pages : List PageView) (range : Range) (rest : List Range) → IsOk (gathered_bytes pages (range ∷ rest)) → Both (load pages READ range.address range.len) (gathered_bytes pages rest)
unfolding gathered_bytes
opened pages range rest ok = both (load pages READ range.address range.len) (gathered_bytes pages rest) ok

gathered-both : (pages : List PageView) (range : Range) (rest : List Range) (bytes more : List ℕ) → load pages READ range.address range.len ≡ Ok bytes → gathered_bytes pages rest ≡ Ok more → gathered_bytes pages (range ∷ rest) ≡ Ok (bytes ++ more)
unfolding gathered_bytes
gathered-both pages range rest bytes more first_is rest_is = (λ i. joined_bytes (first_is i) (rest_is i))

gathered-none : (pages : List PageView) → gathered_bytes pages [] ≡ Ok []
unfolding gathered_bytes
gathered-none pages = refl

-- so many of the bytes of ranges from an offset on: what came so far, and so many of the bytes of the ranges that are left,
-- some of which are skipped
pub record IsPartly (pages : List PageView) (ranges rest : List Range) (offset count skip left : ℕ) (piece : List ℕ) : Type 0 where
  pub readable : IsOk (gathered_bytes pages rest)
  pub parts : (all more : List ℕ) → gathered_bytes pages ranges ≡ Ok all → gathered_bytes pages rest ≡ Ok more → take count (drop offset all) ≡ piece ++ take left (drop skip more)

module _ (pages : List PageView) (ranges : List Range) (i : ℕ) (d : Range) (offset count skip left skipped len : ℕ) (piece : List ℕ) (within : i < length ranges) (fits : (get_or ranges i d).address < 2 ^ 64) (skipped_is : skipped ≡ min skip (get_or ranges i d).len) (len_is : len ≡ min left ((get_or ranges i d).len - skipped)) (h : IsPartly pages ranges (drop i ranges) offset count skip left piece) where
  abbrev here : Range
  here = get_or ranges i d

  two : Both (load pages READ here.address here.len) (gathered_bytes pages (drop (i + 1) ranges))
  two = opened pages here (drop (i + 1) ranges) (subst (λ r. IsOk (gathered_bytes pages r)) (from-index ranges i d within) h.readable)

  found : load pages READ ((here.address + skipped) % 2 ^ 64) len ≡ Ok (take len (drop skipped two.bytes))
  found = load-part pages READ here.address here.len skipped len two.bytes fits (omega arith) two.first_is

  pub partly-more : (bytes new : List ℕ) → load pages READ ((here.address + skipped) % 2 ^ 64) len ≡ Ok bytes → new ≡ piece ++ bytes → IsPartly pages ranges (drop (i + 1) ranges) offset count (skip - skipped) (left - len) new
  partly-more bytes new came new_is = record {
    readable = subst IsOk (sym two.rest_is) refl;
    parts = λ all more whole rest.
        let alike = sym came ∙ found in
        let same : bytes ≡ take len (drop skipped two.bytes) = cc in
        h.parts all (two.bytes ++ more) whole (ap (gathered_bytes pages) (from-index ranges i d within) ∙ gathered-both pages here (drop (i + 1) ranges) two.bytes more two.first_is rest)
        ∙ ap (λ xs. piece ++ xs) (both-parts two.bytes more here.len skip left skipped len (load-length pages READ here.len here.address two.bytes two.first_is) skipped_is len_is)
        ∙ sym (append_assoc piece (take len (drop skipped two.bytes)) (take (left - len) (drop (skip - skipped) more)))
        ∙ ap (λ xs. xs ++ take (left - len) (drop (skip - skipped) more)) (ap (λ xs. piece ++ xs) (sym same) ∙ sym new_is);
  }

  pub partly-missed : (miss : Miss) → load pages READ ((here.address + skipped) % 2 ^ 64) len ≡ Err miss → ⊥
  partly-missed miss missed = let clash = sym missed ∙ found in absurd cc

pub partly-end : (pages : List PageView) (ranges : List Range) (i offset count skip left : ℕ) (piece : List ℕ) → length ranges ≤ i → IsPartly pages ranges (drop i ranges) offset count skip left piece → IfOk (gathered_bytes pages ranges) (λ all. piece ≡ take count (drop offset all))
partly-end pages ranges i offset count skip left piece end h = by-all (gathered_bytes pages ranges) refl
  where
    none : gathered_bytes pages (drop i ranges) ≡ Ok []
    none = ap (gathered_bytes pages) (drop_all i ranges end) ∙ gathered-none pages

    by-all : (found : Result (List ℕ) Miss) → gathered_bytes pages ranges ≡ found → IfOk found (λ all. piece ≡ take count (drop offset all))
    by-all (Ok all) is = sym (h.parts all [] is none ∙ ap (λ xs. piece ++ take left xs) (drop-nil skip) ∙ ap (λ xs. piece ++ xs) (take-nil left) ∙ append-nil piece)
    by-all (Err miss) is = tt

-- whether ranges may be read is a matter of those that are left
pub record FollowsRest (pages : List PageView) (ranges rest : List Range) : Type 0 where
  pub readable : IsOk (gathered_bytes pages rest) → IsOk (gathered_bytes pages ranges)
  pub missed : (miss : Miss) → gathered_bytes pages rest ≡ Err miss → gathered_bytes pages ranges ≡ Err miss

joined-ok : (first rest : Result (List ℕ) Miss) → IsOk first → IsOk rest → IsOk (joined_bytes first rest)
joined-ok (Ok bytes) (Ok more) ok also = refl
joined-ok (Ok bytes) (Err miss) ok also = absurd cc
joined-ok (Err miss) rest ok also = absurd cc

joined-missed : (first rest : Result (List ℕ) Miss) (miss : Miss) → IsOk first → rest ≡ Err miss → joined_bytes first rest ≡ Err miss
joined-missed (Ok bytes) rest miss ok is = ap (joined_bytes (Ok bytes)) is
joined-missed (Err other) rest miss ok is = absurd cc

module _ (pages : List PageView) (ranges : List Range) (i : ℕ) (d : Range) (within : i < length ranges) (h : FollowsRest pages ranges (drop i ranges)) where
  pub readable-more : IsOk (load pages READ (get_or ranges i d).address (get_or ranges i d).len) → FollowsRest pages ranges (drop (i + 1) ranges)
  unfolding gathered_bytes
  readable-more ok = record {
    readable = λ also. h.readable (subst (λ r. IsOk (gathered_bytes pages r)) (sym (from-index ranges i d within)) (joined-ok (load pages READ (get_or ranges i d).address (get_or ranges i d).len) (gathered_bytes pages (drop (i + 1) ranges)) ok also));
    missed = λ miss is. h.missed miss (ap (gathered_bytes pages) (from-index ranges i d within) ∙ joined-missed (load pages READ (get_or ranges i d).address (get_or ranges i d).len) (gathered_bytes pages (drop (i + 1) ranges)) miss ok is);
  }

  pub readable-missed : (miss : Miss) → load pages READ (get_or ranges i d).address (get_or ranges i d).len ≡ Err miss → gathered_bytes pages ranges ≡ Err miss
  unfolding gathered_bytes
  readable-missed miss is = h.missed miss (ap (gathered_bytes pages) (from-index ranges i d within) ∙ ap (λ r. joined_bytes r (gathered_bytes pages (drop (i + 1) ranges))) is)

pub readable-end : (pages : List PageView) (ranges : List Range) (i : ℕ) → length ranges ≤ i → FollowsRest pages ranges (drop i ranges) → IsOk (gathered_bytes pages ranges)
readable-end pages ranges i end h = h.readable (subst IsOk (sym (ap (gathered_bytes pages) (drop_all i ranges end) ∙ gathered-none pages)) refl)

-- as many bytes are gathered as the ranges have
pub gathered-length : (pages : List PageView) (ranges : List Range) (bytes : List ℕ) → gathered_bytes pages ranges ≡ Ok bytes → length bytes ≡ total_len ranges
gathered-length pages [] bytes is = let none = sym (gathered-none pages) ∙ is in let same : [] ≡ bytes = cc in sym (ap length same)
gathered-length pages (range ∷ ranges) bytes is =
    let two = opened pages range ranges (subst IsOk (sym is) refl) in
    let whole = sym (gathered-both pages range ranges two.bytes two.more two.first_is two.rest_is) ∙ is in
    let same : two.bytes ++ two.more ≡ bytes = cc in
    let first = load-length pages READ range.len range.address two.bytes two.first_is in
    let rest = gathered-length pages ranges two.more two.rest_is in
    omega (arith, ap length same, length-append two.bytes two.more, sum_by-cons (λ r. r.len) range ranges)

-- a piece within the bytes of ranges has its length
pub piece-length : (pages : List PageView) (ranges : List Range) (m n : ℕ) (piece : List ℕ) → IsOk (gathered_bytes pages ranges) → m + n ≤ total_len ranges → IfOk (gathered_bytes pages ranges) (λ bytes. piece ≡ take n (drop m bytes)) → length piece ≡ n
piece-length pages ranges m n piece ok within is = by-found (gathered_bytes pages ranges) refl ok is
  where
    by-found : (found : Result (List ℕ) Miss) → gathered_bytes pages ranges ≡ found → IsOk found → IfOk found (λ bytes. piece ≡ take n (drop m bytes)) → length piece ≡ n
    by-found (Ok bytes) is ok piece_is =
        let whole = gathered-length pages ranges bytes is in
        ap length piece_is ∙ length-take-le n (drop m bytes) (omega (arith, length-drop m bytes))
    by-found (Err miss) is ok piece_is = absurd cc
