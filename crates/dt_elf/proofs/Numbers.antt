-- Numbers below a limit that pass a test.
use Rattle.std.proofs.Common.{◌≡◌, ℕ, zero, suc, ◌+◌, ◌-◌, ◌<◌, ◌≤◌, List, [], ◌∷◌, ◌++◌, length, get_or, Bool, true, false, refl, ap, ◌∙◌, append-nil, length-append, add-one, arith}
use Rattle.std.specs.List.{filter, range_with_len, All}
use Rattle.std.proofs.lemmas.List.Elements.{filter-append, All-filter}
use Rattle.std.proofs.lemmas.List.FromFn.{length-range_with_len, get_or-range_with_len}
use Rattle.dt_elf.specs.SegmentPages.{numbers_below}
use Rattle.dt_elf.specs.inner.Next.{IsNext}

range-more : (a n : ℕ) → range_with_len a (suc n) ≡ range_with_len a n ++ (a + n) ∷ []
range-more a zero = ap (λ (x : ℕ). x ∷ []) (omega arith)
range-more a (suc n) =
    let same : a + 1 + n ≡ a + suc n = omega arith in
    ap (λ (xs : List ℕ). a ∷ xs) (range-more (a + 1) n ∙ rw same refl)

pub numbers-zero : (test : ℕ → Bool) → numbers_below 0 test ≡ []
unfolding numbers_below
numbers-zero test = refl

numbers-step : (test : ℕ → Bool) (n : ℕ) → numbers_below (n + 1) test ≡ numbers_below n test ++ filter test (n ∷ [])
unfolding numbers_below
numbers-step test n =
    let zero_more : 0 + n ≡ n = omega arith in
    rw add-one (ap (filter test) (rw zero_more at (range-more 0 n)) ∙ filter-append test (range_with_len 0 n) (n ∷ []))

pub numbers-more : (test : ℕ → Bool) (n : ℕ) → test n ≡ true → numbers_below (n + 1) test ≡ numbers_below n test ++ n ∷ []
numbers-more test n hit = numbers-step test n ∙ rw hit refl

numbers-same : (test : ℕ → Bool) (n : ℕ) → test n ≡ false → numbers_below (n + 1) test ≡ numbers_below n test
numbers-same test n miss = numbers-step test n ∙ rw miss (append-nil (numbers_below n test))

numbers-gap : (test : ℕ → Bool) (from gap : ℕ) → ((n : ℕ) → from ≤ n → n < from + gap → test n ≡ false) → numbers_below (from + gap) test ≡ numbers_below from test
numbers-gap test from zero none = ap (λ (n : ℕ). numbers_below n test) (omega arith)
numbers-gap test from (suc gap) none =
    let sum : from + suc gap ≡ from + gap + 1 = omega arith in
    ap (λ (n : ℕ). numbers_below n test) sum ∙ numbers-same test (from + gap) (none (from + gap) (omega arith) (omega arith)) ∙ numbers-gap test from gap (λ n le lt. none n le (omega arith))

-- nothing passes between one number and the next that does
pub numbers-next : (test : ℕ → Bool) (from next : ℕ) → IsNext test from next → numbers_below next test ≡ numbers_below from test
numbers-next test from next is =
    let sum : next ≡ from + (next - from) = omega (arith, is.up) in
    ap (λ (n : ℕ). numbers_below n test) sum ∙ numbers-gap test from (next - from) (λ n le lt. is.none n le (omega (arith, lt, is.up)))

longer : (test : ℕ → Bool) (n gap : ℕ) → length (numbers_below n test) ≤ length (numbers_below (n + gap) test)
longer test n zero = let sum : n + 0 ≡ n = omega arith in rw sum (omega arith)
longer test n (suc gap) =
    let sum : n + suc gap ≡ n + gap + 1 = omega arith in
    let more = ap length (numbers-step test (n + gap)) ∙ length-append (numbers_below (n + gap) test) (filter test ((n + gap) ∷ [])) in
    let here = longer test n gap in
    rw (sum, more) (omega arith)

pub numbers-longer : (test : ℕ → Bool) (n m : ℕ) → n ≤ m → length (numbers_below n test) ≤ length (numbers_below m test)
numbers-longer test n m le =
    let sum : n + (m - n) ≡ m = omega arith in
    let here = longer test n (m - n) in
    rw sum at here

-- one that passes makes the list longer
pub numbers-room : (test : ℕ → Bool) (n m : ℕ) → test n ≡ true → n < m → length (numbers_below n test) + 1 ≤ length (numbers_below m test)
numbers-room test n m hit lt =
    let more = ap length (numbers-more test n hit) ∙ length-append (numbers_below n test) (n ∷ []) in
    let here = numbers-longer test (n + 1) m (omega arith) in
    omega (arith, more, here)

pub numbers-low : (test : ℕ → Bool) (limit : ℕ) → All (λ n. n < limit) (numbers_below limit test)
unfolding numbers_below
numbers-low test limit = All-filter test (λ n. n < limit) (range_with_len 0 limit) (λ k d within.
    let long = length-range_with_len 0 limit in
    let k_low : k < limit = omega (arith, within, long) in
    let same : get_or (range_with_len 0 limit) k d ≡ k = get_or-range_with_len 0 limit k d k_low ∙ omega arith in
    rw same k_low)

-- one that passes, and then nothing up to the next that does
pub numbers-on : (test : ℕ → Bool) (n next : ℕ) → test n ≡ true → IsNext test (n + 1) next → numbers_below next test ≡ numbers_below n test ++ n ∷ []
numbers-on test n next hit is = numbers-next test (n + 1) next is ∙ numbers-more test n hit

pub numbers-grown : (test : ℕ → Bool) (n next : ℕ) → test n ≡ true → IsNext test (n + 1) next → length (numbers_below next test) ≡ length (numbers_below n test) + 1
numbers-grown test n next hit is = ap length (numbers-on test n next hit is) ∙ length-append (numbers_below n test) (n ∷ [])
