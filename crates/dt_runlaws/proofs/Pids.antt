-- Lists of pids: those that are all different, and those that pass a test.
use Rattle.std.proofs.Common.{◌≡◌, ◌≢◌, ℕ, ◌==◌, ◌||◌, Bool, true, false, cond, List, [], ◌∷◌, ◌++◌, refl, sym, arith}
use Rattle.std.proofs.lemmas.Bool.Decides.{nat_tests}
use Rattle.std.specs.List.{AllByRecursion, filter, list_any}
use Rattle.dt_engine.proofs.Kept.{all-weaker}
use Rattle.dt_rounds.proofs.Rounds.{all-more}
use Rattle.dt_runlaws.specs.Shown.{AreDistinct}

-- one more that is none of them
pub distinct-more : (ps : List ℕ) (p : ℕ) → AreDistinct ps → AllByRecursion (λ q. q ≢ p) ps → AreDistinct (ps ++ p ∷ [])
distinct-more [] p once absent = (tt, tt)
distinct-more (x ∷ xs) p once absent =
    (all-more (λ q. q ≢ x) xs p once.0 (λ e. absent.0 (sym e)), distinct-more xs p once.1 absent.1)

-- two more
all-two : (P : ℕ → Type 0) (ps : List ℕ) (p q : ℕ) → AllByRecursion P ps → P p → P q → AllByRecursion P (ps ++ p ∷ q ∷ [])
all-two P [] p q all one other = (one, (other, tt))
all-two P (x ∷ xs) p q all one other = (all.0, all-two P xs p q all.1 one other)

pub all-two-more : (P : ℕ → Type 0) (ps : List ℕ) (p q : ℕ) → AllByRecursion P ps → P p → P q → AllByRecursion P (ps ++ p ∷ q ∷ [])
all-two-more P ps p q all one other = all-two P ps p q all one other

pub distinct-two-more : (ps : List ℕ) (p q : ℕ) → AreDistinct ps → AllByRecursion (λ x. x ≢ p) ps → AllByRecursion (λ x. x ≢ q) ps
    → q ≢ p → AreDistinct (ps ++ p ∷ q ∷ [])
distinct-two-more [] p q once one other apart = ((apart, tt), (tt, tt))
distinct-two-more (x ∷ xs) p q once one other apart = (
  all-two (λ y. y ≢ x) xs p q once.0 (λ e. one.0 (sym e)) (λ e. other.0 (sym e)),
  distinct-two-more xs p q once.1 one.1 other.1 apart,
)

-- the first of them is none of the others
pub absent-rest : (p : ℕ) (ps : List ℕ) → AllByRecursion (λ q. q ≢ p) ps → list_any (λ q. q == p) ps ≡ false
absent-rest p [] absent = refl
absent-rest p (x ∷ xs) absent =
    let other = absent.0 in
    let rest = absent-rest p xs absent.1 in
    grind (arith, nat_tests)

pub any-absent : (p : ℕ) (ps : List ℕ) → list_any (λ q. q == p) ps ≡ false → AllByRecursion (λ q. q ≢ p) ps
any-absent p [] none = tt
any-absent p (x ∷ xs) none = (λ e. absurd (grind (arith, nat_tests)), any-absent p xs (grind (arith, nat_tests)))

-- each of them is among them
or-true : (b x : Bool) → x ≡ true → (b || x) ≡ true
or-true true x is = refl
or-true false x is = is

pub all-among : (ps : List ℕ) → AllByRecursion (λ p. list_any (λ q. q == p) ps ≡ true) ps
all-among [] = tt
all-among (x ∷ xs) = (
  grind (arith, nat_tests),
  all-weaker (λ p. list_any (λ q. q == p) xs ≡ true) (λ p. list_any (λ q. q == p) (x ∷ xs) ≡ true)
      (λ p is. or-true (x == p) (list_any (λ q. q == p) xs) is) xs (all-among xs),
)

-- those that pass a test
one-filtered : (P : ℕ → Type 0) (test : ℕ → Bool) (p : ℕ) (ps : List ℕ) (b : Bool) → test p ≡ b → P p
    → AllByRecursion (λ p. P p × (test p ≡ true)) ps → AllByRecursion (λ p. P p × (test p ≡ true)) (cond b (p ∷ ps) ps)
one-filtered P test p ps true is one rest = ((one, is), rest)
one-filtered P test p ps false is one rest = rest

pub all-filtered : (P : ℕ → Type 0) (test : ℕ → Bool) (ps : List ℕ) → AllByRecursion P ps
    → AllByRecursion (λ p. P p × (test p ≡ true)) (filter test ps)
all-filtered P test [] all = tt
all-filtered P test (x ∷ xs) all = one-filtered P test x (filter test xs) (test x) refl all.0 (all-filtered P test xs all.1)
