-- The entries of an image by index: their paths rise, and each entry's directory comes before it.
use Rattle.std.proofs.Common.{arith, ◌≡◌, ◌≢◌, inl, inr, ℕ, zero, suc, ◌+◌, ◌<◌, List, [], ◌∷◌, ◌++◌, length, take, Bool, true, false, ◌||◌, Some, None, refl, sym, ap, subst, ◌∙◌}
use Rattle.std.proofs.lemmas.Bool.{cases_order, and_parts}
use Rattle.std.proofs.lemmas.Cmp.{tied_itself}
use Rattle.std.proofs.lemmas.List.{take_more}
use Rattle.std.proofs.lemmas.Option.{get_or_from_slice_get, same_Some, slice_get_within}
use Rattle.std.specs.Prelude.{slice_get}
use Rattle.std.specs.List.{list_all, list_any}
use Rattle.std.specs.declared.cmp.Ordering.{Ordering}
use Rattle.std.specs.declared.cmp.Ordering.TheVariants.{Less, Equal, Greater}
use Rattle.std.specs.Ordering.{nat_cmp, is_lt, ordering_reverse}
use Rattle.std.specs.Cmp.Lexicographic.{slice_cmp, nat_list_cmp_total}
use Rattle.dt_base.specs.declared.image.Entry.{Entry}
use Rattle.dt_base.specs.Image.{is_rising}

-- by index, in lists
pub all_at : {X : Type 0} (p : X → Bool) (xs : List X) (k : ℕ) (x : X) → list_all p xs ≡ true → slice_get xs k ≡ Some x → p x ≡ true
all_at p [] k x h at = cc
all_at p (y ∷ ys) zero x h at = let same : y ≡ x = cc in ap p (sym same) ∙ (and_parts (p y) (list_all p ys) h).0
all_at p (y ∷ ys) (suc k) x h at = all_at p ys k x (and_parts (p y) (list_all p ys) h).1 at

pub any_index : {X : Type 0} (p : X → Bool) (xs : List X) → list_any p xs ≡ true → (k : ℕ) × (x : X) × (slice_get xs k ≡ Some x) × (p x ≡ true)
any_index p [] h = cc
any_index {X} p (y ∷ ys) h = by_test (p y) refl (any_index p ys) h
  where
    later : (k : ℕ) × (x : X) × (slice_get ys k ≡ Some x) × (p x ≡ true) → (k : ℕ) × (x : X) × (slice_get (y ∷ ys) k ≡ Some x) × (p x ≡ true)
    later found = (suc found.0, found.1, found.2, found.3)

    by_test : (b : Bool) → p y ≡ b → (list_any p ys ≡ true → (k : ℕ) × (x : X) × (slice_get ys k ≡ Some x) × (p x ≡ true)) → (b || list_any p ys) ≡ true → (k : ℕ) × (x : X) × (slice_get (y ∷ ys) k ≡ Some x) × (p x ≡ true)
    by_test true e rest h = (0, y, refl, e)
    by_test false e rest h = later (rest h)

pub taken : {X : Type 0} (xs : List X) (i k : ℕ) (x : X) → slice_get (take i xs) k ≡ Some x → (slice_get xs k ≡ Some x) × (k < i)
taken [] zero k x at = cc
taken [] (suc i) k x at = cc
taken (y ∷ ys) zero k x at = cc
taken (y ∷ ys) (suc i) zero x at = (at, omega arith)
taken (y ∷ ys) (suc i) (suc k) x at = let rest = taken ys i k x at in (rest.0, omega arith)

pub still_taken : {X : Type 0} (xs : List X) (i k : ℕ) (x : X) → slice_get xs k ≡ Some x → k < i → slice_get (take i xs) k ≡ Some x
still_taken [] i k x at h = cc
still_taken (y ∷ ys) zero k x at h = absurd (omega arith)
still_taken (y ∷ ys) (suc i) zero x at h = at
still_taken (y ∷ ys) (suc i) (suc k) x at h = still_taken ys i k x at (omega arith)

pub take_next : {X : Type 0} (xs : List X) (i : ℕ) (x : X) → slice_get xs i ≡ Some x → take (i + 1) xs ≡ take i xs ++ x ∷ []
take_next xs i x at = take_more xs i x (slice_get_within xs i x at) ∙ ap (λ y. take i xs ++ y ∷ []) (get_or_from_slice_get xs i x x at)

pub get_left : {X : Type 0} (xs : List X) (y : X) (k : ℕ) (x : X) → slice_get xs k ≡ Some x → slice_get (xs ++ y ∷ []) k ≡ Some x
get_left [] y k x at = cc
get_left (z ∷ zs) y zero x at = at
get_left (z ∷ zs) y (suc k) x at = get_left zs y k x at

pub get_last : {X : Type 0} (xs : List X) (y : X) → slice_get (xs ++ y ∷ []) (length xs) ≡ Some y
get_last [] y = refl
get_last (z ∷ zs) y = get_last zs y

pub get_past : {X : Type 0} (xs : List X) (y : X) (k : ℕ) → slice_get xs k ≡ None → k ≢ length xs → slice_get (xs ++ y ∷ []) k ≡ None
get_past [] y zero at apart = absurd (apart refl)
get_past [] y (suc k) at apart = refl
get_past (z ∷ zs) y zero at apart = cc
get_past (z ∷ zs) y (suc k) at apart = get_past zs y k at (λ same. apart (ap suc same))

-- an entry's path comes before another's
abbrev pub Before : Entry → Entry → Type 0
Before a b = slice_cmp nat_cmp a.path b.path ≡ Less

less : (r : Ordering) → is_lt r ≡ true → r ≡ Less
less Less e = refl
less Equal e = cc
less Greater e = cc

rest_rises : (first : Entry) (rest : List Entry) → is_rising (first ∷ rest) ≡ true → is_rising rest ≡ true
rest_rises first [] h = refl
rest_rises first (second ∷ rest) h = (and_parts (is_lt (slice_cmp nat_cmp first.path second.path)) (is_rising (second ∷ rest)) h).1

first_before : (first : Entry) (rest : List Entry) → is_rising (first ∷ rest) ≡ true → (k : ℕ) (x : Entry) → slice_get rest k ≡ Some x → Before first x
first_before first [] h k x at = cc
first_before first (second ∷ rest) h zero x at =
    let low = less (slice_cmp nat_cmp first.path second.path) (and_parts (is_lt (slice_cmp nat_cmp first.path second.path)) (is_rising (second ∷ rest)) h).0 in
    let same : second ≡ x = cc in
    subst (Before first) same low
first_before first (second ∷ rest) h (suc k) x at =
    let low = less (slice_cmp nat_cmp first.path second.path) (and_parts (is_lt (slice_cmp nat_cmp first.path second.path)) (is_rising (second ∷ rest)) h).0 in
    nat_list_cmp_total.trans first.path second.path x.path low (first_before second rest (rest_rises first (second ∷ rest) h) k x at)

pub rises : (entries : List Entry) → is_rising entries ≡ true → (i j : ℕ) (x y : Entry) → i < j → slice_get entries i ≡ Some x → slice_get entries j ≡ Some y → Before x y
rises [] h i j x y low at_i at_j = cc
rises (first ∷ rest) h i zero x y low at_i at_j = absurd (omega arith)
rises (first ∷ rest) h zero (suc j) x y low at_i at_j = let same : first ≡ x = cc in subst (λ a. Before a y) same (first_before first rest h j y at_j)
rises (first ∷ rest) h (suc i) (suc j) x y low at_i at_j = rises rest (rest_rises first rest h) i j x y (omega arith) at_i at_j

-- what comes before another is another
pub not_itself : (a b : List ℕ) → slice_cmp nat_cmp a b ≡ Less → a ≡ b → ⊥
not_itself a b low same = clash (sym low ∙ ap (slice_cmp nat_cmp a) (sym same) ∙ tied_itself nat_list_cmp_total a)
  where
    clash : Less ≡ Equal → ⊥
    clash e = cc

pub not_both_ways : (a b : List ℕ) → slice_cmp nat_cmp a b ≡ Less → slice_cmp nat_cmp b a ≡ Less → ⊥
not_both_ways a b p q = clash (sym p ∙ nat_list_cmp_total.antisymm a b ∙ ap ordering_reverse q)
  where
    clash : Less ≡ Greater → ⊥
    clash e = cc

module _ (entries : List Entry) (h : is_rising entries ≡ true) where
  -- a path stands once
  pub one_index : (i j : ℕ) (x y : Entry) → slice_get entries i ≡ Some x → slice_get entries j ≡ Some y → x.path ≡ y.path → i ≡ j
  one_index i j x y at_i at_j same = elim (cases_order i j) [
    | inl e ↦ e
    | inr apart ↦ elim apart [
      | inl low ↦ absurd (not_itself x.path y.path (rises entries h i j x y low at_i at_j) same)
      | inr low ↦ absurd (not_itself y.path x.path (rises entries h j i y x low at_j at_i) (sym same))
    ]
  ]

  -- what comes before another has a lower index
  pub lower : (i j : ℕ) (x y : Entry) → slice_get entries i ≡ Some x → slice_get entries j ≡ Some y → Before x y → i < j
  lower i j x y at_i at_j before = elim (cases_order i j) [
    | inl e ↦ absurd (not_itself x.path y.path before (same_path e))
    | inr apart ↦ elim apart [
      | inl low ↦ low
      | inr low ↦ absurd (not_both_ways x.path y.path before (rises entries h j i y x low at_j at_i))
    ]
  ]
    where
      same_path : i ≡ j → x.path ≡ y.path
      same_path e = let same : x ≡ y = same_Some x y (sym at_i ∙ ap (slice_get entries) e ∙ at_j) in ap (λ (e : Entry). e.path) same
