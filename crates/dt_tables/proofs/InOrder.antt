-- Two lists in order that have the same elements are one list; a map's entries are in order.
use Rattle.std.proofs.Common.{arith, ◌≡◌, ℕ, suc, ◌<◌, ◌≤◌, cond, Bool, true, false, List, [], ◌∷◌, map, length, get_or, refl, sym, ap, ◌∙◌}
use Rattle.std.specs.Prelude.{T, ⊤}
use Rattle.std.specs.List.{sum_by}
use Rattle.std.specs.List.Sorted.{IsPermutation, IsSortedBy}
use Rattle.std.proofs.lemmas.List.Sums.{sum_by-cons}
use Rattle.std.proofs.lemmas.List.Sorted.{sorted_far, sum_by-IsPermutation}
use Rattle.std.specs.declared.cmp.Ordering.{Ordering}
use Rattle.std.specs.declared.cmp.Ordering.TheVariants.{Less, Equal, Greater}
use Rattle.std.specs.Ordering.{is_lt, ordering_reverse, ordering_then, nat_cmp}
use Rattle.std.specs.Cmp.{IsTotalOrder, nat_cmp_total, on_total, then_total}
use Rattle.std.specs.Cmp.Lexicographic.{slice_cmp, nat_list_cmp_total}
use Rattle.std.proofs.lemmas.List.MinMax.{ranks_by}
use Rattle.std.proofs.lemmas.Cmp.{tied_itself}
use Rattle.std.specs.FinMap.{FinMap, IsAntisymmetric, nat_cmp-IsAntisymmetric, entries, entries_sorted}
use Rattle.std.specs.FinMap.Entries.{below_all, is_sorted}
use Rattle.dt_tables.proofs.Conjuncts.{first, second}
use Rattle.dt_tables.proofs.Maps.{names_tie}

-- neither of two is below the other
apart_neither : (r s : Ordering) → r ≡ ordering_reverse s → is_lt r ≡ false → is_lt s ≡ false → s ≡ Equal
apart_neither r Less e a b = cc
apart_neither r Equal e a b = refl
apart_neither r Greater e a b = let less = ap is_lt e in cc

-- 1 where it holds
abbrev one_if : Bool → ℕ
one_if b = cond b 1 0

module _ {X : Type 0} (R : X → X → Ordering) where
  -- 1 for what is below x
  abbrev below : X → X → ℕ
  below x y = one_if (is_lt (R y x))

  -- nothing is below what stands before it
  abbrev pub Rises : List X → Type 0
  Rises [] = ⊤
  Rises (x ∷ xs) = (sum_by (below x) xs ≡ 0) × Rises xs

  not_below : (x y : X) → below x y ≡ 0 → is_lt (R y x) ≡ false
  not_below x y e = by_test (is_lt (R y x)) e
    where
      by_test : (b : Bool) → one_if b ≡ 0 → b ≡ false
      by_test true h = absurd (omega arith)
      by_test false h = refl

  module _ (o : IsTotalOrder R) (same : IsAntisymmetric R) where
    below_itself : (x : X) → below x x ≡ 0
    below_itself x = ap (λ r. one_if (is_lt r)) (tied_itself o x)

    pub same_rising : (xs ys : List X) → ((f : X → ℕ) → sum_by f ys ≡ sum_by f xs) → Rises xs → Rises ys → ys ≡ xs
    same_rising [] [] h up down = refl
    same_rising [] (y ∷ ys) h up down = absurd (omega (arith, h (λ _. 1), sum_by-cons (λ (_ : X). 1) y ys))
    same_rising (x ∷ xs) [] h up down = absurd (omega (arith, h (λ _. 1), sum_by-cons (λ (_ : X). 1) x xs))
    same_rising (x ∷ xs) (y ∷ ys) h up down =
        let no_less = not_below x y (omega (arith, h (below x), sum_by-cons (below x) x xs, sum_by-cons (below x) y ys, below_itself x, up.0)) in
        let no_more = not_below y x (omega (arith, h (below y), sum_by-cons (below y) x xs, sum_by-cons (below y) y ys, below_itself y, down.0)) in
        let tie : R x y ≡ Equal = apart_neither (R y x) (R x y) (o.antisymm y x) no_less no_more in
        let one : x ≡ y = same x y tie in
        let rest = same_rising xs ys (λ f. omega (arith, h f, sum_by-cons f x xs, sum_by-cons f y ys, ap f one)) up.1 down.1 in
        λ i. sym one i ∷ rest i

    -- what a sort ensures, as the keys of the elements
    pub rises_from_sort : {P : Type 0} (key : P → X) (ps : List P) → IsSortedBy (λ a b. is_lt (R (key a) (key b))) ps → Rises (map key ps)
    rises_from_sort {P} key ps h = far ps (sorted_far (λ a b. is_lt (R (key a) (key b))) (ranks_by o key) ps h)
      where
        none_below : (p : P) (qs : List P) → ((k : ℕ) → k < length qs → is_lt (R (key (get_or qs k p)) (key p)) ≡ false) → sum_by (below (key p)) (map key qs) ≡ 0
        none_below p [] h = refl
        none_below p (q ∷ qs) h =
            let here = ap one_if (h 0 (omega arith)) in
            let rest = none_below p qs (λ k lt. h (suc k) (omega arith)) in
            omega (arith, sum_by-cons (below (key p)) (key q) (map key qs), here, rest)

        far : (qs : List P) → ((i j : ℕ) (d : P) → i ≤ j → j < length qs → is_lt (R (key (get_or qs j d)) (key (get_or qs i d))) ≡ false) → Rises (map key qs)
        far [] h = tt
        far (q ∷ qs) h = (none_below q qs (λ k lt. h 0 (suc k) q (omega arith) (omega arith)), far qs (λ i j d le lt. h (suc i) (suc j) d (omega arith) (omega arith)))

-- the order of entries: by name, then by number
abbrev pub by_name : List ℕ × ℕ → List ℕ × ℕ → Ordering
by_name a b = ordering_then (slice_cmp nat_cmp a.0 b.0) (nat_cmp a.1 b.1)

by_name-total : IsTotalOrder by_name
by_name-total = then_total (on_total (λ (e : List ℕ × ℕ). e.0) nat_list_cmp_total) (on_total (λ (e : List ℕ × ℕ). e.1) nat_cmp_total)

by_name-IsAntisymmetric : IsAntisymmetric by_name
by_name-IsAntisymmetric a b e = λ i. (names_tie a.0 b.0 (first_tie _ _ e) i, nat_cmp-IsAntisymmetric a.1 b.1 (second_tie _ _ e) i)
  where
    first_tie : (r s : Ordering) → ordering_then r s ≡ Equal → r ≡ Equal
    first_tie Less s h = h
    first_tie Equal s h = refl
    first_tie Greater s h = h

    second_tie : (r s : Ordering) → ordering_then r s ≡ Equal → s ≡ Equal
    second_tie Less s h = cc
    second_tie Equal s h = h
    second_tie Greater s h = cc

rises_from_entries : (es : List (List ℕ × ℕ)) → T (is_sorted (slice_cmp nat_cmp) es) → Rises by_name es
rises_from_entries [] h = tt
rises_from_entries (e ∷ es) h = (none_below es (first _ _ h), rises_from_entries es (second _ _ h))
  where
    not_less : (r s t : Ordering) → s ≡ ordering_reverse r → T (is_lt r) → one_if (is_lt (ordering_then s t)) ≡ 0
    not_less Less s t e p = ap (λ q. one_if (is_lt (ordering_then q t))) e
    not_less Equal s t e p = absurd p
    not_less Greater s t e p = absurd p

    none_below : (fs : List (List ℕ × ℕ)) → T (below_all (slice_cmp nat_cmp) e.0 fs) → sum_by (below by_name e) fs ≡ 0
    none_below [] p = refl
    none_below (f ∷ fs) p =
        let here = not_less (slice_cmp nat_cmp e.0 f.0) (slice_cmp nat_cmp f.0 e.0) (nat_cmp f.1 e.1) (nat_list_cmp_total.antisymm f.0 e.0) (first _ _ p) in
        let rest = none_below fs (second (is_lt (slice_cmp nat_cmp e.0 f.0)) (below_all (slice_cmp nat_cmp) e.0 fs) p) in
        omega (arith, sum_by-cons (below by_name e) f fs, here, rest)

-- the entries of a directory in any order, once sorted, are those of the map in the order of its keys
pub sorted_entries : {P : Type 0} (key : P → List ℕ × ℕ) (names : FinMap (slice_cmp nat_cmp) ℕ) (given found : List P) → IsPermutation (entries names) (map key given) → IsPermutation (map key given) (map key found) → IsSortedBy (λ a b. is_lt (by_name (key a) (key b))) found → map key found ≡ entries names
sorted_entries key names given found all moved sorted =
    same_rising by_name by_name-total by_name-IsAntisymmetric (entries names) (map key found)
    (λ f. sum_by-IsPermutation f (map key given) (map key found) moved ∙ sum_by-IsPermutation f (entries names) (map key given) all)
    (rises_from_entries (entries names) (entries_sorted names))
    (rises_from_sort by_name by_name-total by_name-IsAntisymmetric key found sorted)
