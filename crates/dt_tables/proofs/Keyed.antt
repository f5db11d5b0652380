-- The keys of a table by number, once sorted, as a finite map has them.
use Rattle.std.proofs.Common.{arith, ◌≡◌, cond, false, Bool, ℕ, List, [], ◌∷◌, length, Some, None, nat_eq, refl, sym, ap, subst, ◌∙◌}
use Rattle.std.proofs.lemmas.List.{map-id}
use Rattle.std.proofs.lemmas.List.Sorted.{IsPermutation-refl, IsPermutation-cons, IsPermutation-trans, IsPermutation-middle, IsPermutation-map, sum_by-IsPermutation}
use Rattle.std.proofs.lemmas.List.Sums.{sum_by-cons}
use Rattle.std.specs.Prelude.{T}
use Rattle.std.specs.List.{AllByRecursion, IsDistinct, sum_by}
use Rattle.std.specs.List.Sorted.{IsPermutation, IsSorted}
use Rattle.std.specs.Map.{keys_of}
use Rattle.std.specs.Ordering.{nat_cmp, is_eq, is_lt, ordering_reverse}
use Rattle.std.specs.declared.cmp.Ordering.{Ordering}
use Rattle.std.specs.declared.cmp.Ordering.TheVariants.{Less, Equal, Greater}
use Rattle.std.specs.Cmp.{nat_cmp_total}
use Rattle.std.specs.HashMap as hash
use Rattle.std.specs.HashMap.{HashMap}
use Rattle.std.specs.FinMap.{keys, entries, entries_sorted, empty, from_entries, entries-insert, get-entries, get-from_entries, len-entries, len-empty, nat_cmp-IsAntisymmetric}
use Rattle.std.specs.FinMap.Entries.{find, put, by_order, below_all, is_sorted}
use Rattle.dt_tables.specs.Entries.{map_of}
use Rattle.dt_tables.proofs.Conjuncts.{first, second}
use Rattle.dt_tables.proofs.Sorted.{same_entries}
use Rattle.dt_tables.proofs.InOrder.{Rises, same_rising, rises_from_sort}
use Rattle.dt_tables.proofs.Maps.{number_tie}

none_left : {A : Type 0} (xs : List A) → length xs ≡ 0 → xs ≡ []
none_left [] e = refl
none_left (x ∷ xs) e = absurd (omega arith)

-- 1 where it holds
abbrev one_if : Bool → ℕ
one_if b = cond b 1 0

-- a number below another is not above it
not_above : (r s : Ordering) → s ≡ ordering_reverse r → T (is_lt r) → one_if (is_lt s) ≡ 0
not_above Less s e p = ap (λ q. one_if (is_lt q)) e
not_above Equal s e p = absurd p
not_above Greater s e p = absurd p

module _ {X : Type 0} where
  none_above : (n : ℕ) (es : List (ℕ × X)) → T (below_all nat_cmp n es) → sum_by (λ (q : ℕ). one_if (is_lt (nat_cmp q n))) (keys_of es) ≡ 0
  none_above n [] h = refl
  none_above n (e ∷ es) h =
      let here = not_above (nat_cmp n e.0) (nat_cmp e.0 n) (nat_cmp_total.antisymm e.0 n) (first _ _ h) in
      let rest = none_above n es (second (is_lt (nat_cmp n e.0)) (below_all nat_cmp n es) h) in
      omega (arith, sum_by-cons (λ (q : ℕ). one_if (is_lt (nat_cmp q n))) e.0 (keys_of es), here, rest)

  rising : (es : List (ℕ × X)) → T (is_sorted nat_cmp es) → Rises nat_cmp (keys_of es)
  rising [] h = tt
  rising (e ∷ es) h = (none_above e.0 es (first _ _ h), rising es (second _ _ h))

  -- an entry whose number is new is one entry more
  put_new : (n : ℕ) (x : X) (es : List (ℕ × X)) → find nat_cmp n es ≡ None → IsPermutation (put nat_cmp n x es) ((n, x) ∷ es)
  put_new n x [] none = IsPermutation-refl ((n, x) ∷ [])
  put_new n x (e ∷ es) none =
      elim (nat_cmp n e.0) as (λ r. cond (is_eq r) (Some e.1) (find nat_cmp n es) ≡ None → IsPermutation (by_order r ((n, x) ∷ e ∷ es) ((e.0, x) ∷ es) (e ∷ put nat_cmp n x es)) ((n, x) ∷ e ∷ es)) [
        | Less ↦ λ _. IsPermutation-refl ((n, x) ∷ e ∷ es)
        | Equal ↦ λ h. cc
        | Greater ↦ λ h.
            IsPermutation-trans _ _ _ (IsPermutation-cons e _ _ (put_new n x es h)) (IsPermutation-middle (e ∷ []) (n, x) es)
      ] none

  -- no entry of a list has this number, where none is equal to it
  none_numbered : (n : ℕ) (es : List (ℕ × X)) → AllByRecursion (λ q. nat_eq n q ≡ false) (keys_of es) → find nat_cmp n es ≡ None
  none_numbered n [] h = refl
  none_numbered n (e ∷ es) h =
      ap (λ b. cond b (Some e.1) (find nat_cmp n es)) (sym (number_tie n e.0) ∙ h.0)
      ∙ none_numbered n es h.1

  -- where no number stands twice, the map has each entry once
  each_entry : (es : List (ℕ × X)) → IsDistinct nat_eq (keys_of es) → IsPermutation (entries (from_entries {R = nat_cmp} es)) es
  unfolding IsDistinct
  each_entry [] h = subst (λ found. IsPermutation found []) (sym no_entries) (IsPermutation-refl [])
    where
      no_entries : entries (empty {X = X} {R = nat_cmp}) ≡ []
      no_entries = none_left (entries (empty {X = X} {R = nat_cmp})) (sym (len-entries (empty {X = X} {R = nat_cmp})) ∙ len-empty nat_cmp X)
  each_entry (e ∷ es) h =
      let values = from_entries {R = nat_cmp} es in
      let rest = each_entry es h.1 in
      let none : find nat_cmp e.0 (entries values) ≡ None =
      sym (get-entries values e.0) ∙ get-from_entries nat_cmp_total es e.0 ∙ none_numbered e.0 es h.0 in
      subst (λ found. IsPermutation found (e ∷ es)) (sym (entries-insert nat_cmp_total values e.0 e.1))
      (IsPermutation-trans _ _ _ (put_new e.0 e.1 (entries values) none) (IsPermutation-cons e _ _ rest))

  -- the keys of a table, once sorted, are those of the finite map that it is seen as
  pub keys-sorted : {S : Type 0} (m : HashMap ℕ X S) (found sorted : List ℕ) → hash.IsUnique nat_eq m → found ≡ hash.keys m → IsPermutation found sorted → IsSorted nat_cmp sorted → sorted ≡ keys (map_of {R = nat_cmp} (λ n. n) (λ (x : X). x) m.entries)
  unfolding map_of
  keys-sorted m found sorted unique listed moved up =
      let es = m.entries in
      let values = from_entries {R = nat_cmp} es in
      let all : IsPermutation (keys values) (keys_of es) = IsPermutation-map (λ (e : ℕ × X). e.0) (entries values) es (each_entry es unique) in
      let sorts : IsPermutation (keys_of es) sorted = subst (λ ks. IsPermutation ks sorted) listed moved in
      same_rising nat_cmp nat_cmp_total nat_cmp-IsAntisymmetric (keys values) sorted
      (λ f. sum_by-IsPermutation f (keys_of es) sorted sorts ∙ sum_by-IsPermutation f (keys values) (keys_of es) all)
      (rising (entries values) (entries_sorted values))
      (subst (Rises nat_cmp) (map-id sorted) (rises_from_sort nat_cmp nat_cmp_total nat_cmp-IsAntisymmetric (λ (n : ℕ). n) sorted up))
      ∙ ap (λ xs. keys (from_entries {R = nat_cmp} xs)) (sym (same_entries es))
