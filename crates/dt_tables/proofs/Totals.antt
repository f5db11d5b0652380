-- The sum over a map's values, after a change of the map.
use Rattle.std.proofs.Common.{arith, ◌≡◌, ℕ, ◌+◌, cond, List, [], ◌∷◌, length, Option, Some, None, refl, sym, ap, ◌∙◌}
use Rattle.std.specs.Prelude.{T}
use Rattle.std.specs.declared.cmp.Ordering.{Ordering}
use Rattle.std.specs.declared.cmp.Ordering.TheVariants.{Less, Equal, Greater}
use Rattle.std.specs.Ordering.{is_eq}
use Rattle.std.specs.Cmp.{IsTotalOrder}
use Rattle.std.specs.FinMap.{FinMap, entries, entries_sorted, empty, get, insert, remove, get-entries, entries-insert, len-entries, len-empty, same_map, IsAntisymmetric}
use Rattle.std.specs.FinMap.Entries.{find, put, by_order, below_all, is_sorted}
use Rattle.dt_tables.proofs.Conjuncts.{first, second}
use Rattle.dt_tables.proofs.Sorted.{below-less, not_found}
use Rattle.dt_tables.proofs.Maps.{get-remove_same, get-remove_other, at_insert, remove_none}
use Rattle.dt_tables.specs.Total.{total_in, total}
use Rattle.dt_tables.specs.inner.Weight.{weight}

module _ {K X : Type 0} {R : K → K → Ordering} (o : IsTotalOrder R) (g : X → ℕ) where
  total_in-put : (k : K) (v : X) (es : List (K × X)) → T (is_sorted R es) → total_in g (put R k v es) + weight g (find R k es) ≡ total_in g es + g v
  total_in-put k v [] h = omega arith
  total_in-put k v (e ∷ es) h =
      elim (R k e.0) as (λ r. R k e.0 ≡ r → total_in g (by_order r ((k, v) ∷ e ∷ es) ((e.0, v) ∷ es) (e ∷ put R k v es)) + weight g (cond (is_eq r) (Some e.1) (find R k es)) ≡ (g e.1 + total_in g es) + g v) [
        | Less ↦ λ p.
            let none = ap (weight g) (not_found R k es (below-less o k e.0 es p (first _ _ h))) in
            omega arith
        | Equal ↦ λ p. omega arith
        | Greater ↦ λ p. let rest : total_in g (put R k v es) + weight g (find R k es) ≡ total_in g es + g v = total_in-put k v es (second (below_all R e.0 es) (is_sorted R es) h) in
            omega arith
      ] refl

  pub total-insert : (m : FinMap R X) (k : K) (v : X) → total g (insert m k v) + weight g (get m k) ≡ total g m + g v
  unfolding total
  total-insert m k v =
      let put = ap (total_in g) (entries-insert o m k v) in
      let found = ap (weight g) (get-entries m k) in
      let sum = total_in-put k v (entries m) (entries_sorted m) in
      omega arith

  pub total-empty : total g (empty {R = R}) ≡ 0
  unfolding total
  total-empty = no_entries (entries empty) (sym (len-entries empty) ∙ len-empty R X)
    where
      no_entries : (es : List (K × X)) → length es ≡ 0 → total_in g es ≡ 0
      no_entries [] e = refl
      no_entries (e ∷ es) h = absurd (omega arith)

  module _ (same : IsAntisymmetric R) where
    pub put_again : (m : FinMap R X) (k : K) (v : X) → get m k ≡ Some v → insert (remove m k) k v ≡ m
    put_again m k v e = same_map o same _ _ (λ q.
        at_insert o same (λ found. found ≡ get m q) (remove m k) k v q
        (λ is. sym (ap (get m) is ∙ e))
        (λ apart. get-remove_other o same m k q apart))

    pub total-remove : (m : FinMap R X) (k : K) → total g (remove m k) + weight g (get m k) ≡ total g m
    total-remove m k = by_found (get m k) refl
      where
        by_found : (found : Option X) → get m k ≡ found → total g (remove m k) + weight g found ≡ total g m
        by_found None e = let gone = ap (total g) (remove_none o same m k e) in omega arith
        by_found (Some v) e =
            let again = ap (total g) (put_again m k v e) in
            let sum = total-insert (remove m k) k v in
            let none = ap (weight g) (get-remove_same o same m k) in
            omega arith
