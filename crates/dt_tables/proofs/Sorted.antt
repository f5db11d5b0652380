-- Entries in the order of their keys, as a finite map has them.
use Rattle.std.proofs.Common.{◌≡◌, cond, List, [], ◌∷◌, map, None, Some, refl, sym, ap, subst, ◌∙◌, false}
use Rattle.std.specs.Prelude.{T}
use Rattle.std.specs.List.{AllByRecursion}
use Rattle.std.specs.List.Sorted.{IsStrictlySortedBy}
use Rattle.std.specs.Map.{keys_of}
use Rattle.std.specs.declared.cmp.Ordering.{Ordering}
use Rattle.std.specs.declared.cmp.Ordering.TheVariants.{Less, Equal, Greater}
use Rattle.std.specs.Ordering.{is_eq, is_lt}
use Rattle.std.specs.Cmp.{IsTotalOrder}
use Rattle.std.specs.FinMap.Entries.{find, below_all, is_sorted}
use Rattle.dt_tables.proofs.Conjuncts.{first, second, both}

lower : (r : Ordering) → T (is_lt r) → is_eq r ≡ false
lower Less p = refl
lower Equal p = absurd p
lower Greater p = absurd p

less : (r : Ordering) → T (is_lt r) → r ≡ Less
less Less p = refl
less Equal p = absurd p
less Greater p = absurd p

module _ {K X : Type 0} {R : K → K → Ordering} (o : IsTotalOrder R) where
  -- what is less than a key below all is below all, and so is what ties with it
  pub below-less : (x y : K) (es : List (K × X)) → R x y ≡ Less → T (below_all R y es) → T (below_all R x es)
  below-less x y [] p h = tt
  below-less x y (e ∷ es) p h = both _ _ (subst (λ r. T (is_lt r)) (sym (o.trans x y e.0 p (less _ (first _ _ h)))) tt) (below-less x y es p (second _ _ h))

  pub below-tie : (x y : K) (es : List (K × X)) → R x y ≡ Equal → T (below_all R y es) → T (below_all R x es)
  below-tie x y [] p h = tt
  below-tie x y (e ∷ es) p h = both _ _ (subst (λ r. T (is_lt r)) (sym (o.congr x y e.0 p)) (first _ _ h)) (below-tie x y es p (second _ _ h))

module _ {K X : Type 0} (R : K → K → Ordering) where
  -- a key below all is not among them
  pub not_found : (q : K) (es : List (K × X)) → T (below_all R q es) → find R q es ≡ None
  not_found q [] h = refl
  not_found q (e ∷ es) h = ap (λ b. cond b (Some e.1) (find R q es)) (lower _ (first _ _ h)) ∙ not_found q es (second _ _ h)

  below-each : (k : K) (es : List (K × X)) → AllByRecursion (λ q. R k q ≡ Less) (keys_of es) → T (below_all R k es)
  below-each k [] h = tt
  below-each k (e ∷ es) h = both _ _ (subst (λ r. T (is_lt r)) (sym h.0) tt) (below-each k es h.1)

  -- entries whose keys rise are sorted
  pub sorted-keys : (es : List (K × X)) → IsStrictlySortedBy R (keys_of es) → T (is_sorted R es)
  unfolding IsStrictlySortedBy
  sorted-keys [] h = tt
  sorted-keys (e ∷ es) h = both _ _ (below-each e.0 es h.0) (sorted-keys es h.1)

pub same_entries : {K X : Type 0} (es : List (K × X)) → map (λ e. (e.0, e.1)) es ≡ es
same_entries [] = refl
same_entries (e ∷ es) = ap (λ xs. e ∷ xs) (same_entries es)
