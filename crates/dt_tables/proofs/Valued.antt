-- A map with its values changed, key by key and after a change.
use Rattle.std.proofs.Common.{◌≡◌, List, [], ◌∷◌, map, cond, ◌&&◌, true, false, Option, Some, None, refl, sym, ap, subst, ◌∙◌}
use Rattle.std.specs.Prelude.{T, option_map}
use Rattle.std.specs.declared.cmp.Ordering.{Ordering}
use Rattle.std.specs.Ordering.{is_eq, is_lt}
use Rattle.std.specs.Cmp.{IsTotalOrder}
use Rattle.std.specs.FinMap.{FinMap, IsAntisymmetric, entries, entries_sorted, from_entries, from_sorted, entries-from_sorted, get-from_sorted, get, insert, remove, get-entries, get-from_entries, same_map}
use Rattle.std.specs.FinMap.Entries.{find, below_all, is_sorted}
use Rattle.dt_tables.proofs.Maps.{at_insert, at_remove, get-insert_same, get-insert_other, get-remove_same, get-remove_other}
use Rattle.dt_tables.specs.Values.{map_values}

module _ {K X Y : Type 0} {R : K → K → Ordering} (o : IsTotalOrder R) (f : X → Y) where
  find-values : (q : K) (es : List (K × X)) → find R q (map (λ e. (e.0, f e.1)) es) ≡ option_map f (find R q es)
  find-values q [] = refl
  find-values q (e ∷ es) =
      elim (is_eq (R q e.0)) as (λ b. cond b (Some (f e.1)) (find R q (map (λ e. (e.0, f e.1)) es)) ≡ option_map f (cond b (Some e.1) (find R q es))) [
        | true ↦ refl
        | false ↦ find-values q es
      ]

  pub get-map_values : (m : FinMap R X) (q : K) → get (map_values f m) q ≡ option_map f (get m q)
  unfolding map_values
  get-map_values m q = get-from_entries o (map (λ e. (e.0, f e.1)) (entries m)) q ∙ find-values q (entries m) ∙ ap (option_map f) (sym (get-entries m q))

  module _ (same : IsAntisymmetric R) where
    pub map_values-insert : (m : FinMap R X) (k : K) (v : X) → map_values f (insert m k v) ≡ insert (map_values f m) k (f v)
    map_values-insert m k v = same_map o same _ _ (λ q. get-map_values (insert m k v) q
        ∙ at_insert o same (λ found. option_map f found ≡ get (insert (map_values f m) k (f v)) q) m k v q
        (λ is. sym (ap (get (insert (map_values f m) k (f v))) is ∙ get-insert_same o same (map_values f m) k (f v)))
        (λ apart. sym (get-map_values m q) ∙ sym (get-insert_other o same (map_values f m) k (f v) q apart)))

    pub map_values-remove : (m : FinMap R X) (k : K) → map_values f (remove m k) ≡ remove (map_values f m) k
    map_values-remove m k = same_map o same _ _ (λ q. get-map_values (remove m k) q
        ∙ at_remove o same (λ found. option_map f found ≡ get (remove (map_values f m) k) q) m k q
        (λ is. sym (ap (get (remove (map_values f m) k)) is ∙ get-remove_same o same (map_values f m) k))
        (λ apart. sym (get-map_values m q) ∙ sym (get-remove_other o same (map_values f m) k q apart)))

  -- two changes that agree at the values make one map
  pub map_values-alike : IsAntisymmetric R → (g : X → Y) (m : FinMap R X) → ((k : K) (x : X) → get m k ≡ Some x → f x ≡ g x) → (get-g : (q : K) → get (map_values g m) q ≡ option_map g (get m q)) → map_values f m ≡ map_values g m
  map_values-alike same g m alike get-g = same_map o same _ _ (λ q. get-map_values m q ∙ by_found q (get m q) refl ∙ sym (get-g q))
    where
      by_found : (q : K) (found : Option X) → get m q ≡ found → option_map f found ≡ option_map g found
      by_found q None e = refl
      by_found q (Some x) e = ap Some (alike q x e)

-- the entries of a map with its values changed are its entries with these changed
module _ {K X Y : Type 0} (R : K → K → Ordering) (f : X → Y) where
  below-mapped : (x : K) (es : List (K × X)) → below_all R x (map (λ e. (e.0, f e.1)) es) ≡ below_all R x es
  below-mapped x [] = refl
  below-mapped x (e ∷ es) = ap (λ b. is_lt (R x e.0) && b) (below-mapped x es)

  sorted-mapped : (es : List (K × X)) → is_sorted R (map (λ e. (e.0, f e.1)) es) ≡ is_sorted R es
  sorted-mapped [] = refl
  sorted-mapped (e ∷ es) = (λ i. below-mapped e.0 es i && sorted-mapped es i)

  pub entries-map_values : IsTotalOrder R → IsAntisymmetric R → (m : FinMap R X) → entries (map_values f m) ≡ map (λ e. (e.0, f e.1)) (entries m)
  unfolding map_values
  entries-map_values o same m =
      let list = map (λ (e : K × X). (e.0, f e.1)) (entries m) in
      let sorted = subst T (sym (sorted-mapped (entries m))) (entries_sorted m) in
      let one : from_entries {R = R} list ≡ from_sorted list = same_map o same _ _ (λ q. get-from_entries o list q ∙ sym (get-from_sorted R list q sorted)) in
      ap entries one ∙ entries-from_sorted R list sorted
