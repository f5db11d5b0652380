-- What the two maps of a tree hold, as finite maps.
use Rattle.std.proofs.Common.{◌≡◌, ◌≢◌, false, ℕ, length, Some, None, refl, sym, ap, ◌∙◌}
use Rattle.std.proofs.lemmas.Iterator.Adapters.{option_map_id}
use Rattle.std.specs.Ordering.{nat_cmp, is_eq}
use Rattle.std.specs.declared.cmp.Ordering.{Ordering}
use Rattle.std.specs.declared.cmp.Ordering.TheVariants.{Less, Equal, Greater}
use Rattle.std.specs.Cmp.{nat_cmp_total}
use Rattle.std.specs.BTreeMap as tree
use Rattle.std.specs.BTreeMap.{BTreeMap, is_at, IsOrdered}
use Rattle.std.specs.FinMap.{get, insert, remove, len, len-entries, from_entries, from_sorted, entries-from_sorted, get-from_sorted, get-from_entries, same_map, nat_cmp-IsAntisymmetric}
use Rattle.dt_tables.specs.Entries.{map_of}
use Rattle.dt_tables.proofs.Sorted.{sorted-keys, same_entries}
use Rattle.dt_tables.proofs.Maps.{at_insert, at_remove}
use Rattle.dt_tables.proofs.MapOf.{get-map_of}

pub get-kept : {X : Type 0} (m : BTreeMap ℕ X) (q : ℕ) → get (map_of {R = nat_cmp} (λ n. n) (λ x. x) m.entries) q ≡ tree.get nat_cmp m q
get-kept m q = get-map_of nat_cmp_total (λ n. n) (λ x. x) q m.entries ∙ option_map_id _

-- where all but one stay, that one was put
pub put-kept : {X : Type 0} (old new : BTreeMap ℕ X) (n : ℕ) (x : X) → tree.get nat_cmp new n ≡ Some x → ((q : ℕ) → q ≢ n → tree.get nat_cmp new q ≡ tree.get nat_cmp old q) → map_of {R = nat_cmp} (λ n. n) (λ x. x) new.entries ≡ insert (map_of (λ n. n) (λ x. x) old.entries) n x
put-kept {X} old new n x here others = same_map nat_cmp_total nat_cmp-IsAntisymmetric _ _ (λ q.
    at_insert nat_cmp_total nat_cmp-IsAntisymmetric (λ found. get (map_of {R = nat_cmp} (λ n. n) (λ (x : X). x) new.entries) q ≡ found) (map_of (λ n. n) (λ x. x) old.entries) n x q
    (λ is. get-kept new q ∙ ap (tree.get nat_cmp new) is ∙ here)
    (λ apart. get-kept new q ∙ others q apart ∙ sym (get-kept old q)))

-- where all but one stay, and that one is gone, it was taken away
pub remove-kept : {X : Type 0} (old new : BTreeMap ℕ X) (n : ℕ) → tree.get nat_cmp new n ≡ None → ((q : ℕ) → q ≢ n → tree.get nat_cmp new q ≡ tree.get nat_cmp old q) → map_of {R = nat_cmp} (λ n. n) (λ x. x) new.entries ≡ remove (map_of (λ n. n) (λ x. x) old.entries) n
remove-kept {X} old new n here others = same_map nat_cmp_total nat_cmp-IsAntisymmetric _ _ (λ q.
    at_remove nat_cmp_total nat_cmp-IsAntisymmetric (λ found. get (map_of {R = nat_cmp} (λ n. n) (λ (x : X). x) new.entries) q ≡ found) (map_of (λ n. n) (λ x. x) old.entries) n q
    (λ is. get-kept new q ∙ ap (tree.get nat_cmp new) is ∙ here)
    (λ apart. get-kept new q ∙ others q apart ∙ sym (get-kept old q)))

-- a number that isn't another doesn't tie with it
pub untied : (n q : ℕ) → q ≢ n → is_at (nat_cmp n) q ≡ false
untied n q apart = by_order (nat_cmp n q) refl
  where
    by_order : (r : Ordering) → nat_cmp n q ≡ r → is_eq r ≡ false
    by_order Less e = refl
    by_order Equal e = absurd (apart (sym (nat_cmp-IsAntisymmetric n q e)))
    by_order Greater e = refl

-- a map has as many keys as there are entries
module _ {X : Type 0} where
  pub len-kept : (m : BTreeMap ℕ X) → IsOrdered nat_cmp m → len (map_of {R = nat_cmp} (λ n. n) (λ (x : X). x) m.entries) ≡ length m.entries
  unfolding map_of
  len-kept m s =
      let es = m.entries in
      let sorted = sorted-keys nat_cmp es s in
      let one : from_entries {R = nat_cmp} es ≡ from_sorted es = same_map nat_cmp_total nat_cmp-IsAntisymmetric _ _ (λ q. get-from_entries nat_cmp_total es q ∙ sym (get-from_sorted nat_cmp es q sorted)) in
      ap (λ xs. len (from_entries {R = nat_cmp} xs)) (same_entries es) ∙ ap (λ m. len m) one ∙ len-entries (from_sorted {R = nat_cmp} es) ∙ ap length (entries-from_sorted nat_cmp es sorted)
