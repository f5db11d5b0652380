-- What a table of values by number holds, as a finite map.
use Rattle.std.proofs.Common.{arith, ◌≡◌, ◌≢◌, false, ℕ, Option, Some, None, nat_eq, refl, sym, ap, ◌∙◌}
use Rattle.std.proofs.lemmas.Bool.Decides.{nat_tests}
use Rattle.std.specs.Prelude.{option_map}
use Rattle.std.specs.Ordering.{nat_cmp}
use Rattle.std.specs.Cmp.{nat_cmp_total}
use Rattle.std.specs.HashMap as hash
use Rattle.std.specs.HashMap.{HashMap}
use Rattle.std.specs.Map.{lookup}
use Rattle.std.specs.FinMap.{get, insert, remove, same_map, nat_cmp-IsAntisymmetric}
use Rattle.dt_tables.specs.Entries.{map_of}
use Rattle.dt_tables.proofs.Maps.{at_insert, at_remove, number_tie}
use Rattle.dt_tables.proofs.MapOf.{get-map_of}

same_found : {X : Type 0} (found : Option X) → option_map (λ x. x) found ≡ found
same_found None = refl
same_found (Some x) = refl

-- a number that isn't another isn't equal to it
pub unequal : (n q : ℕ) → q ≢ n → nat_eq n q ≡ false
unequal n q apart = grind (arith, nat_tests, apart)

module _ {X S : Type 0} where
  pub get-kept : (m : HashMap ℕ X S) (q : ℕ) → get (map_of {R = nat_cmp} (λ n. n) (λ x. x) m.entries) q ≡ hash.get nat_eq m q
  get-kept m q =
      get-map_of nat_cmp_total (λ n. n) (λ x. x) q m.entries
      ∙ same_found _
      ∙ sym (λ i. lookup (λ (n : ℕ). number_tie q n i) m.entries)

  -- where all but one stay, that one was put
  pub put-kept : (old new : HashMap ℕ X S) (n : ℕ) (x : X) → hash.get nat_eq new n ≡ Some x → ((q : ℕ) → q ≢ n → hash.get nat_eq new q ≡ hash.get nat_eq old q) → map_of {R = nat_cmp} (λ n. n) (λ x. x) new.entries ≡ insert (map_of (λ n. n) (λ x. x) old.entries) n x
  put-kept old new n x here others = same_map nat_cmp_total nat_cmp-IsAntisymmetric _ _ (λ q.
      at_insert nat_cmp_total nat_cmp-IsAntisymmetric (λ found. get (map_of {R = nat_cmp} (λ n. n) (λ (x : X). x) new.entries) q ≡ found) (map_of (λ n. n) (λ x. x) old.entries) n x q
      (λ is. get-kept new q ∙ ap (hash.get nat_eq new) is ∙ here)
      (λ apart. get-kept new q ∙ others q apart ∙ sym (get-kept old q)))

  -- where all but one stay, and that one is gone, it was taken away
  pub remove-kept : (old new : HashMap ℕ X S) (n : ℕ) → hash.get nat_eq new n ≡ None → ((q : ℕ) → q ≢ n → hash.get nat_eq new q ≡ hash.get nat_eq old q) → map_of {R = nat_cmp} (λ n. n) (λ x. x) new.entries ≡ remove (map_of (λ n. n) (λ x. x) old.entries) n
  remove-kept old new n here others = same_map nat_cmp_total nat_cmp-IsAntisymmetric _ _ (λ q.
      at_remove nat_cmp_total nat_cmp-IsAntisymmetric (λ found. get (map_of {R = nat_cmp} (λ n. n) (λ (x : X). x) new.entries) q ≡ found) (map_of (λ n. n) (λ x. x) old.entries) n q
      (λ is. get-kept new q ∙ ap (hash.get nat_eq new) is ∙ here)
      (λ apart. get-kept new q ∙ others q apart ∙ sym (get-kept old q)))
