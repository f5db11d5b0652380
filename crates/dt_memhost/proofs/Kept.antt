-- The values that a function gives of a tree's entries, number by number and after a change of one.
use Rattle.std.proofs.Common.{◌≡◌, ◌≢◌, ℕ, List, [], ◌∷◌, Bool, true, false, cond, Option, Some, None, inl, inr, refl, sym, ap, ◌∙◌}
use Rattle.std.proofs.lemmas.Bool.{cases_eq}
use Rattle.std.specs.Prelude.{option_and_then}
use Rattle.std.specs.Ordering.{nat_cmp, is_eq}
use Rattle.std.specs.Cmp.{nat_cmp_total}
use Rattle.std.specs.Map.{lookup}
use Rattle.std.specs.BTreeMap as tree
use Rattle.std.specs.BTreeMap.{BTreeMap}
use Rattle.std.specs.FinMap.{FinMap, empty, get, get-empty, get-insert, get-remove, same_map, nat_cmp-IsAntisymmetric}
use Rattle.dt_tables.proofs.Maps.{at_insert, at_remove}
use Rattle.dt_memhost.specs.inner.Kept.{kept_of, with_value}

module _ {Y : Type 0} where
  -- a fact of what stands at q, once this value or none was put at n
  at_value : (P : Option Y → Type 0) (m : FinMap nat_cmp Y) (n : ℕ) (found : Option Y) (q : ℕ) → (q ≡ n → P found) → (q ≢ n → P (get m q)) → P (get (with_value m n found) q)
  at_value P m n None q here there = at_remove nat_cmp_total nat_cmp-IsAntisymmetric P m n q here there
  at_value P m n (Some y) q here there = at_insert nat_cmp_total nat_cmp-IsAntisymmetric P m n y q here there

  get-with_value : (m : FinMap nat_cmp Y) (n : ℕ) (found : Option Y) (q : ℕ) → get (with_value m n found) q ≡ cond (is_eq (nat_cmp q n)) found (get m q)
  get-with_value m n None q = get-remove nat_cmp_total m n q
  get-with_value m n (Some y) q = get-insert nat_cmp_total m n y q

module _ {X Y : Type 0} (f : X → Option Y) where
  by_test : (b : Bool) (x : X) (found : Option X) → cond b (f x) (option_and_then f found) ≡ option_and_then f (cond b (Some x) found)
  by_test true x found = refl
  by_test false x found = refl

  -- at q stands what the function gives of what a look-up finds
  get-kept : (q : ℕ) (es : List (ℕ × X)) → get (kept_of f es) q ≡ option_and_then f (lookup (λ k. is_eq (nat_cmp q k)) es)
  unfolding kept_of
  get-kept q [] = get-empty nat_cmp q
  get-kept q (e ∷ es) =
      get-with_value (kept_of f es) e.0 (f e.1) q
      ∙ ap (cond (is_eq (nat_cmp q e.0)) (f e.1)) (get-kept q es)
      ∙ by_test (is_eq (nat_cmp q e.0)) e.1 (lookup (λ k. is_eq (nat_cmp q k)) es)

  pub get-kept_of : (m : BTreeMap ℕ X) (q : ℕ) → get (kept_of f m.entries) q ≡ option_and_then f (tree.get nat_cmp m q)
  get-kept_of m q = get-kept q m.entries

  -- no entries give no values
  pub kept_of-nil : (es : List (ℕ × X)) → es ≡ [] → kept_of f es ≡ empty
  unfolding kept_of
  kept_of-nil es e = ap (kept_of f) e

  -- a change of one number, where the others stay
  module _ (old new : BTreeMap ℕ X) (n : ℕ) (others : (q : ℕ) → q ≢ n → tree.get nat_cmp new q ≡ tree.get nat_cmp old q) where
    pub kept_of-changed : (found : Option Y) → option_and_then f (tree.get nat_cmp new n) ≡ found → kept_of f new.entries ≡ with_value (kept_of f old.entries) n found
    kept_of-changed found here = same_map nat_cmp_total nat_cmp-IsAntisymmetric _ _ (λ q.
        at_value (λ stands. get (kept_of f new.entries) q ≡ stands) (kept_of f old.entries) n found q
        (λ is. get-kept_of new q ∙ ap (λ p. option_and_then f (tree.get nat_cmp new p)) is ∙ here)
        (λ apart. get-kept_of new q ∙ ap (option_and_then f) (others q apart) ∙ sym (get-kept_of old q)))

    -- where its value stays too, all do
    pub kept_of-same : option_and_then f (tree.get nat_cmp new n) ≡ option_and_then f (tree.get nat_cmp old n) → kept_of f new.entries ≡ kept_of f old.entries
    kept_of-same here = same_map nat_cmp_total nat_cmp-IsAntisymmetric _ _ (λ q. get-kept_of new q ∙ by_number q ∙ sym (get-kept_of old q))
      where
        by_number : (q : ℕ) → option_and_then f (tree.get nat_cmp new q) ≡ option_and_then f (tree.get nat_cmp old q)
        by_number q =
            elim (cases_eq q n) as (λ _. option_and_then f (tree.get nat_cmp new q) ≡ option_and_then f (tree.get nat_cmp old q)) [ inl is ↦ ap (λ p. option_and_then f (tree.get nat_cmp new p)) is ∙ here ∙ ap (λ p. option_and_then f (tree.get nat_cmp old p)) (sym is) | inr apart ↦ ap (option_and_then f) (others q apart) ]
