-- The pids of a map, and what a change of the map makes of them.
use Rattle.std.proofs.Common.{arith, ◌≡◌, ℕ, ◌^◌, ◌<◌, Bool, true, false, cond, not, ◌||◌, ◌&&◌, List, [], Option, Some, None, refl, sym, ap, subst, ◌∙◌, is_some}
use Rattle.std.proofs.lemmas.Bool.Decides.{nat_tests}
use Rattle.std.proofs.lemmas.Cmp.{eq_by_cmp_equiv}
use Rattle.std.proofs.lemmas.Map.Made.{is_some-lookup}
use Rattle.std.specs.Ordering.{nat_cmp, is_eq, eq_by_cmp}
use Rattle.std.specs.Cmp.{nat_cmp_total, unsigned_tied}
use Rattle.std.specs.Map.{keys_of}
use Rattle.std.specs.BTreeMap as tree
use Rattle.std.specs.BTreeMap.{BTreeMap}
use Rattle.std.specs.FinMap.{nat_cmp-IsAntisymmetric}
use Rattle.std.specs.FinSet.{contains, insert, remove, contains-empty, contains-from_list, contains-insert, contains-remove, same_set}
use Rattle.dt_host.specs.World.{HostPids, ArePids}
use Rattle.dt_memhost.specs.inner.Live.{has_number, pids_of}

some_or : {X : Type 0} (b : Bool) (x : X) (found : Option X) → is_some (cond b (Some x) found) ≡ (b || is_some found)
some_or true x found = refl
some_or false x found = refl

none_or : {X : Type 0} (b : Bool) (found : Option X) → is_some (cond b None found) ≡ (not b && is_some found)
none_or true found = refl
none_or false found = refl

module _ {X : Type 0} where
  -- the pids are the numbers that the map has
  pub contains-pids_of : (m : BTreeMap ℕ X) → contains (pids_of m.entries) ≡ has_number m
  contains-pids_of m i q =
      (contains-from_list nat_cmp_total (keys_of m.entries) q ∙ sym (is_some-lookup (eq_by_cmp nat_cmp q) m.entries)) i

  module _ (old new : BTreeMap ℕ X) (p : ℕ) (found : Option X) (changed : (q : ℕ) → tree.get nat_cmp new q ≡ cond (is_eq (nat_cmp p q)) found (tree.get nat_cmp old q)) where
    -- after a change of one number each other is there as before
    at : (q : ℕ) → contains (pids_of new.entries) q ≡ is_some (cond (eq_by_cmp nat_cmp q p) found (tree.get nat_cmp old q))
    at q =
        ap (λ live. live q) (contains-pids_of new)
        ∙ ap is_some (changed q)
        ∙ ap (λ b. is_some (cond b found (tree.get nat_cmp old q))) ((eq_by_cmp_equiv nat_cmp_total).symm p q)

  -- with a number put there
  pub pids_of-with : (old new : BTreeMap ℕ X) (p : ℕ) (x : X) → ((q : ℕ) → tree.get nat_cmp new q ≡ cond (is_eq (nat_cmp p q)) (Some x) (tree.get nat_cmp old q)) → pids_of new.entries ≡ insert (pids_of old.entries) p
  pids_of-with old new p x changed = same_set nat_cmp_total nat_cmp-IsAntisymmetric _ _ (λ q.
      at old new p (Some x) changed q
      ∙ some_or (eq_by_cmp nat_cmp q p) x (tree.get nat_cmp old q)
      ∙ ap (λ live. eq_by_cmp nat_cmp q p || live q) (sym (contains-pids_of old))
      ∙ sym (contains-insert nat_cmp_total (pids_of old.entries) p q))

  -- with a number taken away
  pub pids_of-without : (old new : BTreeMap ℕ X) (p : ℕ) → ((q : ℕ) → tree.get nat_cmp new q ≡ cond (is_eq (nat_cmp p q)) None (tree.get nat_cmp old q)) → pids_of new.entries ≡ remove (pids_of old.entries) p
  pids_of-without old new p changed = same_set nat_cmp_total nat_cmp-IsAntisymmetric _ _ (λ q.
      at old new p None changed q
      ∙ none_or (eq_by_cmp nat_cmp q p) (tree.get nat_cmp old q)
      ∙ ap (λ live. not (eq_by_cmp nat_cmp q p) && live q) (sym (contains-pids_of old))
      ∙ sym (contains-remove nat_cmp_total (pids_of old.entries) p q))

-- no pid at all
pub ArePids-none : {X : Type 0} (entries : List (ℕ × X)) → entries ≡ [] → ArePids (pids_of entries)
ArePids-none entries none = subst (λ entries. ArePids (pids_of entries)) (sym none) (λ q is. let no = contains-empty nat_cmp q in absurd cc)

-- one pid more, of 64 bits
pub ArePids-insert : (pids : HostPids) (p : ℕ) → p < 2 ^ 64 → ArePids pids → ArePids (insert pids p)
ArePids-insert pids p small each q is = by_old (contains pids q) refl
  where
    by_old : (b : Bool) → contains pids q ≡ b → q < 2 ^ 64
    by_old true old = each q old
    by_old false old =
        let inserted = contains-insert nat_cmp_total pids p q in
        let tied = unsigned_tied q p in
        let same : q ≡ p = grind (arith, nat_tests) in
        subst (λ x. x < 2 ^ 64) (sym same) small

-- one pid fewer
pub ArePids-remove : (pids : HostPids) (p : ℕ) → ArePids pids → ArePids (remove pids p)
ArePids-remove pids p each q is =
    let removed = contains-remove nat_cmp_total pids p q in
    let tied = unsigned_tied q p in
    let old : contains pids q ≡ true = grind (arith, nat_tests) in
    each q old
