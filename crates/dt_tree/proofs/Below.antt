-- The test whether a directory stands below another says what going up says.
use Rattle.std.proofs.Common.{arith, ◌≡◌, ◌≢◌, ℕ, zero, suc, ◌+◌, ◌≤◌, ◌<◌, true, false, Bool, ◌||◌, Option, Some, None, ◌⊎◌, inl, inr, refl, sym, ap, subst, ◌∙◌}
use Rattle.std.proofs.Math.Bool.{or-true}
use Rattle.std.proofs.lemmas.Bool.Decides.{nat_tests}
use Rattle.std.specs.Prelude.{◌==◌}
use Rattle.std.specs.FinMap.{len}
use Rattle.dt_host.specs.World.{Forest, IsDir}
use Rattle.dt_host.proofs.Spots.{IsDir-entry}
use Rattle.dt_tree.specs.declared.limits.TheConstants.{NODE_LIMIT}
use Rattle.dt_tree.specs.Shape.{name_count_of, LeadsUp, IsBelow, IsShaped}
use Rattle.dt_tree.specs.Above.{is_there_and, parent_at, is_below_within, is_below}
use Rattle.dt_tree.proofs.Namings.{named}
use Rattle.dt_tree.proofs.Shapes.{itself, inside, one_spot, not_root}
use Rattle.dt_tree.proofs.Aboves.{parent-entry, parent_is, depth_bound}

-- one step of the test
pub climbs-here : (k : ℕ) (v : Forest) (n above : ℕ) → 0 < k → n ≡ above → is_below_within k v n above ≡ true
unfolding is_below_within
climbs-here zero v n above h e = absurd (omega arith)
climbs-here (suc k) v n above h e =
    let here : (n == above) ≡ true = grind (arith, nat_tests) in
    ap (λ b. b || is_there_and (λ d. is_below_within k v d above) (parent_at v n)) here

pub climbs-none : (k : ℕ) (v : Forest) (n above : ℕ) → n ≢ above → parent_at v n ≡ None → is_below_within k v n above ≡ false
unfolding is_below_within
climbs-none zero v n above h e = refl
climbs-none (suc k) v n above h e =
    let here : (n == above) ≡ false = grind (arith, nat_tests) in
    ap (λ b. b || is_there_and (λ d. is_below_within k v d above) (parent_at v n)) here ∙ ap (is_there_and (λ d. is_below_within k v d above)) e

pub climbs-up : (k j : ℕ) (v : Forest) (n above d : ℕ) → k ≡ j + 1 → n ≢ above → parent_at v n ≡ Some d → is_below_within k v n above ≡ is_below_within j v d above
unfolding is_below_within
climbs-up zero j v n above d h apart e = absurd (omega arith)
climbs-up (suc k) j v n above d h apart e =
    let here : (n == above) ≡ false = grind (arith, nat_tests) in
    let same : k ≡ j = omega arith in
    ap (λ b. b || is_there_and (λ d. is_below_within k v d above) (parent_at v n)) here ∙ ap (is_there_and (λ d. is_below_within k v d above)) e ∙ ap (λ k. is_below_within k v d above) same

pub climbs-end : (k : ℕ) (v : Forest) (n above : ℕ) → k ≡ 0 → is_below_within k v n above ≡ false
unfolding is_below_within
climbs-end k v n above e = ap (λ k. is_below_within k v n above) e

-- what the test finds is above
climbs_only : (v : Forest) (k n above : ℕ) → is_below_within k v n above ≡ true → IsBelow v n above
unfolding is_below_within
climbs_only v zero n above e = cc
climbs_only v (suc k) n above e = by_test (n == above) refl e (climbs_only v k)
  where
    by_parent : (found : Option ℕ) → parent_at v n ≡ found → is_there_and (λ d. is_below_within k v d above) found ≡ true → ((d above : ℕ) → is_below_within k v d above ≡ true → IsBelow v d above) → IsBelow v n above
    by_parent None p h rest = cc
    by_parent (Some d) p h rest = let spot = parent-entry v n d p in inside v d n above spot.0 spot.2 (rest d above h)

    by_test : (b : Bool) → (n == above) ≡ b → (b || is_there_and (λ d. is_below_within k v d above) (parent_at v n)) ≡ true → ((d above : ℕ) → is_below_within k v d above ≡ true → IsBelow v d above) → IsBelow v n above
    by_test true is h rest = let same : n ≡ above = grind (arith, nat_tests) in subst (IsBelow v n) same (itself v n)
    by_test false is h rest = by_parent (parent_at v n) refl h rest

module _ (v : Forest) (s : IsShaped v) where
  -- a directory's way up to another is a part of its way up to the root
  no_deeper : (j k n above : ℕ) → IsDir v n → LeadsUp v j n above → LeadsUp v k n v.root → j ≤ k
  unfolding LeadsUp
  no_deeper zero k n above is a b = omega arith
  no_deeper (suc j) zero n above is a b = absurd (not_root v s a.0 a.1 n a.2 b)
  no_deeper (suc j) (suc k) n above is a b =
      let same = one_spot v s n a.0 b.0 a.1 b.1 is a.2 b.2 in
      let rest = no_deeper j k a.0 above (IsDir-entry v a.0 a.1 n a.2) a.3 (subst (λ d. LeadsUp v k d v.root) (sym same.0) b.3) in
      omega arith

  -- the test finds what is above
  climbs_if : (j k n above : ℕ) → IsDir v n → LeadsUp v j n above → j < k → is_below_within k v n above ≡ true
  unfolding LeadsUp is_below_within
  climbs_if j zero n above is up h = absurd (omega arith)
  climbs_if zero (suc k) n above is up h = let here : (n == above) ≡ true = grind (arith, nat_tests) in ap (λ b. b || is_there_and (λ d. is_below_within k v d above) (parent_at v n)) here
  climbs_if (suc j) (suc k) n above is up h =
      let rest = climbs_if j k up.0 above (IsDir-entry v up.0 up.1 n up.2) up.3 (omega arith) in
      ap (λ d. (n == above) || is_there_and (λ d. is_below_within k v d above) d) (parent_is v s n up.0 up.1 is up.2) ∙ ap (λ b. (n == above) || b) rest ∙ or-true (n == above)

  -- the ways up are shorter than there are nodes; from a removed directory none goes up
  way_bound : (j n above : ℕ) → IsDir v n → LeadsUp v j n above → j < len v.nodes ⊎ (j ≡ 0)
  unfolding LeadsUp
  way_bound j n above is up = elim (s.placed n is) [
    | inl under ↦ let deep = no_deeper j under.0 n above is up under.1 in let bound = depth_bound v s under.0 n is under.1 in inl (omega arith)
    | inr removed ↦ inr (by_steps j up removed.nameless)
  ]
    where
      by_steps : (j : ℕ) → LeadsUp v j n above → name_count_of v n ≡ 0 → j ≡ 0
      by_steps zero up none = refl
      by_steps (suc j) up none = let some = named v up.0 n up.1 up.2 in absurd (omega arith)

-- the test says of each directory of a tree whether it stands below another
pub is_below-exact : (v : Forest) → IsShaped v → len v.nodes ≤ NODE_LIMIT → (n above : ℕ) → IsDir v n → (is_below v n above ≡ true → IsBelow v n above) × (IsBelow v n above → is_below v n above ≡ true)
is_below-exact v s few n above is = (climbs_only v NODE_LIMIT n above, λ below. climbs_if v s below.0 NODE_LIMIT n above is below.1 (within below.0 (way_bound v s below.0 n above is below.1)))
  where
    within : (j : ℕ) → j < len v.nodes ⊎ (j ≡ 0) → j < NODE_LIMIT
    within j (inl h) = omega arith
    within j (inr h) = omega arith
