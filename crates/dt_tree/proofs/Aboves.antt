-- The directory above one, and how far the root is.
use Rattle.std.proofs.Common.{arith, ◌≡◌, ℕ, zero, suc, ◌+◌, ◌-◌, ◌≤◌, ◌<◌, cond, true, false, Bool, ◌||◌, List, [], ◌∷◌, Option, Some, None, refl, sym, ap, subst, ◌∙◌}
use Rattle.std.proofs.lemmas.Bool.Decides.{nat_tests}
use Rattle.std.specs.Prelude.{IsSome, is_some}
use Rattle.std.specs.List.{find, list_any}
use Rattle.std.specs.declared.cmp.Ordering.{Ordering}
use Rattle.std.specs.Ordering.{nat_cmp, is_eq, eq_by_cmp}
use Rattle.std.specs.Cmp.{nat_cmp_total}
use Rattle.std.specs.FinMap.{FinMap, IsAntisymmetric, get, keys, len, remove, empty_of_len, get-empty, len-remove, contains_key-keys, nat_cmp-IsAntisymmetric}
use Rattle.dt_host.specs.World.{Forest, names_at, entry, IsDir}
use Rattle.dt_tables.proofs.Found.{none_there, some_true}
use Rattle.dt_tables.proofs.MapOf.{equal_if}
use Rattle.dt_tables.proofs.Maps.{names_tie, at_remove}
use Rattle.dt_host.proofs.Spots.{IsDir-entry, IsLive-IsDir}
use Rattle.dt_tree.specs.Shape.{name_count_of, LeadsUp, IsShaped}
use Rattle.dt_tree.specs.Above.{is_this, name_in, parent_at}
use Rattle.dt_tree.proofs.Namings.{named}
use Rattle.dt_tree.proofs.Shapes.{one_spot, one_depth}

-- what a search found passes the test
pub found_passes : {X : Type 0} (p : X → Bool) (xs : List X) (x : X) → find p xs ≡ Some x → p x ≡ true
found_passes p [] x e = cc
found_passes p (y ∷ ys) x e = by_test (p y) refl e (found_passes p ys x)
  where
    by_test : (b : Bool) → p y ≡ b → cond b (Some y) (find p ys) ≡ Some x → (find p ys ≡ Some x → p x ≡ true) → p x ≡ true
    by_test true is h rest = let same : y ≡ x = cc in subst (λ z. p z ≡ true) same is
    by_test false is h rest = rest h

-- where a key passes, a search finds one
pub finds : {K : Type 0} {R : K → K → Ordering} → IsAntisymmetric R → (p : K → Bool) (xs : List K) (q : K) → list_any (eq_by_cmp R q) xs ≡ true → p q ≡ true → is_some (find p xs) ≡ true
finds same p [] q any is = cc
finds {R = R} same p (y ∷ ys) q any is = by_test (p y) refl (λ h. finds same p ys q h is)
  where
    by_key : (b : Bool) → is_eq (R q y) ≡ b → (b || list_any (eq_by_cmp R q) ys) ≡ true → p y ≡ false → (list_any (eq_by_cmp R q) ys ≡ true → is_some (find p ys) ≡ true) → is_some (find p ys) ≡ true
    by_key true e h not_here rest = let here = ap p (same q y (equal_if _ e)) in cc
    by_key false e h not_here rest = rest h

    by_test : (b : Bool) → p y ≡ b → (list_any (eq_by_cmp R q) ys ≡ true → is_some (find p ys) ≡ true) → is_some (cond b (Some y) (find p ys)) ≡ true
    by_test true e rest = refl
    by_test false e rest = by_key (is_eq (R q y)) refl any e rest

is_this-same : (n : ℕ) → is_this n (Some n) ≡ true
is_this-same n = grind (arith, nat_tests)

from_is_this : (n : ℕ) (found : Option ℕ) → is_this n found ≡ true → found ≡ Some n
from_is_this n None e = cc
from_is_this n (Some x) e = let same : n ≡ x = grind (arith, nat_tests) in ap Some (sym same)

some_of : {X : Type 0} (found : Option X) → is_some found ≡ true → (x : X) × (found ≡ Some x)
some_of None e = cc
some_of (Some x) e = (x, refl)

positive : {X : Type 0} (m : FinMap nat_cmp X) (n : ℕ) → IsSome (get m n) → 0 < len m
positive m n h = by_len (len m) refl
  where
    by_len : (l : ℕ) → len m ≡ l → 0 < len m
    by_len zero e = absurd (none_there (get m n) (ap (λ m. get m n) (empty_of_len m e) ∙ get-empty nat_cmp n) h)
    by_len (suc l) e = omega arith

one_fewer : {X : Type 0} (m : FinMap nat_cmp X) (n : ℕ) → IsSome (get m n) → len (remove m n) + 1 ≡ len m
one_fewer m n h =
    let some = positive m n h in
    let less : len (remove m n) ≡ len m - 1 = len-remove nat_cmp_total m n ∙ by_found (get m n) h in
    omega arith
  where
    by_found : {X : Type 0} (found : Option X) → IsSome found → cond (is_some found) (len m - 1) (len m) ≡ len m - 1
    by_found None h = cc
    by_found (Some x) h = refl

module _ (v : Forest) where
  name_in-entry : (d n : ℕ) (name : List ℕ) → name_in v d n ≡ Some name → entry v d name ≡ Some n
  unfolding name_in
  name_in-entry d n name e = from_is_this n (entry v d name) (found_passes (λ name. is_this n (entry v d name)) (keys (names_at v d)) name e)

  pub parent-entry : (n d : ℕ) → parent_at v n ≡ Some d → (name : List ℕ) × (name_in v d n ≡ Some name) × (entry v d name ≡ Some n)
  unfolding parent_at
  parent-entry n d e =
      let some = some_of (name_in v d n) (found_passes (λ d. is_some (name_in v d n)) (keys v.nodes) d e) in
      (some.0, some.1, name_in-entry d n some.0 some.1)

  has_name : (d n : ℕ) (name : List ℕ) → entry v d name ≡ Some n → is_some (name_in v d n) ≡ true
  unfolding name_in entry
  has_name d n name e =
      let there = sym (contains_key-keys (names_at v d) name) ∙ ap is_some e in
      finds names_tie (λ name. is_this n (entry v d name)) (keys (names_at v d)) name there (ap (is_this n) e ∙ is_this-same n)

  has_parent : (d n : ℕ) (name : List ℕ) → entry v d name ≡ Some n → is_some (parent_at v n) ≡ true
  unfolding parent_at
  has_parent d n name e =
      let live = IsLive-IsDir v d (IsDir-entry v d name n e) in
      let there = sym (contains_key-keys v.nodes d) ∙ some_true (get v.nodes d) live in
      finds nat_cmp-IsAntisymmetric (λ d. is_some (name_in v d n)) (keys v.nodes) d there (has_name d n name e)

  -- a node without names has no parent
  pub no_parent : (n : ℕ) → name_count_of v n ≡ 0 → parent_at v n ≡ None
  no_parent n none = by_found (parent_at v n) refl
    where
      by_found : (found : Option ℕ) → parent_at v n ≡ found → found ≡ None
      by_found None e = refl
      by_found (Some d) e = let spot = parent-entry n d e in let some = named v d n spot.0 spot.2 in absurd (omega arith)

  module _ (s : IsShaped v) where
    -- a directory's parent is the one that has an entry for it, and its name is that entry's
    pub parent_is : (n d : ℕ) (name : List ℕ) → IsDir v n → entry v d name ≡ Some n → parent_at v n ≡ Some d
    parent_is n d name is e =
        let some = some_of (parent_at v n) (has_parent d n name e) in
        let spot = parent-entry n some.0 some.1 in
        some.1 ∙ ap Some (one_spot v s n some.0 d spot.0 name is spot.2 e).0

    -- the directories above one are nodes of their own, so there are as many nodes
    fits : {X : Type 0} (m : FinMap nat_cmp X) (k n : ℕ) → IsDir v n → LeadsUp v k n v.root → ((q j : ℕ) → j ≤ k → IsDir v q → LeadsUp v j q v.root → IsSome (get m q)) → k < len m
    unfolding LeadsUp
    fits m zero n is up all = positive m n (all n 0 (omega arith) is up)
    fits m (suc k) n is up all =
        let rest = fits (remove m n) k up.0 (IsDir-entry v up.0 up.1 n up.2) up.3 (λ q j h is_q up_q.
        at_remove nat_cmp_total nat_cmp-IsAntisymmetric (λ found. IsSome found) m n q
        (λ same. let depth = one_depth v s j (suc k) n is (subst (λ x. LeadsUp v j x v.root) same up_q) up in absurd (omega arith))
        (λ _. all q j (omega arith) is_q up_q)) in
        let one = one_fewer m n (all n (suc k) (omega arith) is up) in
        omega arith

    pub depth_bound : (k n : ℕ) → IsDir v n → LeadsUp v k n v.root → k < len v.nodes
    depth_bound k n is up = fits v.nodes k n is up (λ q j h is_q _. IsLive-IsDir v q is_q)
