-- The path of a directory: its steps, when it has one, and the names that a host tells in any order.
use Rattle.std.proofs.Common.{arith, ◌≡◌, ◌≢◌, ℕ, zero, suc, ◌+◌, ◌≤◌, ◌<◌, cond, true, false, Bool, ◌&&◌, List, [], ◌∷◌, Option, Some, None, inl, inr, refl, sym, ap, subst, ◌∙◌}
use Rattle.std.proofs.lemmas.Bool.{cases_eq}
use Rattle.std.proofs.lemmas.Bool.Decides.{nat_tests}
use Rattle.std.proofs.lemmas.List.Elements.{recursion_from_All, All-from_recursion}
use Rattle.std.proofs.lemmas.List.Sorted.{All-permutation, IsPermutation-sym}
use Rattle.std.specs.Prelude.{IsSome, is_some, not, T, ◌==◌, unwrap_or, option_map, option_and_then}
use Rattle.std.specs.List.{AllByRecursion}
use Rattle.std.specs.List.Sorted.{IsPermutation}
use Rattle.std.specs.declared.cmp.Ordering.{Ordering}
use Rattle.std.specs.declared.cmp.Ordering.TheVariants.{Less, Equal, Greater}
use Rattle.std.specs.Ordering.{nat_cmp, is_eq, is_lt, ordering_reverse}
use Rattle.std.specs.Cmp.{IsTotalOrder}
use Rattle.std.specs.Cmp.Lexicographic.{slice_cmp, nat_list_cmp_total}
use Rattle.std.proofs.lemmas.Cmp.{tied_itself}
use Rattle.std.specs.FinMap.{FinMap, get, len, entries, entries_sorted, get-entries}
use Rattle.std.specs.FinMap.Entries.{find, below_all, is_sorted}
use Rattle.dt_tables.proofs.Conjuncts.{first, second}
use Rattle.dt_host.specs.World.{Forest, Names, IsDir}
use Rattle.dt_host.proofs.Spots.{IsDir-entry}
use Rattle.dt_tree.specs.Shape.{name_count_of, LeadsUp, IsUnder, IsShaped, is_removed}
use Rattle.dt_tree.specs.Above.{name_in, parent_at, dot_dot, names_up, path_of, path_text}
use Rattle.dt_tree.specs.inner.Names.{name_for}
use Rattle.dt_tree.proofs.Namings.{named}
use Rattle.dt_tree.proofs.Shapes.{not_root, root_if_both}
use Rattle.dt_tree.proofs.Aboves.{parent_is, no_parent, depth_bound}

-- one step up
pub up_root : (k : ℕ) (v : Forest) (n : ℕ) (rest : List (List ℕ)) → 0 < k → n ≡ v.root → names_up k v n rest ≡ Some rest
unfolding names_up
up_root zero v n rest h e = absurd (omega arith)
up_root (suc k) v n rest h e =
    let here : (n == v.root) ≡ true = grind (arith, nat_tests) in
    ap (λ b. cond b (Some rest) (option_and_then (λ d. names_up k v d (unwrap_or (name_in v d n) [] ∷ rest)) (parent_at v n))) here

pub up_none : (k : ℕ) (v : Forest) (n : ℕ) (rest : List (List ℕ)) → n ≢ v.root → parent_at v n ≡ None → names_up k v n rest ≡ None
unfolding names_up
up_none zero v n rest apart e = refl
up_none (suc k) v n rest apart e =
    let here : (n == v.root) ≡ false = grind (arith, nat_tests) in
    ap (λ b. cond b (Some rest) (option_and_then (λ d. names_up k v d (unwrap_or (name_in v d n) [] ∷ rest)) (parent_at v n))) here
    ∙ ap (option_and_then (λ d. names_up k v d (unwrap_or (name_in v d n) [] ∷ rest))) e

pub up_step : (k j : ℕ) (v : Forest) (n : ℕ) (rest : List (List ℕ)) (d : ℕ) → k ≡ j + 1 → n ≢ v.root → parent_at v n ≡ Some d → names_up k v n rest ≡ names_up j v d (unwrap_or (name_in v d n) [] ∷ rest)
unfolding names_up
up_step zero j v n rest d h apart e = absurd (omega arith)
up_step (suc k) j v n rest d h apart e =
    let here : (n == v.root) ≡ false = grind (arith, nat_tests) in
    let same : k ≡ j = omega arith in
    ap (λ b. cond b (Some rest) (option_and_then (λ d. names_up k v d (unwrap_or (name_in v d n) [] ∷ rest)) (parent_at v n))) here
    ∙ ap (option_and_then (λ d. names_up k v d (unwrap_or (name_in v d n) [] ∷ rest))) e
    ∙ ap (λ i. names_up i v d (unwrap_or (name_in v d n) [] ∷ rest)) same

pub up_end : (k : ℕ) (v : Forest) (n : ℕ) (rest : List (List ℕ)) → k ≡ 0 → names_up k v n rest ≡ None
unfolding names_up
up_end k v n rest e = ap (λ i. names_up i v n rest) e

-- a directory below the root has a path
module _ (v : Forest) (s : IsShaped v) where
  has_path : (j k n : ℕ) (rest : List (List ℕ)) → IsDir v n → LeadsUp v j n v.root → j < k → IsSome (names_up k v n rest)
  unfolding LeadsUp
  has_path zero k n rest is up h = subst (λ found. IsSome found) (sym (up_root k v n rest (omega arith) up)) refl
  has_path (suc j) zero n rest is up h = absurd (omega arith)
  has_path (suc j) (suc k) n rest is up h =
      let more = has_path j k up.0 (unwrap_or (name_in v up.0 n) [] ∷ rest) (IsDir-entry v up.0 up.1 n up.2) up.3 (omega arith) in
      subst (λ found. IsSome found) (sym (up_step (suc k) k v n rest up.0 (omega arith) (not_root v s up.0 up.1 n up.2) (parent_is v s n up.0 up.1 is up.2))) more

  -- None exactly where it is removed
  pub path_of-removed : len v.nodes ≤ 4096 → (n : ℕ) → IsDir v n → is_some (path_of v n) ≡ not (is_removed v n)
  path_of-removed few n is = elim (s.placed n is) [
    | inl u ↦ by_root u (n == v.root) refl
    | inr r ↦ elim (cases_eq n v.root) [
      | inl top ↦
          let here : (n == v.root) ≡ true = grind (arith, nat_tests) in
          ap (λ found. is_some (option_map path_text found)) (up_root 4096 v n [] (omega arith) top) ∙ sym (ap (λ b. not (not b && (name_count_of v n == 0))) here)
      | inr apart ↦
          let here : (n == v.root) ≡ false = grind (arith, nat_tests) in
          let none : (name_count_of v n == 0) ≡ true = grind (arith, nat_tests, r.nameless) in
          ap (λ found. is_some (option_map path_text found)) (up_none 4096 v n [] apart (no_parent v n r.nameless)) ∙ sym (ap (λ b. not (not b && (name_count_of v n == 0))) here ∙ ap not none)
    ]
  ]
    where
      some_mapped : (found : Option (List (List ℕ))) → IsSome found → is_some (option_map path_text found) ≡ true
      some_mapped None h = cc
      some_mapped (Some x) h = refl

      there : IsUnder v n → is_some (path_of v n) ≡ true
      there u = some_mapped (names_up 4096 v n []) (has_path u.0 4096 n [] is u.1 (let bound = depth_bound v s u.0 n is u.1 in omega arith))

      named_if : (k : ℕ) → LeadsUp v k n v.root → n ≢ v.root → name_count_of v n ≢ 0
      named_if k up apart none = apart (root_if_both v s n (k, up) none)

      by_root : IsUnder v n → (b : Bool) → (n == v.root) ≡ b → is_some (path_of v n) ≡ not (is_removed v n)
      by_root u true e = there u ∙ sym (ap (λ b. not (not b && (name_count_of v n == 0))) e)
      by_root u false e =
          let apart : n ≢ v.root = grind (arith, nat_tests) in
          let some = named_if u.0 u.1 apart in
          let test : (name_count_of v n == 0) ≡ false = grind (arith, nat_tests) in
          there u ∙ sym (ap (λ b. not (not b && (name_count_of v n == 0))) e ∙ ap not test)

  -- nor is there a directory above it
  pub dot_dot-removed : (n : ℕ) → IsDir v n → is_some (dot_dot v n) ≡ not (is_removed v n)
  unfolding LeadsUp
  dot_dot-removed n is = by_root (n == v.root) refl
    where
      below : (k : ℕ) → LeadsUp v k n v.root → n ≢ v.root → is_some (parent_at v n) ≡ not (name_count_of v n == 0)
      below zero up apart = absurd (apart up)
      below (suc k) up apart =
          let some = named v up.0 n up.1 up.2 in
          let test : (name_count_of v n == 0) ≡ false = grind (arith, nat_tests) in
          ap is_some (parent_is v s n up.0 up.1 is up.2) ∙ sym (ap not test)

      by_root : (b : Bool) → (n == v.root) ≡ b → is_some (cond b (Some n) (parent_at v n)) ≡ not (not b && (name_count_of v n == 0))
      by_root true e = refl
      by_root false e = elim (s.placed n is) [
        | inl u ↦ let apart : n ≢ v.root = grind (arith, nat_tests) in below u.0 u.1 apart
        | inr r ↦
            let none : (name_count_of v n == 0) ≡ true = grind (arith, nat_tests, r.nameless) in
            ap is_some (no_parent v n r.nameless) ∙ sym (ap not none)
      ]

after_less : (r : Ordering) → T (is_lt r) → is_eq (ordering_reverse r) ≡ false
after_less Less p = refl
after_less Equal p = absurd p
after_less Greater p = absurd p

-- each entry of a map is what the map has under its key
module _ {K X : Type 0} {R : K → K → Ordering} (o : IsTotalOrder R) where
  skip : (e : K × X) (es fs : List (K × X)) → T (below_all R e.0 fs) → AllByRecursion (λ (f : K × X). find R f.0 es ≡ Some f.1) fs → AllByRecursion (λ (f : K × X). find R f.0 (e ∷ es) ≡ Some f.1) fs
  skip e es [] h all = tt
  skip e es (f ∷ fs) h all =
      let apart : is_eq (R f.0 e.0) ≡ false = ap is_eq (o.antisymm f.0 e.0) ∙ after_less (R e.0 f.0) (first _ _ h) in
      (ap (λ b. cond b (Some e.1) (find R f.0 es)) apart ∙ all.0, skip e es fs (second _ _ h) all.1)

  each_found : (es : List (K × X)) → T (is_sorted R es) → AllByRecursion (λ (f : K × X). find R f.0 es ≡ Some f.1) es
  each_found [] h = tt
  each_found (e ∷ es) h =
      (ap (λ r. cond (is_eq r) (Some e.1) (find R e.0 es)) (tied_itself o e.0), skip e es es (first _ _ h) (each_found es (second _ _ h)))

  pub each_got : (m : FinMap R X) → AllByRecursion (λ (f : K × X). get m f.0 ≡ Some f.1) (entries m)
  each_got m = as_get (entries m) (each_found (entries m) (entries_sorted m))
    where
      as_get : (fs : List (K × X)) → AllByRecursion (λ (f : K × X). find R f.0 (entries m) ≡ Some f.1) fs → AllByRecursion (λ (f : K × X). get m f.0 ≡ Some f.1) fs
      as_get [] h = tt
      as_get (f ∷ fs) h = (get-entries m f.0 ∙ h.0, as_get fs h.1)

-- a name found for a number is an entry's
name_for-sound : (names : Names) (n : ℕ) (list : List (List ℕ × ℕ)) (name : List ℕ) → AllByRecursion (λ (f : List ℕ × ℕ). get names f.0 ≡ Some f.1) list → name_for n list ≡ Some name → get names name ≡ Some n
name_for-sound names n [] name all e = cc
name_for-sound names n (f ∷ fs) name all e = by_test (f.1 == n) refl e (name_for-sound names n fs name all.1)
  where
    by_test : (b : Bool) → (f.1 == n) ≡ b → cond b (Some f.0) (name_for n fs) ≡ Some name → (name_for n fs ≡ Some name → get names name ≡ Some n) → get names name ≡ Some n
    by_test true is h rest = let same : f.0 ≡ name = cc in let number : f.1 ≡ n = grind (arith, nat_tests) in ap (get names) (sym same) ∙ all.0 ∙ ap Some number
    by_test false is h rest = rest h

-- where none is found, no entry is for that number
name_for-none : (n : ℕ) (list : List (List ℕ × ℕ)) → name_for n list ≡ None → AllByRecursion (λ (f : List ℕ × ℕ). f.1 ≢ n) list
name_for-none n [] e = tt
name_for-none n (f ∷ fs) e = by_test (f.1 == n) refl e (name_for-none n fs)
  where
    by_test : (b : Bool) → (f.1 == n) ≡ b → cond b (Some f.0) (name_for n fs) ≡ None → (name_for n fs ≡ None → AllByRecursion (λ (f : List ℕ × ℕ). f.1 ≢ n) fs) → AllByRecursion (λ (f : List ℕ × ℕ). f.1 ≢ n) (f ∷ fs)
    by_test true is h rest = cc
    by_test false is h rest = let apart : f.1 ≢ n = grind (arith, nat_tests) in (apart, rest h)

none_such : (n : ℕ) (q : List ℕ) (list : List (List ℕ × ℕ)) → AllByRecursion (λ (f : List ℕ × ℕ). f.1 ≢ n) list → find (slice_cmp nat_cmp) q list ≡ Some n → ⊥
none_such n q [] all e = cc
none_such n q (f ∷ fs) all e = by_test (is_eq (slice_cmp nat_cmp q f.0)) e (none_such n q fs all.1)
  where
    by_test : (b : Bool) → cond b (Some f.1) (find (slice_cmp nat_cmp) q fs) ≡ Some n → (find (slice_cmp nat_cmp) q fs ≡ Some n → ⊥) → ⊥
    by_test true h rest = all.0 (let same : f.1 ≡ n = cc in same)
    by_test false h rest = rest h

-- of the entries in any order, the first for a number tells a name of it
pub name_for-found : (names : Names) (n : ℕ) (name : List ℕ) (list : List (List ℕ × ℕ)) → IsPermutation (entries names) list → get names name ≡ Some n → (other : List ℕ) × (name_for n list ≡ Some other) × (get names other ≡ Some n)
name_for-found names n name list same there = by_found (name_for n list) refl
  where
    by_found : (found : Option (List ℕ)) → name_for n list ≡ found → (other : List ℕ) × (name_for n list ≡ Some other) × (get names other ≡ Some n)
    by_found None e =
        let apart = recursion_from_All (λ (f : List ℕ × ℕ). f.1 ≢ n) (entries names) (All-permutation (λ (f : List ℕ × ℕ). f.1 ≢ n) list (entries names) (IsPermutation-sym (entries names) list same) (All-from_recursion (λ (f : List ℕ × ℕ). f.1 ≢ n) list (name_for-none n list e))) in
        absurd (none_such n name (entries names) apart (sym (get-entries names name) ∙ there))
    by_found (Some other) e =
        let each = recursion_from_All (λ (f : List ℕ × ℕ). get names f.0 ≡ Some f.1) list (All-permutation (λ (f : List ℕ × ℕ). get names f.0 ≡ Some f.1) (entries names) list same (All-from_recursion (λ (f : List ℕ × ℕ). get names f.0 ≡ Some f.1) (entries names) (each_got nat_list_cmp_total names))) in
        (other, e, name_for-sound names n list other each e)
