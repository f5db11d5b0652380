-- A path is what stands before its last `/`, that, and a name.
use Rattle.std.proofs.Common.{arith, ◌≡◌, ◌≢◌, ◌⊎◌, inl, inr, ℕ, zero, suc, ◌-◌, ◌≤◌, ◌<◌, List, [], ◌∷◌, ◌++◌, length, length-append, take, drop, get_or, Bool, true, false, cond, not, ◌&&◌, ◌||◌, refl, sym, ap, ◌∙◌, drop-cons}
use Rattle.std.proofs.lemmas.Bool.{cases_eq, and_parts}
use Rattle.std.proofs.lemmas.Bool.Decides.{nat_tests}
use Rattle.std.proofs.lemmas.Cmp.{tied_itself}
use Rattle.std.proofs.lemmas.List.{get_or-reverse, length-reverse, take-append-drop}
use Rattle.std.proofs.lemmas.List.Folds.{list_all-append}
use Rattle.std.proofs.lemmas.List.Sums.{prefix_len_passes, prefix_len_stops, suffix_len-le-length}
use Rattle.std.specs.Prelude.{◌==◌, IsTrue, nat_le, reverse, codes}
use Rattle.std.specs.List.{list_all, list_any, suffix_len}
use Rattle.std.specs.Str.{bytes_eq}
use Rattle.std.specs.Ordering.{nat_cmp, ordering_then}
use Rattle.std.specs.declared.cmp.Ordering.TheVariants.{Less}
use Rattle.std.specs.Cmp.{nat_cmp_total}
use Rattle.std.specs.Cmp.Lexicographic.{slice_cmp}
use Rattle.dt_base.specs.declared.limits.TheConstants.{PATH_LIMIT}
use Rattle.dt_base.specs.Path.{is_slash, with_first, components_of, has_no_nul, is_name, is_path, is_top, parent_of}
use Rattle.dt_tree.specs.FileTree.{is_entry_name}
use Rattle.dt_tree.specs.ImageTree.{last_name}

either : (a b : Bool) → (a || b) ≡ false → (a ≡ false) × (b ≡ false)
either true b e = cc
either false true e = cc
either false false e = (refl, refl)

-- a text comes before one that goes on after it
before_longer : (a : List ℕ) (x : ℕ) (b : List ℕ) → slice_cmp nat_cmp a (a ++ x ∷ b) ≡ Less
before_longer [] x b = refl
before_longer (y ∷ a) x b = ap (λ r. ordering_then r (slice_cmp nat_cmp a (a ++ x ∷ b))) (tied_itself nat_cmp_total y) ∙ before_longer a x b

-- the components of a text
first_component : (text : List ℕ) → (c : List ℕ) × (cs : List (List ℕ)) × (components_of text ≡ c ∷ cs)
first_component [] = ([], [], refl)
first_component (b ∷ bs) = by_test (is_slash b) (first_component bs)
  where
    by_test : (v : Bool) → (c : List ℕ) × (cs : List (List ℕ)) × (components_of bs ≡ c ∷ cs) → (c : List ℕ) × (cs : List (List ℕ)) × (cond v ([] ∷ components_of bs) (with_first b (components_of bs)) ≡ c ∷ cs)
    by_test true rest = ([], components_of bs, refl)
    by_test false rest = (b ∷ rest.0, rest.1, ap (with_first b) rest.2)

some_component : (text : List ℕ) → 1 ≤ length (components_of text)
some_component text = let first = first_component text in let size = ap length first.2 in omega arith

pub components_of-append : (a b : List ℕ) → components_of (a ++ 47 ∷ b) ≡ components_of a ++ components_of b
components_of-append [] b = refl
components_of-append (x ∷ a) b = by_test (is_slash x) (components_of-append a b) (first_component a)
  where
    by_test : (v : Bool) → components_of (a ++ 47 ∷ b) ≡ components_of a ++ components_of b → (c : List ℕ) × (cs : List (List ℕ)) × (components_of a ≡ c ∷ cs) → cond v ([] ∷ components_of (a ++ 47 ∷ b)) (with_first x (components_of (a ++ 47 ∷ b))) ≡ cond v ([] ∷ components_of a) (with_first x (components_of a)) ++ components_of b
    by_test true e first = ap (λ xs. [] ∷ xs) e
    by_test false e first = ap (with_first x) e ∙ ap (λ xs. with_first x (xs ++ components_of b)) first.2 ∙ sym (ap (λ xs. with_first x xs ++ components_of b) first.2)

pub one_component : (text : List ℕ) → list_any is_slash text ≡ false → components_of text ≡ text ∷ []
one_component [] none = refl
one_component (b ∷ bs) none =
    let parts = either (is_slash b) (list_any is_slash bs) none in
    ap (λ v. cond v ([] ∷ components_of bs) (with_first b (components_of bs))) parts.0 ∙ ap (with_first b) (one_component bs parts.1)

none_after : (text : List ℕ) (n : ℕ) → ((k : ℕ) → n ≤ k → k < length text → not (is_slash (get_or text k 0)) ≡ true) → list_any is_slash (drop n text) ≡ false
none_after [] zero h = refl
none_after [] (suc n) h = refl
none_after (x ∷ xs) zero h = neither (is_slash x) (list_any is_slash xs) (h 0 (omega arith) (omega arith)) (none_after xs 0 (λ k _ within. h (suc k) (omega arith) (omega arith)))
  where
    neither : (a b : Bool) → not a ≡ true → b ≡ false → (a || b) ≡ false
    neither true b p q = cc
    neither false b p q = q
none_after (x ∷ xs) (suc n) h = none_after xs n (λ k low within. h (suc k) (omega arith) (omega arith))

-- how many bytes the last name has
abbrev name_len : List ℕ → ℕ
name_len path = suffix_len (λ b. not (is_slash b)) path

no_slash_at : (path : List ℕ) (k : ℕ) → k < length path → length path - name_len path ≤ k → not (is_slash (get_or path k 0)) ≡ true
no_slash_at path k within h =
    let most = suffix_len-le-length (λ b. not (is_slash b)) path in
    let len = length-reverse path in
    let passes = prefix_len_passes (λ b. not (is_slash b)) (reverse path) (length path - 1 - k) 0 (omega arith) in
    let at = get_or-reverse path (length path - 1 - k) 0 (omega arith) in
    let back : length path - 1 - (length path - 1 - k) ≡ k = omega arith in
    ap (λ x. not (is_slash x)) (sym (at ∙ ap (λ i. get_or path i 0) back)) ∙ passes

slash_before : (path : List ℕ) → name_len path < length path → is_slash (get_or path (length path - name_len path - 1) 0) ≡ true
slash_before path h =
    let len = length-reverse path in
    let stops = prefix_len_stops (λ b. not (is_slash b)) (reverse path) 0 (omega arith) in
    let at = get_or-reverse path (name_len path) 0 (omega arith) in
    let same : length path - 1 - name_len path ≡ length path - name_len path - 1 = omega arith in
    not_not (is_slash (get_or path (length path - name_len path - 1) 0)) (ap (λ x. not (is_slash x)) (sym (at ∙ ap (λ i. get_or path i 0) same)) ∙ stops)
  where
    not_not : (b : Bool) → not b ≡ false → b ≡ true
    not_not true e = refl
    not_not false e = cc

module _ (path : List ℕ) (good : IsTrue (is_path path)) where
  names_good : list_all is_name (components_of (drop 1 path)) ≡ true
  names_good = (and_parts (nat_le (length path) PATH_LIMIT && bytes_eq (take 1 path) (codes "/") && has_no_nul path) (list_all is_name (components_of (drop 1 path))) good).1

  before_names : (nat_le (length path) PATH_LIMIT && bytes_eq (take 1 path) (codes "/") && has_no_nul path) ≡ true
  before_names = (and_parts (nat_le (length path) PATH_LIMIT && bytes_eq (take 1 path) (codes "/") && has_no_nul path) (list_all is_name (components_of (drop 1 path))) good).0

  no_nul : has_no_nul path ≡ true
  no_nul = (and_parts (nat_le (length path) PATH_LIMIT && bytes_eq (take 1 path) (codes "/")) (has_no_nul path) before_names).1

  -- a path begins with a `/`
  pub begins : (rest : List ℕ) × (path ≡ 47 ∷ rest)
  begins = by_first path (and_parts (nat_le (length path) PATH_LIMIT) (bytes_eq (take 1 path) (codes "/")) (and_parts (nat_le (length path) PATH_LIMIT && bytes_eq (take 1 path) (codes "/")) (has_no_nul path) before_names).0).1
    where
      by_first : (path : List ℕ) → bytes_eq (take 1 path) (codes "/") ≡ true → (rest : List ℕ) × (path ≡ 47 ∷ rest)
      by_first [] e = cc
      by_first (b ∷ bs) e = let first = and_parts (b == 47) true e in let same : b ≡ 47 = grind (arith, nat_tests, first.0) in (bs, ap (λ x. x ∷ bs) same)

  some : name_len path < length path
  some = by_len (cases_eq (name_len path) (length path))
    where
      at_first : (text rest : List ℕ) → text ≡ 47 ∷ rest → not (is_slash (get_or text 0 0)) ≡ true → ⊥
      at_first text rest e h = let same = ap (λ xs. not (is_slash (get_or xs 0 0))) e in cc

      long : (text rest : List ℕ) → text ≡ 47 ∷ rest → 0 < length text
      long text rest e = let size = ap length e in omega arith

      by_len : (name_len path ≡ length path) ⊎ (name_len path ≢ length path) → name_len path < length path
      by_len (inl same) = absurd (at_first path begins.0 begins.1 (no_slash_at path 0 (long path begins.0 begins.1) (omega arith)))
      by_len (inr apart) = let most = suffix_len-le-length (λ b. not (is_slash b)) path in omega arith

  -- a path is what stands before its last name, a `/`, and that name
  pub split : path ≡ parent_of path ++ 47 ∷ last_name path
  split =
      let n = length path - name_len path - 1 in
      let next : suc n ≡ length path - name_len path = omega (arith, some) in
      let slash : get_or path n 0 ≡ 47 = grind (arith, nat_tests, slash_before path some) in
      sym (take-append-drop n path)
      ∙ ap (λ xs. take n path ++ xs) (drop-cons path n 0 (omega (arith, some)))
      ∙ ap (λ x. take n path ++ x ∷ drop (suc n) path) slash
      ∙ ap (λ k. take n path ++ 47 ∷ drop k path) next

  -- and the former comes before the path
  pub parent_before : slice_cmp nat_cmp (parent_of path) path ≡ Less
  parent_before = ap (slice_cmp nat_cmp (parent_of path)) split ∙ before_longer (parent_of path) 47 (last_name path)

  no_slash : list_any is_slash (last_name path) ≡ false
  no_slash = none_after path (length path - name_len path) (λ k h within. no_slash_at path k within h)

  -- the last name is good
  pub last_good : IsTrue (is_entry_name (last_name path))
  last_good = all_three (is_name (last_name path)) (has_no_nul (last_name path)) (list_any is_slash (last_name path)) (by_parent (parent_of path) refl) last_no_nul no_slash
    where
      all_three : (a b c : Bool) → a ≡ true → b ≡ true → c ≡ false → (a && b && not c) ≡ true
      all_three a b c p q r = (λ i. p i && q i && not (r i))

      last_no_nul : has_no_nul (last_name path) ≡ true
      last_no_nul = (and_parts (has_no_nul (parent_of path)) (has_no_nul (last_name path)) (sym (list_all-append (λ b. not (b == 0)) (parent_of path) (47 ∷ last_name path)) ∙ ap has_no_nul (sym split) ∙ no_nul)).1

      by_parent : (parent : List ℕ) → parent_of path ≡ parent → is_name (last_name path) ≡ true
      by_parent [] e =
          let rest : drop 1 path ≡ last_name path = ap (drop 1) (split ∙ ap (λ xs. xs ++ 47 ∷ last_name path) e) in
          (and_parts (is_name (last_name path)) true (ap (list_all is_name) (sym (ap components_of rest ∙ one_component (last_name path) no_slash)) ∙ names_good)).0
      by_parent (c ∷ parent) e =
          let rest : drop 1 path ≡ parent ++ 47 ∷ last_name path = ap (drop 1) (split ∙ ap (λ xs. xs ++ 47 ∷ last_name path) e) in
          let parts : components_of (drop 1 path) ≡ components_of parent ++ last_name path ∷ [] = ap components_of rest ∙ components_of-append parent (last_name path) ∙ ap (λ xs. components_of parent ++ xs) (one_component (last_name path) no_slash) in
          (and_parts (is_name (last_name path)) true (and_parts (list_all is_name (components_of parent)) (is_name (last_name path) && true) (sym (list_all-append is_name (components_of parent) (last_name path ∷ [])) ∙ ap (list_all is_name) (sym parts) ∙ names_good)).1).0

  -- what has one name stands in the root
  pub top_parent : is_top path ≡ true → parent_of path ≡ []
  top_parent top = by_parent (parent_of path) refl
    where
      by_parent : (parent : List ℕ) → parent_of path ≡ parent → parent ≡ []
      by_parent [] e = refl
      by_parent (c ∷ parent) e =
          let rest : drop 1 path ≡ parent ++ 47 ∷ last_name path = ap (drop 1) (split ∙ ap (λ xs. xs ++ 47 ∷ last_name path) e) in
          let parts = ap length (ap components_of rest ∙ components_of-append parent (last_name path) ∙ ap (λ xs. components_of parent ++ xs) (one_component (last_name path) no_slash)) in
          let sum = length-append (components_of parent) (last_name path ∷ []) in
          let more = some_component parent in
          let one : length (components_of (drop 1 path)) ≡ 1 = grind (arith, nat_tests, top) in
          absurd (omega arith)
