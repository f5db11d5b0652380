-- The paths of a tree are those of all names that lead from its root to a node.
use Rattle.std.proofs.Common.{◌≡◌, ◌≢◌, ◌⊎◌, inl, inr, ℕ, zero, suc, ◌+◌, ◌≤◌, Bool, true, false, not, cond, ◌&&◌, List, [], ◌∷◌, ◌++◌, map, fold, length, drop, Some, refl, sym, ap, subst, ◌∙◌, arith, append_assoc, append-nil}
use Rattle.std.proofs.lemmas.Bool.{cases_eq, and_parts, not-true}
use Rattle.std.proofs.lemmas.List.{map-id}
use Rattle.std.proofs.lemmas.List.Elements.{All-nil, All-cons, All-head, All-tail, All-append, All-weaker, All-contains, All-from_recursion, Contains-append_left, Contains-append_right}
use Rattle.std.proofs.lemmas.Option.{same_Some, option_and_then_some}
use Rattle.std.specs.Prelude.{codes, is_some, ◌↔◌, option_and_then}
use Rattle.std.specs.List.{All, AllByRecursion, Contains, flat_map, list_any}
use Rattle.std.specs.Ordering.{nat_cmp, is_eq}
use Rattle.std.specs.Cmp.Lexicographic.{slice_cmp, nat_list_cmp_total}
use Rattle.std.specs.FinMap.{get, insert, entries, len, get-entries, find}
use Rattle.dt_base.specs.Path.{is_slash, has_no_nul, is_name, components_of}
use Rattle.dt_host.specs.World.{Forest, Names, names_at, entry}
use Rattle.dt_tables.proofs.MapOf.{equal_if}
use Rattle.dt_tables.proofs.Maps.{at_insert, names_tie}
use Rattle.dt_host.proofs.Spots.{IsDir-entry}
use Rattle.dt_tree.specs.Shape.{LeadsUp}
use Rattle.dt_tree.specs.Above.{joined_names}
use Rattle.dt_tree.specs.FileTree.{FileTree, IsTree}
use Rattle.dt_tree.proofs.Aboves.{depth_bound}
use Rattle.dt_tree.proofs.Pathed.{each_got}
use Rattle.dt_tree.proofs.Paths.{components_of-append, one_component}
use Rattle.dt_image.specs.Paths.{node_from, node_from_root, LeadsTo, paths_below, level, with_path, paths_to, paths_of}
use Rattle.dt_image.proofs.Children.{names_good, of_paths}

joined-append : (names : List (List ℕ)) (name : List ℕ) → joined_names (names ++ name ∷ []) ≡ joined_names names ++ (codes "/" ++ name)
joined-append [] name = ap (λ rest. codes "/" ++ rest) (append-nil name)
joined-append (first ∷ names) name =
    ap (λ rest. codes "/" ++ (first ++ rest)) (joined-append names name)
    ∙ ap (λ rest. codes "/" ++ rest) (sym (append_assoc first (joined_names names) (codes "/" ++ name)))

-- a path gives its names back, if they have no `/`
names_back : (names : List (List ℕ)) → AllByRecursion (λ name. list_any is_slash name ≡ false) names → components_of (joined_names names) ≡ [] ∷ names
names_back [] h = refl
names_back (name ∷ []) h = ap (λ rest. [] ∷ components_of rest) (append-nil name) ∙ ap (λ rest. [] ∷ rest) (one_component name h.0)
names_back (name ∷ next ∷ names) h =
    ap (λ rest. [] ∷ rest) (components_of-append name (next ++ joined_names names))
    ∙ ap (λ first. [] ∷ (first ++ components_of (next ++ joined_names names))) (one_component name h.0)
    ∙ ap (λ rest. [] ∷ name ∷ drop 1 rest) (names_back (next ∷ names) h.1)

-- what a map has under a key is among its entries
found_among : {X : Type 0} (f : List ℕ × ℕ → X) (es : List (List ℕ × ℕ)) (q : List ℕ) (n : ℕ) → find (slice_cmp nat_cmp) q es ≡ Some n → Contains (map f es) (f (q, n))
found_among f [] q n e = cc
found_among f (x ∷ es) q n e = by_test (is_eq (slice_cmp nat_cmp q x.0)) refl e (found_among f es q n)
  where
    by_test : (b : Bool) → is_eq (slice_cmp nat_cmp q x.0) ≡ b → cond b (Some x.1) (find (slice_cmp nat_cmp) q es) ≡ Some n → (find (slice_cmp nat_cmp) q es ≡ Some n → Contains (map f es) (f (q, n))) → Contains (f x ∷ map f es) (f (q, n))
    by_test true is h rest =
        let key : x.0 ≡ q = sym (names_tie q x.0 (equal_if _ is)) in
        let number : x.1 ≡ n = same_Some x.1 n h in
        (0, omega arith, λ i. f (key i, number i))
    by_test false is h rest = let there = rest h in (suc there.0, omega (arith, there.1), there.2)

among_all : {X Y : Type 0} (f : X → List Y) (xs : List X) (x : X) (y : Y) → Contains xs x → Contains (f x) y → Contains (flat_map f xs) y
among_all f [] x y at there = absurd (omega (arith, at.1))
among_all f (first ∷ xs) x y (zero, within, is) there = Contains-append_left (f first) (flat_map f xs) y (subst (λ x. Contains (f x) y) (sym is) there)
among_all f (first ∷ xs) x y (suc k, within, is) there = Contains-append_right (f first) (flat_map f xs) y (among_all f xs x y (k, omega (arith, within), is) there)

-- names that lead from the root to the node of a path
abbrev IsLed : Forest → List ℕ × ℕ → Type 0
IsLed v at = (names : List (List ℕ)) × (at.0 ≡ joined_names names) × (node_from_root v names ≡ Some at.1)

-- and there is at least one
abbrev IsListed : Forest → List ℕ × ℕ → Type 0
IsListed v at = LeadsTo v at.0 at.1

some_names : (names : List (List ℕ)) (name : List ℕ) → names ++ name ∷ [] ≢ []
some_names [] name e = cc
some_names (first ∷ names) name e = cc

not_empty : (names : List (List ℕ)) → names ≢ [] → 1 ≤ length names
not_empty [] some = absurd (some refl)
not_empty (name ∷ names) some = omega arith

module _ (v : Forest) where
  reached-append : (names : List (List ℕ)) (d m n : ℕ) (name : List ℕ) → node_from v d names ≡ Some m → entry v m name ≡ Some n → node_from v d (names ++ name ∷ []) ≡ Some n
  unfolding node_from
  reached-append [] d m n name led here = ap (option_and_then (λ n. Some n)) (ap (λ d. entry v d name) (same_Some d m led) ∙ here)
  reached-append (first ∷ names) d m n name led here =
      option_and_then_some (λ d. node_from v d names) (entry v d first) m led
      (λ next at rest. ap (option_and_then (λ d. node_from v d (names ++ name ∷ []))) at ∙ reached-append names next m n name rest here)

  listed_below : (at : List ℕ × ℕ) → IsLed v at → All (IsListed v) (paths_below v at)
  unfolding paths_below entry
  listed_below at led = by_list (entries (names_at v at.1)) (each_got nat_list_cmp_total (names_at v at.1))
    where
      by_list : (es : List (List ℕ × ℕ)) → AllByRecursion (λ (e : List ℕ × ℕ). get (names_at v at.1) e.0 ≡ Some e.1) es → All (IsListed v) (map (λ e. (at.0 ++ (codes "/" ++ e.0), e.1)) es)
      by_list [] h = All-nil (IsListed v)
      by_list (e ∷ es) h =
          let path = ap (λ path. path ++ (codes "/" ++ e.0)) led.1 ∙ sym (joined-append led.0 e.0) in
          All-cons (IsListed v) (at.0 ++ (codes "/" ++ e.0), e.1) _ (led.0 ++ e.0 ∷ [], some_names led.0 e.0, path, reached-append led.0 v.root at.1 e.1 e.0 led.2 h.0) (by_list es h.1)

  listed_all : (ats : List (List ℕ × ℕ)) → All (IsLed v) ats → All (IsListed v) (flat_map (paths_below v) ats)
  listed_all [] h = All-nil (IsListed v)
  listed_all (at ∷ ats) h = All-append (IsListed v) (paths_below v at) (flat_map (paths_below v) ats) (listed_below at (All-head (IsLed v) at ats h)) (listed_all ats (All-tail (IsLed v) at ats h))

  led_level : (depth : ℕ) → All (IsLed v) (level v depth)
  unfolding level node_from
  led_level zero = All-cons (IsLed v) ([], v.root) [] ([], refl, refl) (All-nil (IsLed v))
  led_level (suc depth) = All-weaker (IsListed v) (IsLed v) (λ at led. (led.0, led.2, led.3)) (flat_map (paths_below v) (level v depth)) (listed_all (level v depth) (led_level depth))

  -- each path of a level is that of names which lead to its node
  listed_level : (depth : ℕ) → All (IsListed v) (level v (suc depth))
  unfolding level
  listed_level depth = listed_all (level v depth) (led_level depth)

  -- and the path of so many names is in the level of that depth
  in_level : (names : List (List ℕ)) (j k : ℕ) (path whole : List ℕ) (d n : ℕ) → k ≡ j + length names → whole ≡ path ++ joined_names names → Contains (level v j) (path, d) → node_from v d names ≡ Some n → Contains (level v k) (whole, n)
  unfolding level paths_below node_from entry
  in_level [] j k path whole d n depth is at led =
      let same : k ≡ j = omega (arith, depth) in
      let whole_path = is ∙ append-nil path in
      let node = same_Some d n led in
      subst (λ k. Contains (level v k) (whole, n)) (sym same) (subst (λ (at : List ℕ × ℕ). Contains (level v j) at) (λ i. (sym whole_path i, node i)) at)
  in_level (name ∷ names) j k path whole d n depth is at led =
      option_and_then_some (λ d. node_from v d names) (entry v d name) n led (λ m here rest.
      let below_at = found_among (λ e. (path ++ (codes "/" ++ e.0), e.1)) (entries (names_at v d)) name m (sym (get-entries (names_at v d) name) ∙ here) in
      in_level names (suc j) k (path ++ (codes "/" ++ name)) whole m n (omega (arith, depth)) (is ∙ sym (append_assoc path (codes "/" ++ name) (joined_names names)))
      (among_all (paths_below v) (level v j) (path, d) (path ++ (codes "/" ++ name), m) at below_at) rest)

  level_of : (names : List (List ℕ)) (n : ℕ) → node_from_root v names ≡ Some n → Contains (level v (length names)) (joined_names names, n)
  unfolding level
  level_of names n led = in_level names 0 (length names) [] (joined_names names) v.root n (omega arith) refl (0, omega arith, refl) led

  -- a map of paths keeps what one of them leads to, where names lead from it to one node alone
  module _ (path : List ℕ) (n : ℕ) (only : (m : ℕ) → LeadsTo v path m → m ≡ n) where
    kept : (paths : Names) (ats : List (List ℕ × ℕ)) → All (IsListed v) ats → (get paths path ≡ Some n) ⊎ Contains ats (path, n) → get (fold with_path paths ats) path ≡ Some n
    kept paths [] h (inl found) = found
    kept paths [] h (inr at) = absurd (omega (arith, at.1))
    kept paths (at ∷ ats) h here = kept (insert paths at.0 at.1) ats (All-tail (IsListed v) at ats h) (next here)
      where
        put : (path ≡ at.0 → at.1 ≡ n) → (path ≢ at.0 → get paths path ≡ Some n) → get (insert paths at.0 at.1) path ≡ Some n
        put here there = at_insert nat_list_cmp_total names_tie (λ found. found ≡ Some n) paths at.0 at.1 path (λ is. ap Some (here is)) there

        next : (get paths path ≡ Some n) ⊎ Contains (at ∷ ats) (path, n) → (get (insert paths at.0 at.1) path ≡ Some n) ⊎ Contains ats (path, n)
        next (inl found) = inl (put (λ is. only at.1 (subst (λ path. LeadsTo v path at.1) (sym is) (All-head (IsListed v) at ats h))) (λ _. found))
        next (inr (zero, within, is)) = inl (put (λ _. ap (λ (at : List ℕ × ℕ). at.1) is) (λ apart. absurd (apart (ap (λ (at : List ℕ × ℕ). at.0) (sym is)))))
        next (inr (suc k, within, is)) = inr (k, omega (arith, within), is)

    in_paths : (depth j : ℕ) → 1 ≤ j → j ≤ depth → Contains (level v j) (path, n) → get (paths_to v depth) path ≡ Some n
    unfolding paths_to
    in_paths zero j low high at = absurd (omega arith)
    in_paths (suc depth) j low high at = kept (paths_to v depth) (level v (suc depth)) (listed_level depth) (by_depth (cases_eq j (suc depth)) (in_paths depth j low))
      where
        by_depth : (j ≡ suc depth) ⊎ (j ≢ suc depth) → (j ≤ depth → Contains (level v j) (path, n) → get (paths_to v depth) path ≡ Some n) → (get (paths_to v depth) path ≡ Some n) ⊎ Contains (level v (suc depth)) (path, n)
        by_depth (inl same) rest = inr (subst (λ j. Contains (level v j) (path, n)) same at)
        by_depth (inr apart) rest = inl (rest (omega arith) at)

module _ (t : FileTree) (s : IsTree t) where
  -- names that lead to a node have no `/`
  no_slashes : (names : List (List ℕ)) (d n : ℕ) → node_from t.shape d names ≡ Some n → AllByRecursion (λ name. list_any is_slash name ≡ false) names
  unfolding node_from entry
  no_slashes [] d n led = tt
  no_slashes (name ∷ names) d n led =
      option_and_then_some (λ d. node_from t.shape d names) (entry t.shape d name) n led (λ m here rest.
      let good = names_good t d s name (ap is_some here) in
      (not-true (list_any is_slash name) (and_parts (is_name name && has_no_nul name) (not (list_any is_slash name)) good).1, no_slashes names m n rest))

  -- so a path leads to one node
  one_node : (path : List ℕ) (m n : ℕ) → LeadsTo t.shape path m → LeadsTo t.shape path n → m ≡ n
  one_node path m n a b =
      let first = names_back a.0 (no_slashes a.0 t.shape.root m a.3) in
      let second = names_back b.0 (no_slashes b.0 t.shape.root n b.3) in
      let same : a.0 ≡ b.0 = ap (drop 1) (sym first ∙ ap components_of (sym a.2 ∙ b.2) ∙ second) in
      same_Some m n (sym a.3 ∙ ap (node_from_root t.shape) same ∙ b.3)

  -- there are no more of them than nodes
  within_nodes : (names : List (List ℕ)) (k d n : ℕ) → LeadsUp t.shape k d t.shape.root → k ≤ len t.shape.nodes → node_from t.shape d names ≡ Some n → k + length names ≤ len t.shape.nodes
  unfolding node_from LeadsUp
  within_nodes [] k d n up h led = omega arith
  within_nodes (name ∷ names) k d n up h led =
      option_and_then_some (λ d. node_from t.shape d names) (entry t.shape d name) n led (λ m here rest.
      let deep = depth_bound t.shape s.shaped k d (IsDir-entry t.shape d name m here) up in
      let more = within_nodes names (suc k) m n (d, name, here, up) (omega (arith, deep)) rest in
      omega (arith, more))

  within_limit : (names : List (List ℕ)) (n : ℕ) → node_from_root t.shape names ≡ Some n → length names ≤ 4096
  unfolding LeadsUp
  within_limit names n led = omega (arith, s.few, within_nodes names 0 t.shape.root n refl (omega arith) led)

  listed : (path : List ℕ) (n : ℕ) → LeadsTo t.shape path n → get (paths_to t.shape 4096) path ≡ Some n
  listed path n led =
      let at = subst (λ path. Contains (level t.shape (length led.0)) (path, n)) (sym led.2) (level_of t.shape led.0 n led.3) in
      in_paths t.shape path n (λ m other. one_node path m n other led) 4096 (length led.0) (not_empty led.0 led.1) (within_limit led.0 n led.3) at

  -- the paths of a tree are exactly those
  pub exact_paths : (path : List ℕ) (n : ℕ) → Contains (paths_of t.shape) (path, n) ↔ LeadsTo t.shape path n
  unfolding paths_of
  exact_paths path n =
      let paths = paths_to t.shape 4096 in
      let each = All-from_recursion (λ (e : List ℕ × ℕ). get paths e.0 ≡ Some e.1) (entries paths) (each_got nat_list_cmp_total paths) in (
        λ at. of_paths t.shape (IsListed t.shape) (listed_level t.shape) 4096 path n (All-contains (λ (e : List ℕ × ℕ). get paths e.0 ≡ Some e.1) (entries paths) (path, n) each at),
        λ led. subst (λ es. Contains es (path, n)) (map-id (entries paths)) (found_among (λ e. e) (entries paths) path n (sym (get-entries paths path) ∙ listed path n led)),
      )
