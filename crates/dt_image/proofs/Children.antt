-- The entries of a directory as they are listed, and the nodes that paths lead to.
use Rattle.std.proofs.Common.{◌≡◌, ℕ, zero, suc, ◌+◌, ◌≤◌, nat_lt, true, false, not, cond, ◌&&◌, ◌||◌, ◌==◌, List, [], ◌∷◌, ◌++◌, map, fold, length, take, Option, Some, None, is_some, refl, sym, ap, subst, ◌∙◌, arith, add-one}
use Rattle.std.proofs.Math.Bool.{and-false}
use Rattle.std.specs.Prelude.{codes, IsSome, unwrap_or, option_and_then}
use Rattle.std.specs.List.{All, AllByRecursion, filter, flat_map}
use Rattle.std.specs.Str.{bytes_eq}
use Rattle.std.specs.Ordering.{nat_cmp, is_lt}
use Rattle.std.specs.Cmp.Lexicographic.{slice_cmp, nat_list_cmp_total}
use Rattle.std.specs.FinMap.{empty, get, insert, entries, get-empty, len-empty, len-entries}
use Rattle.std.proofs.lemmas.Bool.Decides.{nat_tests}
use Rattle.std.proofs.lemmas.List.{length-map, nil_from_length}
use Rattle.std.proofs.lemmas.List.Elements.{All-nil, All-cons, All-head, All-tail, All-append}
use Rattle.std.proofs.lemmas.Bool.{and_parts, not-true}
use Rattle.dt_base.specs.Path.{is_name, has_no_nul}
use Rattle.dt_host.specs.World.{Forest, Names, Node, file, dir, link, device, node_at, dir_at, dir_names, names_at, entry, IsLive}
use Rattle.dt_tables.proofs.Maps.{at_insert, names_tie}
use Rattle.dt_tree.specs.declared.limits.TheConstants.{NAMES_LIMIT}
use Rattle.dt_tree.specs.Shape.{name_count_of, IsShaped}
use Rattle.dt_tree.specs.FileTree.{FileTree, Attributes, IsTree, is_entry_name}
use Rattle.dt_tree.specs.Listing.{rank, is_listed_after, is_left, listed_entry, listing, next_of}
use Rattle.dt_tree.proofs.Namings.{named, len-names_at}
use Rattle.dt_tree.proofs.Pathed.{each_got}
use Rattle.dt_image.specs.Paths.{paths_below, level, with_path, paths_to, paths_of}
use Rattle.dt_image.specs.inner.PathView.{listed_path, IsPlaced}

-- a good name comes after `..`
after_dots : (name : List ℕ) → is_entry_name name ≡ true → is_listed_after (codes "..") name ≡ true
after_dots name good =
    let named = (and_parts (is_name name) (has_no_nul name) (and_parts (is_name name && has_no_nul name) _ good).0).0 in
    let two = not-true (bytes_eq name (codes "..")) (and_parts _ (not (bytes_eq name (codes ".."))) named).1 in
    let one = not-true (bytes_eq name (codes ".")) (and_parts _ (not (bytes_eq name (codes "."))) (and_parts _ (not (bytes_eq name (codes ".."))) named).0).1 in
    let last : rank name ≡ 2 = ap (λ a. cond a 0 (cond (bytes_eq name (codes "..")) 1 2)) one ∙ ap (λ b. cond b 1 2) two in
    ap (λ r. nat_lt 1 r || ((1 == r) && is_lt (slice_cmp nat_cmp (codes "..") name))) last

-- the names of a tree's directory are good
pub names_good : (t : FileTree) (d : ℕ) → IsTree t → (name : List ℕ) → IsSome (get (names_at t.shape d) name) → is_entry_name name ≡ true
unfolding names_at
names_good t d s name there = by_node (node_at t.shape d) (get t.attributes d) refl refl there
  where
    by_node : (found : Option Node) (a : Option Attributes) → node_at t.shape d ≡ found → get t.attributes d ≡ a → IsSome (get (unwrap_or (option_and_then dir_names found) empty) name) → is_entry_name name ≡ true
    by_node None a at with_a here = let none = get-empty (slice_cmp nat_cmp) name in let no : false ≡ true = subst IsSome none here in absurd (cc)
    by_node (Some (file bytes)) a at with_a here = let none = get-empty (slice_cmp nat_cmp) name in let no : false ≡ true = subst IsSome none here in absurd (cc)
    by_node (Some (link target)) a at with_a here = let none = get-empty (slice_cmp nat_cmp) name in let no : false ≡ true = subst IsSome none here in absurd (cc)
    by_node (Some (device which)) a at with_a here = let none = get-empty (slice_cmp nat_cmp) name in let no : false ≡ true = subst IsSome none here in absurd (cc)
    by_node (Some (dir names)) None at with_a here = let same = sym (ap is_some with_a) ∙ s.same d ∙ ap is_some at in absurd (cc)
    by_node (Some (dir names)) (Some a) at with_a here = (s.good d (dir names) a at with_a).0 name here

module _ (v : Forest) where
  all_left : (es : List (List ℕ × ℕ)) → AllByRecursion (λ e. is_listed_after (codes "..") e.0 ≡ true) es → filter (λ l. is_left (Some (codes "..")) l.name) (map (listed_entry v) es) ≡ map (listed_entry v) es
  all_left [] h = refl
  all_left (e ∷ es) h =
      ap (λ b. cond b (listed_entry v e ∷ filter (λ l. is_left (Some (codes "..")) l.name) (map (listed_entry v) es)) (filter (λ l. is_left (Some (codes "..")) l.name) (map (listed_entry v) es))) h.0
      ∙ ap (λ rest. listed_entry v e ∷ rest) (all_left es h.1)

take_whole : {X : Type 0} (n : ℕ) (xs : List X) → length xs ≤ n → take n xs ≡ xs
take_whole {X = X} n [] short = by_number n
  where
    by_number : (n : ℕ) → take {A = X} n [] ≡ []
    by_number zero = refl
    by_number (suc n) = refl
take_whole zero (x ∷ xs) short = absurd (omega arith)
take_whole (suc n) (x ∷ xs) short = ap (λ rest. x ∷ rest) (take_whole n xs (omega arith))

-- what is listed after `..` are the entries
pub listed_after : (t : FileTree) (d most : ℕ) → IsTree t → NAMES_LIMIT ≤ most → next_of (Some (codes "..")) most (listing t.shape d) ≡ map (listed_entry t.shape) (entries (names_at t.shape d))
listed_after t d most s room =
    let names = names_at t.shape d in
    let after = each (entries names) (each_got nat_list_cmp_total names) in
    let few : length (map (listed_entry t.shape) (entries names)) ≤ most = omega (arith, length-map (entries names) (listed_entry t.shape), sym (len-entries names), len-names_at t.shape d, s.few_names) in
    ap (take most) (all_left t.shape (entries names) after) ∙ take_whole most (map (listed_entry t.shape) (entries names)) few
  where
    each : (es : List (List ℕ × ℕ)) → AllByRecursion (λ (e : List ℕ × ℕ). get (names_at t.shape d) e.0 ≡ Some e.1) es → AllByRecursion (λ (e : List ℕ × ℕ). is_listed_after (codes "..") e.0 ≡ true) es
    each [] h = tt
    each (e ∷ es) h = (after_dots e.0 (names_good t d s e.0 (ap is_some h.0)), each es h.1)

pub below_listed : (v : Forest) (path : List ℕ) (d : ℕ) → map (listed_path path) (map (listed_entry v) (entries (names_at v d))) ≡ paths_below v (path, d)
unfolding paths_below
below_listed v path d = by_list (entries (names_at v d))
  where
    by_list : (es : List (List ℕ × ℕ)) → map (listed_path path) (map (listed_entry v) es) ≡ map (λ e. (path ++ (codes "/" ++ e.0), e.1)) es
    by_list [] = refl
    by_list (e ∷ es) = ap (λ rest. (path ++ (codes "/" ++ e.0), e.1) ∷ rest) (by_list es)

-- what is no directory has no entries
pub none_below : (v : Forest) (path : List ℕ) (d : ℕ) → is_some (dir_at v d) ≡ false → paths_below v (path, d) ≡ []
unfolding paths_below names_at
none_below v path d other = ap (map (λ e. (path ++ (codes "/" ++ e.0), e.1))) (by_found (dir_at v d) other)
  where
    by_found : (found : Option Names) → is_some found ≡ false → entries (unwrap_or found empty) ≡ []
    by_found None e = nil_from_length _ (sym (len-entries empty) ∙ len-empty (slice_cmp nat_cmp) ℕ)
    by_found (Some names) e = absurd (cc)

-- the node that a path leads to has a name
abbrev IsNamed : Forest → List ℕ × ℕ → Type 0
IsNamed v at = 1 ≤ name_count_of v at.1

module _ (v : Forest) where
  named_below : (at : List ℕ × ℕ) → All (IsNamed v) (paths_below v at)
  unfolding paths_below entry
  named_below at = by_list (entries (names_at v at.1)) (each_got nat_list_cmp_total (names_at v at.1))
    where
      by_list : (es : List (List ℕ × ℕ)) → AllByRecursion (λ (e : List ℕ × ℕ). get (names_at v at.1) e.0 ≡ Some e.1) es → All (IsNamed v) (map (λ e. (at.0 ++ (codes "/" ++ e.0), e.1)) es)
      by_list [] h = All-nil (IsNamed v)
      by_list (e ∷ es) h = All-cons (IsNamed v) (at.0 ++ (codes "/" ++ e.0), e.1) _ (named v at.1 e.1 e.0 h.0) (by_list es h.1)

  named_all : (ats : List (List ℕ × ℕ)) → All (IsNamed v) (flat_map (paths_below v) ats)
  named_all [] = All-nil (IsNamed v)
  named_all (at ∷ ats) = All-append (IsNamed v) (paths_below v at) (flat_map (paths_below v) ats) (named_below at) (named_all ats)

  all_placed : (ats : List (List ℕ × ℕ)) → All (IsNamed v) ats → All (IsPlaced v) ats
  all_placed [] h = All-nil (IsPlaced v)
  all_placed (at ∷ ats) h = All-cons (IsPlaced v) at ats (placed (All-head (IsNamed v) at ats h)) (all_placed ats (All-tail (IsNamed v) at ats h))
    where
      placed : 1 ≤ name_count_of v at.1 → (not (at.1 == v.root) && (name_count_of v at.1 == 0)) ≡ false
      placed some =
          let more : (name_count_of v at.1 == 0) ≡ false = grind (arith, nat_tests) in
          ap (λ b. not (at.1 == v.root) && b) more ∙ and-false (not (at.1 == v.root))

  -- no path leads to a removed directory
  pub placed_level : (depth : ℕ) → All (IsPlaced v) (level v depth)
  unfolding level
  placed_level zero =
      let same : (v.root == v.root) ≡ true = grind (arith, nat_tests) in
      All-cons (IsPlaced v) ([], v.root) [] (ap (λ b. not b && (name_count_of v v.root == 0)) same) (All-nil (IsPlaced v))
  placed_level (suc depth) = all_placed (flat_map (paths_below v) (level v depth)) (named_all (level v depth))

  -- what holds of the paths of each level holds of those of a map
  module _ (P : List ℕ × ℕ → Type 0) where
    of_fold : (paths : Names) (ats : List (List ℕ × ℕ)) → ((path : List ℕ) (n : ℕ) → get paths path ≡ Some n → P (path, n)) → All P ats → (path : List ℕ) (n : ℕ) → get (fold with_path paths ats) path ≡ Some n → P (path, n)
    of_fold paths [] before h = before
    of_fold paths (at ∷ ats) before h =
        of_fold (insert paths at.0 at.1) ats
        (λ path n. at_insert nat_list_cmp_total names_tie (λ found. found ≡ Some n → P (path, n)) paths at.0 at.1 path
        (λ is e. let same : at.1 ≡ n = cc in subst P (λ i. (sym is i, same i)) (All-head P at ats h))
        (λ apart. before path n))
        (All-tail P at ats h)

    pub of_paths : ((depth : ℕ) → All P (level v (suc depth))) → (depth : ℕ) (path : List ℕ) (n : ℕ) → get (paths_to v depth) path ≡ Some n → P (path, n)
    unfolding paths_to
    of_paths all zero path n e = let none = get-empty {X = ℕ} (slice_cmp nat_cmp) path in absurd (cc)
    of_paths all (suc depth) path n e = of_fold (paths_to v depth) (level v (suc depth)) (of_paths all depth) (all depth) path n e

  named_level : (depth : ℕ) → All (IsNamed v) (level v (suc depth))
  unfolding level
  named_level depth = named_all (level v depth)

  pub level_next : (depth : ℕ) → level v (depth + 1) ≡ flat_map (paths_below v) (level v depth)
  unfolding level
  level_next depth = ap (level v) (add-one depth)

  pub paths_next : (depth : ℕ) → paths_to v (depth + 1) ≡ fold with_path (paths_to v depth) (level v (depth + 1))
  unfolding paths_to
  paths_next depth = ap (paths_to v) (add-one depth) ∙ ap (λ n. fold with_path (paths_to v depth) (level v n)) (sym (add-one depth))

  -- each path leads to a node
  pub live_paths : IsShaped v → All (λ at. IsLive v at.1) (paths_of v)
  unfolding paths_of
  live_paths s = by_list (entries (paths_to v 4096)) (each_got nat_list_cmp_total (paths_to v 4096))
    where
      by_list : (es : List (List ℕ × ℕ)) → AllByRecursion (λ (e : List ℕ × ℕ). get (paths_to v 4096) e.0 ≡ Some e.1) es → All (λ at. IsLive v at.1) es
      by_list [] h = All-nil (λ at. IsLive v at.1)
      by_list (e ∷ es) h = All-cons (λ (at : List ℕ × ℕ). IsLive v at.1) e es (s.named e.1 (of_paths (IsNamed v) named_level 4096 e.0 e.1 h.0)) (by_list es h.1)

-- a fact of each after a change, as one of each before it
pub unmap : {X Y : Type 0} (P : Y → Type 0) (f : X → Y) (xs : List X) → All P (map f xs) → All (λ x. P (f x)) xs
unmap P f [] h = All-nil (λ x. P (f x))
unmap P f (x ∷ xs) h = All-cons (λ x. P (f x)) x xs (All-head P (f x) (map f xs) h) (unmap P f xs (All-tail P (f x) (map f xs) h))
