-- The entries that a tree is exported as are those of an image, if its paths are short and few.
use Rattle.std.proofs.Common.{◌≡◌, ℕ, zero, suc, ◌≤◌, ◌<◌, Bool, true, false, cond, nat_lt, ◌||◌, ◌==◌, nat_le, List, [], ◌∷◌, ◌++◌, map, length, Option, Some, None, is_some, Ok, Err, refl, sym, ap, subst, ◌∙◌, arith}
use Rattle.std.proofs.lemmas.Bool.{and_from, or_parts, le-leb, ltb-false, lt-ltb, le-ltb}
use Rattle.std.proofs.lemmas.Bool.Decides.{nat_tests}
use Rattle.std.proofs.lemmas.List.{length-map}
use Rattle.std.proofs.lemmas.List.Elements.{All-nil, All-cons, All-head, All-tail, All-weaker, All-contains_itself}
use Rattle.std.proofs.lemmas.List.Folds.{list_all-map}
use Rattle.std.specs.Prelude.{T, unwrap_or, option_map}
use Rattle.std.specs.List.{All, Contains, list_all, list_any}
use Rattle.std.specs.Str.{bytes_eq}
use Rattle.std.specs.Ordering.{nat_cmp, is_lt}
use Rattle.std.specs.Cmp.Lexicographic.{slice_cmp}
use Rattle.std.specs.FinMap.{get, entries, entries_sorted}
use Rattle.std.specs.FinMap.Entries.{is_sorted}
use Rattle.dt_base.specs.declared.image.What.TheVariants.{Dir}
use Rattle.dt_base.specs.declared.limits.TheConstants.{PATH_LIMIT, ENTRY_LIMIT, MODE_LIMIT, LINK_MODE}
use Rattle.dt_base.specs.Image.{IsImage, is_dir, is_dir_at, is_target, is_good_what, is_good_entry, is_rising, has_parent}
use Rattle.dt_base.specs.Profile.{file_limit, has_devices}
use Rattle.dt_base.specs.Path.{is_path, is_top, parent_of}
use Rattle.dt_host.specs.World.{Node, file, dir, link, device, node_at, IsLive}
use Rattle.dt_host.proofs.Spots.{IsDir-entry}
use Rattle.dt_tables.proofs.Conjuncts.{first, second, either-last}
use Rattle.dt_tree.specs.Above.{joined_names}
use Rattle.dt_tree.specs.FileTree.{Attributes, FileTree, IsTree, IsGoodNode}
use Rattle.dt_image.specs.Paths.{node_from_root, LeadsTo, paths_to, paths_of, path_pair}
use Rattle.dt_image.proofs.Children.{unmap, live_paths}
use Rattle.dt_image.proofs.Leading.{exact_paths}
use Rattle.dt_tree.specs.declared.limits.TheConstants.{NODE_LIMIT}
use Rattle.dt_image.specs.declared.paths.TreePath.{TreePath}
use Rattle.dt_export.specs.declared.refusal.ExportRefusal.{ExportRefusal}
use Rattle.dt_export.specs.declared.refusal.ExportRefusal.TheVariants.{LongPath, TooMany}
use Rattle.dt_tree.specs.ImageTree.{what_of}
use Rattle.dt_export.specs.ExportedImage.{mode_at, what_at, entry_at, exported_entries, exported_image, has_long_path, has_too_many_paths, path_refusal, unless_refused, image_of_tree}
use Rattle.dt_export.proofs.GoodPaths.{path_good, top_good, parent_joined, last_apart, led_apart, names_led, entry_named}
use Rattle.dt_export.proofs.Nodes.{dir_told}

is_true : (b : Bool) → T b → b ≡ true
is_true true h = refl
is_true false h = absurd h

-- entries of a map rise
rising : (t : FileTree) (es : List (List ℕ × ℕ)) → T (is_sorted (slice_cmp nat_cmp) es) → is_rising (map (entry_at t) es) ≡ true
rising t [] h = refl
rising t (e ∷ []) h = refl
rising t (e ∷ next ∷ es) h =
    let below = is_true _ (first _ _ (first _ _ h)) in
    and_from (is_lt (slice_cmp nat_cmp e.0 next.0)) (is_rising (map (entry_at t) (next ∷ es))) below (rising t (next ∷ es) (second _ _ h))

-- a node of a tree is one of an image
good_what : (version : ℕ) (node : Node) (mode : ℕ) → IsGoodNode version node mode → is_good_what version (what_of node) mode ≡ true
good_what version (file bytes) mode good = and_from (nat_le (length bytes) (file_limit version)) (nat_le mode MODE_LIMIT) (le-leb _ _ good.0) (le-leb _ _ good.1)
good_what version (dir names) mode good = le-leb mode MODE_LIMIT good.1
good_what version (link target) mode good =
    let same : (mode == LINK_MODE) ≡ true = grind (arith, nat_tests, good.1) in
    and_from (is_target target) (mode == LINK_MODE) good.0 same
good_what version (device which) mode good = and_from (has_devices version) (nat_le mode MODE_LIMIT) good.0 (le-leb _ _ good.1)

pub each_not : {X : Type 0} (p : X → Bool) (xs : List X) → list_any p xs ≡ false → All (λ x. p x ≡ false) xs
each_not p [] h = All-nil (λ x. p x ≡ false)
each_not p (x ∷ xs) h = let parts = or_parts (p x) (list_any p xs) h in All-cons (λ x. p x ≡ false) x xs parts.0 (each_not p xs parts.1)

same_bytes : (xs : List ℕ) → bytes_eq xs xs ≡ true
same_bytes [] = refl
same_bytes (x ∷ xs) = let here : (x == x) ≡ true = grind (arith, nat_tests) in and_from (x == x) (bytes_eq xs xs) here (same_bytes xs)

-- a directory that a path among these leads to
found_dir : (t : FileTree) (ats : List (List ℕ × ℕ)) (path : List ℕ) (m : ℕ) → Contains ats (path, m) → what_at t m ≡ Dir → list_any (is_dir_at path) (map (entry_at t) ats) ≡ true
found_dir t [] path m there is = absurd (omega (arith, there.1))
found_dir t (at ∷ ats) path m (zero, within, same) is =
    let here : is_dir_at path (entry_at t (path, m)) ≡ true = and_from (is_dir (what_at t m)) (bytes_eq path path) (ap is_dir is) (same_bytes path) in
    ap (λ (at : List ℕ × ℕ). is_dir_at path (entry_at t at) || list_any (is_dir_at path) (map (entry_at t) ats)) same ∙ ap (λ b. b || list_any (is_dir_at path) (map (entry_at t) ats)) here
found_dir t (at ∷ ats) path m (suc k, within, same) is = either-last (is_dir_at path (entry_at t at)) (list_any (is_dir_at path) (map (entry_at t) ats)) (found_dir t ats path m (k, omega (arith, within), same) is)

-- paths that are not refused are short and few
pub short_and_few : (paths : List (List ℕ × ℕ)) → path_refusal paths ≡ None → (has_long_path paths ≡ false) × (has_too_many_paths paths ≡ false)
short_and_few paths none = by_tests (has_long_path paths) (has_too_many_paths paths) none
  where
    by_tests : (long many : Bool) → ◌≡◌ {A = Option ExportRefusal} (cond long (Some LongPath) (cond many (Some TooMany) None)) None → (long ≡ false) × (many ≡ false)
    by_tests true many is = absurd (cc)
    by_tests false true is = absurd (cc)
    by_tests false false is = (refl, refl)

module _ (t : FileTree) (s : IsTree t) where
  -- each path is one of names that lead to its node
  pub led : All (λ at. LeadsTo t.shape at.0 at.1) (paths_of t.shape)
  led = All-weaker (Contains (paths_of t.shape)) (λ at. LeadsTo t.shape at.0 at.1) (λ at there. (exact_paths t s at.0 at.1).0 there) (paths_of t.shape) (All-contains_itself (paths_of t.shape))

  pub good_node : (n : ℕ) → IsLive t.shape n → is_good_what t.version (what_at t n) (mode_at t n) ≡ true
  good_node n live = by_node (node_at t.shape n) (get t.attributes n) refl refl live
    where
      by_node : (found : Option Node) (a : Option Attributes) → node_at t.shape n ≡ found → get t.attributes n ≡ a → is_some found ≡ true → is_good_what t.version (what_of (unwrap_or found (file []))) (unwrap_or (option_map (λ a. a.mode) a) 0) ≡ true
      by_node None a at with_a there = absurd (cc)
      by_node (Some node) None at with_a there = let same = sym (ap is_some with_a) ∙ s.same n ∙ ap is_some at in absurd (cc)
      by_node (Some node) (Some a) at with_a there = good_what t.version node a.mode (s.good n node a at with_a)

  pub good_path : (at : List ℕ × ℕ) (to : LeadsTo t.shape at.0 at.1) → nat_lt PATH_LIMIT (length at.0) ≡ false → is_path (joined_names to.0) ≡ true
  good_path at to short = path_good to.0 to.1 (names_led t s to.0 t.shape.root at.1 to.3) (subst (λ path. length path ≤ PATH_LIMIT) to.2 (ltb-false PATH_LIMIT (length at.0) short))

  -- a path to a node makes a good entry, if it is short
  good_entry : (at : List ℕ × ℕ) → LeadsTo t.shape at.0 at.1 → IsLive t.shape at.1 → nat_lt PATH_LIMIT (length at.0) ≡ false → is_good_entry t.version (entry_at t at) ≡ true
  good_entry at to live short = and_from (is_path at.0) (is_good_what t.version (what_at t at.1) (mode_at t at.1)) (ap is_path to.2 ∙ good_path at to short) (good_node at.1 live)

  parent_there : (before : List (List ℕ)) (last : List ℕ) (n : ℕ) → is_path (joined_names (before ++ last ∷ [])) ≡ true → node_from_root t.shape (before ++ last ∷ []) ≡ Some n → has_parent (exported_entries t) (entry_at t (joined_names (before ++ last ∷ []), n)) ≡ true
  parent_there [] last n good to =
      let apart = led_apart t.shape [] last t.shape.root n to in
      ap (λ b. b || list_any (is_dir_at (parent_of (joined_names (last ∷ [])))) (exported_entries t)) (top_good last (entry_named t s apart.0 last n apart.2))
  parent_there (name ∷ names) last n good to =
      let apart = led_apart t.shape (name ∷ names) last t.shape.root n to in
      let path = joined_names (name ∷ names ++ last ∷ []) in
      let there = (exact_paths t s (joined_names (name ∷ names)) apart.0).1 (name ∷ names, (λ none. cc), refl, apart.1) in
      let found = found_dir t (paths_of t.shape) (joined_names (name ∷ names)) apart.0 there (dir_told t apart.0 (IsDir-entry t.shape apart.0 last n apart.2)) in
      let parent = parent_joined (name ∷ names) last good (entry_named t s apart.0 last n apart.2) in
      either-last (is_top path) (list_any (is_dir_at (parent_of path)) (exported_entries t)) (ap (λ dir. list_any (is_dir_at dir) (exported_entries t)) parent ∙ found)

  -- its parent is among the entries
  pub parent_entry : (at : List ℕ × ℕ) → LeadsTo t.shape at.0 at.1 → IsLive t.shape at.1 → nat_lt PATH_LIMIT (length at.0) ≡ false → has_parent (exported_entries t) (entry_at t at) ≡ true
  parent_entry at to live short =
      let apart = last_apart to.0 to.1 in
      let good = subst (λ names. is_path (joined_names names) ≡ true) apart.2 (good_path at to short) in
      let there = parent_there apart.0 apart.1 at.1 good (subst (λ names. node_from_root t.shape names ≡ Some at.1) apart.2 to.3) in
      subst (λ path. has_parent (exported_entries t) (entry_at t (path, at.1)) ≡ true) (sym (to.2 ∙ ap joined_names apart.2)) there

  pub each : (p : List ℕ × ℕ → Bool) → ((at : List ℕ × ℕ) → LeadsTo t.shape at.0 at.1 → IsLive t.shape at.1 → nat_lt PATH_LIMIT (length at.0) ≡ false → p at ≡ true)
      → (ats : List (List ℕ × ℕ)) → All (λ at. LeadsTo t.shape at.0 at.1) ats → All (λ at. IsLive t.shape at.1) ats → All (λ at. nat_lt PATH_LIMIT (length at.0) ≡ false) ats → list_all p ats ≡ true
  each p holds [] to live short = refl
  each p holds (at ∷ ats) to live short =
      and_from (p at) (list_all p ats)
      (holds at (All-head (λ (at : List ℕ × ℕ). LeadsTo t.shape at.0 at.1) at ats to) (All-head (λ (at : List ℕ × ℕ). IsLive t.shape at.1) at ats live) (All-head (λ (at : List ℕ × ℕ). nat_lt PATH_LIMIT (length at.0) ≡ false) at ats short))
      (each p holds ats (All-tail (λ (at : List ℕ × ℕ). LeadsTo t.shape at.0 at.1) at ats to) (All-tail (λ (at : List ℕ × ℕ). IsLive t.shape at.1) at ats live) (All-tail (λ (at : List ℕ × ℕ). nat_lt PATH_LIMIT (length at.0) ≡ false) at ats short))

  rising_paths : is_rising (exported_entries t) ≡ true
  unfolding paths_of
  rising_paths = rising t (entries (paths_to t.shape NODE_LIMIT)) (entries_sorted (paths_to t.shape NODE_LIMIT))

  pub IsImage-exported : path_refusal (paths_of t.shape) ≡ None → IsImage (exported_image t)
  IsImage-exported none =
      let kept = short_and_few (paths_of t.shape) none in
      let not_long = each_not (λ (at : List ℕ × ℕ). nat_lt PATH_LIMIT (length at.0)) (paths_of t.shape) kept.0 in
      let live = live_paths t.shape s.shaped in
      record {
        version = s.version;
        few = omega (arith, length-map (paths_of t.shape) (entry_at t), ltb-false ENTRY_LIMIT (length (paths_of t.shape)) kept.1);
        good = list_all-map (is_good_entry t.version) (entry_at t) (paths_of t.shape) ∙ each (λ at. is_good_entry t.version (entry_at t at)) good_entry (paths_of t.shape) led live not_long;
        rising = rising_paths;
        parents = list_all-map (has_parent (exported_entries t)) (entry_at t) (paths_of t.shape) ∙ each (λ at. has_parent (exported_entries t) (entry_at t at)) parent_entry (paths_of t.shape) led live not_long;
      }

-- what the paths in the code show
any_long : (paths : List TreePath) → has_long_path (map path_pair paths) ≡ list_any (λ at. nat_lt PATH_LIMIT (length at.path)) paths
any_long [] = refl
any_long (at ∷ paths) = ap (λ rest. nat_lt PATH_LIMIT (length at.path) || rest) (any_long paths)

module _ (paths : List TreePath) where
  abbrev IsLong : Bool → Type 0
  IsLong long = list_any (λ at. nat_lt PATH_LIMIT (length at.path)) paths ≡ long

  pub long_shown : IsLong true → path_refusal (map path_pair paths) ≡ Some LongPath
  long_shown long = ap (λ b. cond b (Some LongPath) (cond (has_too_many_paths (map path_pair paths)) (Some TooMany) None)) (any_long paths ∙ long)

  short_shown : IsLong false → path_refusal (map path_pair paths) ≡ cond (has_too_many_paths (map path_pair paths)) (Some TooMany) None
  short_shown short = ap (λ b. cond b (Some LongPath) (cond (has_too_many_paths (map path_pair paths)) (Some TooMany) None)) (any_long paths ∙ short)

  pub many_shown : IsLong false → ENTRY_LIMIT < length paths → path_refusal (map path_pair paths) ≡ Some TooMany
  many_shown short more =
      let count = length-map paths path_pair in
      short_shown short ∙ ap (λ b. cond b (Some TooMany) None) (lt-ltb ENTRY_LIMIT (length (map path_pair paths)) (omega (arith, count, more)))

  pub few_shown : IsLong false → length paths ≤ ENTRY_LIMIT → path_refusal (map path_pair paths) ≡ None
  few_shown short few =
      let count = length-map paths path_pair in
      short_shown short ∙ ap (λ b. cond b (Some TooMany) None) (le-ltb ENTRY_LIMIT (length (map path_pair paths)) (omega (arith, count, few)))

pub live_shown : (t : FileTree) (paths : List TreePath) → map path_pair paths ≡ paths_of t.shape → IsTree t → All (λ at. IsLive t.shape at.inode) paths
live_shown t paths same s = unmap (λ at. IsLive t.shape at.1) path_pair paths (subst (All (λ (at : List ℕ × ℕ). IsLive t.shape at.1)) (sym same) (live_paths t.shape s.shaped))

-- the image of a tree, by what is said of its paths
module _ (t : FileTree) (paths : List (List ℕ × ℕ)) (same : paths ≡ paths_of t.shape) where
  pub some_image : path_refusal paths ≡ None → image_of_tree t ≡ Ok (exported_image t)
  unfolding image_of_tree
  some_image none = ap (λ refusal. unless_refused refusal (Ok (exported_image t))) (ap path_refusal (sym same) ∙ none)

  pub no_image : (r : ExportRefusal) → path_refusal paths ≡ Some r → image_of_tree t ≡ Err r
  unfolding image_of_tree
  no_image r is = ap (λ refusal. unless_refused refusal (Ok (exported_image t))) (ap path_refusal (sym same) ∙ is)
