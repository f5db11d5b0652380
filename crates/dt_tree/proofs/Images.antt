-- The tree of an image's first entries, and with one entry more.
use Rattle.std.proofs.Common.{arith, ◌≡◌, ◌≢◌, ◌⊎◌, inl, inr, ℕ, zero, suc, ◌+◌, ◌<◌, List, [], ◌∷◌, ◌++◌, length, map, length-append, Bool, true, false, cond, Option, Some, None, refl, sym, ap, subst, ◌∙◌, append-nil}
use Rattle.std.proofs.lemmas.Cmp.{tied_itself}
use Rattle.std.proofs.lemmas.List.{map-append}
use Rattle.std.proofs.lemmas.List.Elements.{filter-append}
use Rattle.std.proofs.lemmas.Option.{slice_get_within}
use Rattle.std.proofs.lemmas.Slice.Eq.{bytes_eq-Decides}
use Rattle.std.specs.Prelude.{IsTrue, slice_get, unwrap_or, option_map, option_and_then}
use Rattle.std.specs.List.{filter, enumerate_from}
use Rattle.std.specs.Str.{bytes_eq}
use Rattle.std.specs.declared.cmp.Ordering.{Ordering}
use Rattle.std.specs.declared.cmp.Ordering.TheVariants.{Less, Equal, Greater}
use Rattle.std.specs.Ordering.{nat_cmp, is_eq}
use Rattle.std.specs.Cmp.{nat_cmp_total}
use Rattle.std.specs.Cmp.Lexicographic.{slice_cmp, nat_list_cmp_total}
use Rattle.std.specs.FinMap.{empty, get, insert, find, from_entries, from_entries_push, get-from_entries, get-empty, same_map, nat_cmp-IsAntisymmetric}
use Rattle.dt_base.specs.declared.image.Entry.{Entry}
use Rattle.dt_base.specs.declared.image.What.{What}
use Rattle.dt_base.specs.declared.image.What.TheVariants.{File, Dir, Link, Dev}
use Rattle.dt_base.specs.Image.{ImageParts}
use Rattle.dt_base.specs.Path.{is_path, parent_of}
use Rattle.dt_host.specs.World.{dir, dir_names, names_at, with_node, with_entry}
use Rattle.dt_tables.proofs.MapOf.{equal_if}
use Rattle.dt_tables.proofs.Maps.{at_insert, names_tie, get-insert_same, get-insert_other}
use Rattle.dt_host.proofs.Worlds.{node_at-with_node_other}
use Rattle.dt_tree.specs.FileTree.{Attributes}
use Rattle.dt_tree.specs.ImageTree.{last_name, numbered_entries, names_below, node_of, image_nodes, start_attributes, image_attributes, image_tree}
use Rattle.dt_tree.specs.Changes.{new_node, tree_with_new}
use Rattle.dt_tree.proofs.Paths.{begins, split, parent_before}
use Rattle.dt_tree.proofs.Entries.{Before, not_itself, not_both_ways, get_left, get_last, get_past}

not_equal : (r : Ordering) → r ≢ Equal → is_eq r ≡ false
not_equal Less h = refl
not_equal Equal h = absurd (h refl)
not_equal Greater h = refl

-- the entries of a list by their numbers
enumerate_push : {X : Type 0} (a : ℕ) (xs : List X) (x : X) → enumerate_from a (xs ++ x ∷ []) ≡ enumerate_from a xs ++ (a + length xs, x) ∷ []
enumerate_push a [] x = let same : a ≡ a + 0 = omega arith in ap (λ n. (n, x) ∷ []) same
enumerate_push a (y ∷ ys) x =
    let same : a + 1 + length ys ≡ a + suc (length ys) = omega arith in
    ap (λ rest. (a, y) ∷ rest) (enumerate_push (a + 1) ys x ∙ ap (λ n. enumerate_from (a + 1) ys ++ (n, x) ∷ []) same)

at_number : {X : Type 0} (f : ℕ × Entry → X) (a : ℕ) (es : List Entry) (k n : ℕ) → n ≡ a + k → find nat_cmp n (map (λ e. (e.0, f e)) (enumerate_from a es)) ≡ option_map (λ e. f (n, e)) (slice_get es k)
at_number f a [] k n e = refl
at_number f a (x ∷ xs) zero n e =
    let same : n ≡ a = omega arith in
    ap (λ r. cond (is_eq r) (Some (f (a, x))) (find nat_cmp n (map (λ e. (e.0, f e)) (enumerate_from (a + 1) xs)))) (ap (nat_cmp n) (sym same) ∙ tied_itself nat_cmp_total n) ∙ ap (λ m. Some (f (m, x))) (sym same)
at_number f a (x ∷ xs) (suc k) n e =
    let apart : n ≢ a = omega arith in
    ap (λ b. cond b (Some (f (a, x))) (find nat_cmp n (map (λ e. (e.0, f e)) (enumerate_from (a + 1) xs)))) (not_equal (nat_cmp n a) (λ tie. apart (nat_cmp-IsAntisymmetric n a tie)))
    ∙ at_number f (a + 1) xs k n (omega arith)

below_number : {X : Type 0} (f : ℕ × Entry → X) (a : ℕ) (es : List Entry) (n : ℕ) → n < a → find nat_cmp n (map (λ e. (e.0, f e)) (enumerate_from a es)) ≡ None
below_number f a [] n h = refl
below_number f a (x ∷ xs) n h =
    let apart : n ≢ a = omega arith in
    ap (λ b. cond b (Some (f (a, x))) (find nat_cmp n (map (λ e. (e.0, f e)) (enumerate_from (a + 1) xs)))) (not_equal (nat_cmp n a) (λ tie. apart (nat_cmp-IsAntisymmetric n a tie)))
    ∙ below_number f (a + 1) xs n (omega arith)

-- the nodes and attributes of an image's tree, by inode
pub nodes_root : (es : List Entry) → get (image_nodes es) 1 ≡ Some (dir (names_below es []))
unfolding image_nodes
nodes_root es = get-insert_same nat_cmp_total nat_cmp-IsAntisymmetric (from_entries (map (λ e. (e.0, node_of es e.1.path e.1.what)) (numbered_entries es))) 1 (dir (names_below es []))

pub nodes_at : (es : List Entry) (k n : ℕ) → n ≡ 2 + k → get (image_nodes es) n ≡ option_map (λ e. node_of es e.path e.what) (slice_get es k)
unfolding image_nodes
nodes_at es k n e =
    get-insert_other nat_cmp_total nat_cmp-IsAntisymmetric (from_entries (map (λ e. (e.0, node_of es e.1.path e.1.what)) (numbered_entries es))) 1 (dir (names_below es [])) n (omega arith)
    ∙ get-from_entries nat_cmp_total (map (λ e. (e.0, node_of es e.1.path e.1.what)) (numbered_entries es)) n
    ∙ at_number (λ e. node_of es e.1.path e.1.what) 2 es k n e

nodes_zero : (es : List Entry) → get (image_nodes es) 0 ≡ None
unfolding image_nodes
nodes_zero es =
    get-insert_other nat_cmp_total nat_cmp-IsAntisymmetric (from_entries (map (λ e. (e.0, node_of es e.1.path e.1.what)) (numbered_entries es))) 1 (dir (names_below es [])) 0 (omega arith)
    ∙ get-from_entries nat_cmp_total (map (λ e. (e.0, node_of es e.1.path e.1.what)) (numbered_entries es)) 0
    ∙ below_number (λ e. node_of es e.1.path e.1.what) 2 es 0 (omega arith)

attributes_root : (es : List Entry) → get (image_attributes es) 1 ≡ Some (start_attributes 493)
unfolding image_attributes
attributes_root es = get-insert_same nat_cmp_total nat_cmp-IsAntisymmetric (from_entries (map (λ e. (e.0, start_attributes e.1.mode)) (numbered_entries es))) 1 (start_attributes 493)

attributes_at : (es : List Entry) (k n : ℕ) → n ≡ 2 + k → get (image_attributes es) n ≡ option_map (λ e. start_attributes e.mode) (slice_get es k)
unfolding image_attributes
attributes_at es k n e =
    get-insert_other nat_cmp_total nat_cmp-IsAntisymmetric (from_entries (map (λ e. (e.0, start_attributes e.1.mode)) (numbered_entries es))) 1 (start_attributes 493) n (omega arith)
    ∙ get-from_entries nat_cmp_total (map (λ e. (e.0, start_attributes e.1.mode)) (numbered_entries es)) n
    ∙ at_number (λ e. start_attributes e.1.mode) 2 es k n e

attributes_zero : (es : List Entry) → get (image_attributes es) 0 ≡ None
unfolding image_attributes
attributes_zero es =
    get-insert_other nat_cmp_total nat_cmp-IsAntisymmetric (from_entries (map (λ e. (e.0, start_attributes e.1.mode)) (numbered_entries es))) 1 (start_attributes 493) 0 (omega arith)
    ∙ get-from_entries nat_cmp_total (map (λ e. (e.0, start_attributes e.1.mode)) (numbered_entries es)) 0
    ∙ below_number (λ e. start_attributes e.1.mode) 2 es 0 (omega arith)

-- nothing is held at the start
pub not_held : (es : List Entry) (n : ℕ) → unwrap_or (option_map (λ (a : Attributes). a.holds) (get (image_attributes es) n)) 0 ≡ 0
not_held es zero = ap (λ found. unwrap_or (option_map (λ (a : Attributes). a.holds) found) 0) (attributes_zero es)
not_held es (suc zero) = ap (λ found. unwrap_or (option_map (λ (a : Attributes). a.holds) found) 0) (attributes_root es)
not_held es (suc (suc k)) = ap (λ found. unwrap_or (option_map (λ (a : Attributes). a.holds) found) 0) (attributes_at es k (suc (suc k)) (omega arith)) ∙ by_entry (slice_get es k)
  where
    by_entry : (found : Option Entry) → unwrap_or (option_map (λ (a : Attributes). a.holds) (option_map (λ (e : Entry). start_attributes e.mode) found)) 0 ≡ 0
    by_entry None = refl
    by_entry (Some e) = refl

-- the names of a directory as they are listed in its definition
abbrev places : ℕ → List Entry → List ℕ → List (List ℕ × ℕ)
places a es path = map (λ e. (last_name e.1.path, e.0)) (filter (λ e. bytes_eq (parent_of e.1.path) path) (enumerate_from a es))

places_push : (es : List Entry) (e : Entry) (path : List ℕ) (b : Bool) → bytes_eq (parent_of e.path) path ≡ b → places 2 (es ++ e ∷ []) path ≡ places 2 es path ++ cond b ((last_name e.path, 2 + length es) ∷ []) []
places_push es e path b test =
    ap (λ list. map {B = List ℕ × ℕ} (λ e. (last_name e.1.path, e.0)) (filter (λ e. bytes_eq (parent_of e.1.path) path) list)) (enumerate_push 2 es e)
    ∙ ap (map {B = List ℕ × ℕ} (λ e. (last_name e.1.path, e.0))) (filter-append (λ (e : ℕ × Entry). bytes_eq (parent_of e.1.path) path) (enumerate_from 2 es) ((2 + length es, e) ∷ []))
    ∙ map-append {B = List ℕ × ℕ} (λ (e : ℕ × Entry). (last_name e.1.path, e.0)) (filter (λ e. bytes_eq (parent_of e.1.path) path) (enumerate_from 2 es)) (filter (λ e. bytes_eq (parent_of e.1.path) path) ((2 + length es, e) ∷ []))
    ∙ ap (λ c. places 2 es path ++ map {B = List ℕ × ℕ} (λ (e : ℕ × Entry). (last_name e.1.path, e.0)) (cond c ((2 + length es, e) ∷ []) [])) test
    ∙ ap (λ list. places 2 es path ++ list) (by_test b)
  where
    by_test : (b : Bool) → map {B = List ℕ × ℕ} (λ (e : ℕ × Entry). (last_name e.1.path, e.0)) (cond b ((2 + length es, e) ∷ []) []) ≡ cond b ((last_name e.path, 2 + length es) ∷ []) []
    by_test true = refl
    by_test false = refl

-- a name that no entry has in a directory
no_place : (name path : List ℕ) (a : ℕ) (es : List Entry) → ((k : ℕ) (x : Entry) → slice_get es k ≡ Some x → parent_of x.path ≡ path → last_name x.path ≡ name → ⊥) → find (slice_cmp nat_cmp) name (places a es path) ≡ None
no_place name path a [] h = refl
no_place name path a (x ∷ xs) h = by_test (bytes_eq (parent_of x.path) path) refl (no_place name path (a + 1) xs (λ k y at. h (suc k) y at))
  where
    by_name : (b : Bool) → is_eq (slice_cmp nat_cmp name (last_name x.path)) ≡ b → parent_of x.path ≡ path → find (slice_cmp nat_cmp) name (places (a + 1) xs path) ≡ None → cond b (Some a) (find (slice_cmp nat_cmp) name (places (a + 1) xs path)) ≡ None
    by_name true e parent rest = absurd (h 0 x refl parent (sym (names_tie name (last_name x.path) (equal_if (slice_cmp nat_cmp name (last_name x.path)) e))))
    by_name false e parent rest = rest

    by_test : (b : Bool) → bytes_eq (parent_of x.path) path ≡ b → find (slice_cmp nat_cmp) name (places (a + 1) xs path) ≡ None → find (slice_cmp nat_cmp) name (map {B = List ℕ × ℕ} (λ e. (last_name e.1.path, e.0)) (cond b ((a, x) ∷ filter (λ e. bytes_eq (parent_of e.1.path) path) (enumerate_from (a + 1) xs)) (filter (λ e. bytes_eq (parent_of e.1.path) path) (enumerate_from (a + 1) xs)))) ≡ None
    by_test true e rest = by_name (is_eq (slice_cmp nat_cmp name (last_name x.path))) refl ((bytes_eq-Decides (parent_of x.path) path).0 e) rest
    by_test false e rest = rest

-- the image of that version with these entries
abbrev pub image_of : ℕ → List Entry → ImageParts
image_of version entries = record { version = version; entries = entries }

-- an inode is that of the directory at a path
abbrev pub IsInodeAt : List Entry → List ℕ → ℕ → Type 0
IsInodeAt es path n = ((path ≡ []) × (n ≡ 1)) ⊎ ((j : ℕ) × (x : Entry) × (slice_get es j ≡ Some x) × (x.what ≡ Dir) × (x.path ≡ path) × (n ≡ 2 + j))

module _ (es : List Entry) (e : Entry) (d : ℕ)
    (at_d : IsInodeAt es (parent_of e.path) d)
    (paths : (k : ℕ) (x : Entry) → slice_get es k ≡ Some x → IsTrue (is_path x.path))
    (once : (j k : ℕ) (x y : Entry) → slice_get es j ≡ Some x → slice_get es k ≡ Some y → x.path ≡ y.path → j ≡ k)
    (before : (k : ℕ) (x : Entry) → slice_get es k ≡ Some x → Before x e)
    (good : IsTrue (is_path e.path)) where
  no_path : (k : ℕ) (x : Entry) → slice_get es k ≡ Some x → x.path ≡ [] → ⊥
  no_path k x at none = let first = begins x.path (paths k x at) in clash first.0 (sym none ∙ first.1)
    where
      clash : (rest : List ℕ) → [] ≡ 47 ∷ rest → ⊥
      clash rest e = cc

  -- the name is free
  not_there : find (slice_cmp nat_cmp) (last_name e.path) (places 2 es (parent_of e.path)) ≡ None
  not_there = no_place (last_name e.path) (parent_of e.path) 2 es (λ k x at parent name.
      not_itself x.path e.path (before k x at) (split x.path (paths k x at) ∙ (λ i. parent i ++ 47 ∷ name i) ∙ sym (split e.path good)))

  pub free : get (names_below es (parent_of e.path)) (last_name e.path) ≡ None
  unfolding names_below
  free = get-from_entries nat_list_cmp_total (places 2 es (parent_of e.path)) (last_name e.path) ∙ not_there

  -- its directory has it, and no other
  one_more : (path : List ℕ) → parent_of e.path ≡ path → names_below (es ++ e ∷ []) path ≡ insert (names_below es path) (last_name e.path) (2 + length es)
  unfolding names_below
  one_more path same =
      ap (λ list. from_entries list) (places_push es e path true ((bytes_eq-Decides (parent_of e.path) path).1 same))
      ∙ from_entries_push nat_list_cmp_total names_tie (places 2 es path) (last_name e.path) (2 + length es) (subst (λ p. find (slice_cmp nat_cmp) (last_name e.path) (places 2 es p) ≡ None) same not_there)

  no_more : (path : List ℕ) → parent_of e.path ≢ path → names_below (es ++ e ∷ []) path ≡ names_below es path
  unfolding names_below
  no_more path apart = ap (λ list. from_entries list) (places_push es e path false (is_false (bytes_eq (parent_of e.path) path) (λ h. apart ((bytes_eq-Decides (parent_of e.path) path).0 h))) ∙ append-nil (places 2 es path))
    where
      is_false : (b : Bool) → (b ≡ true → ⊥) → b ≡ false
      is_false true h = absurd (h refl)
      is_false false h = refl

  -- the new entry has none yet
  bare : names_below (es ++ e ∷ []) e.path ≡ empty
  unfolding names_below
  bare = no_more e.path (λ same. not_itself (parent_of e.path) e.path (parent_before e.path good) same)
      ∙ same_map nat_list_cmp_total names_tie _ _ (λ q. get-from_entries nat_list_cmp_total (places 2 es e.path) q
      ∙ no_place q e.path 2 es (λ k x at parent _. not_both_ways x.path e.path (before k x at) (subst (λ p. slice_cmp nat_cmp p x.path ≡ Less) parent (parent_before x.path (paths k x at))))
      ∙ sym (get-empty (slice_cmp nat_cmp) q))

  node_new : (what : What) → node_of (es ++ e ∷ []) e.path what ≡ new_node what
  node_new (File bytes) = refl
  node_new Dir = ap dir bare
  node_new (Link target) = refl
  node_new (Dev which) = refl

  -- its directory is there
  pub node_d : get (image_nodes es) d ≡ Some (dir (names_below es (parent_of e.path)))
  node_d = by_place at_d
    where
      by_place : IsInodeAt es (parent_of e.path) d → get (image_nodes es) d ≡ Some (dir (names_below es (parent_of e.path)))
      by_place (inl top) = ap (get (image_nodes es)) top.1 ∙ nodes_root es ∙ ap (λ p. Some (dir (names_below es p))) (sym top.0)
      by_place (inr at) =
          nodes_at es at.0 d at.5 ∙ ap (option_map (λ e. node_of es e.path e.what)) at.2
          ∙ ap (λ what. Some (node_of es at.1.path what)) at.3 ∙ ap (λ p. Some (dir (names_below es p))) at.4

  d_low : d ≢ 2 + length es
  d_low same = by_place at_d
    where
      by_place : IsInodeAt es (parent_of e.path) d → ⊥
      by_place (inl top) = let one = top.1 in omega arith
      by_place (inr at) = let within = slice_get_within es at.0 at.1 at.2 in let is = at.5 in omega arith

  node_grown : get (image_nodes (es ++ e ∷ [])) d ≡ Some (dir (insert (names_below es (parent_of e.path)) (last_name e.path) (2 + length es)))
  node_grown = by_place at_d
    where
      by_place : IsInodeAt es (parent_of e.path) d → get (image_nodes (es ++ e ∷ [])) d ≡ Some (dir (insert (names_below es (parent_of e.path)) (last_name e.path) (2 + length es)))
      by_place (inl top) = ap (get (image_nodes (es ++ e ∷ []))) top.1 ∙ nodes_root (es ++ e ∷ []) ∙ ap (λ p. Some (dir (names_below (es ++ e ∷ []) p))) (sym top.0) ∙ ap (λ names. Some (dir names)) (one_more (parent_of e.path) refl)
      by_place (inr at) =
          nodes_at (es ++ e ∷ []) at.0 d at.5 ∙ ap (option_map (λ x. node_of (es ++ e ∷ []) x.path x.what)) (get_left es e at.0 at.1 at.2)
          ∙ ap (λ what. Some (node_of (es ++ e ∷ []) at.1.path what)) at.3 ∙ ap (λ p. Some (dir (names_below (es ++ e ∷ []) p))) at.4
          ∙ ap (λ names. Some (dir names)) (one_more (parent_of e.path) refl)

  node_last : get (image_nodes (es ++ e ∷ [])) (2 + length es) ≡ Some (new_node e.what)
  node_last = nodes_at (es ++ e ∷ []) (length es) (2 + length es) refl ∙ ap (option_map (λ x. node_of (es ++ e ∷ []) x.path x.what)) (get_last es e) ∙ ap Some (node_new e.what)

  -- the others stay
  node_same : (q : ℕ) → q ≢ d → q ≢ 2 + length es → get (image_nodes (es ++ e ∷ [])) q ≡ get (image_nodes es) q
  node_same zero apart other = nodes_zero (es ++ e ∷ []) ∙ sym (nodes_zero es)
  node_same (suc zero) apart other = nodes_root (es ++ e ∷ []) ∙ ap (λ names. Some (dir names)) (no_more [] (λ none. by_place none at_d)) ∙ sym (nodes_root es)
    where
      by_place : parent_of e.path ≡ [] → IsInodeAt es (parent_of e.path) d → ⊥
      by_place none (inl top) = apart (sym top.1)
      by_place none (inr at) = no_path at.0 at.1 at.2 (at.4 ∙ none)
  node_same (suc (suc k)) apart other =
      nodes_at (es ++ e ∷ []) k (suc (suc k)) (omega arith) ∙ by_entry (slice_get es k) refl ∙ sym (nodes_at es k (suc (suc k)) (omega arith))
    where
      by_place : (x : Entry) → slice_get es k ≡ Some x → parent_of e.path ≡ x.path → IsInodeAt es (parent_of e.path) d → ⊥
      by_place x here same (inl top) = no_path k x here (sym same ∙ top.0)
      by_place x here same (inr at) = let index = once at.0 k at.1 x at.2 here (at.4 ∙ same) in let is = at.5 in apart (omega arith)

      by_what : (x : Entry) → slice_get es k ≡ Some x → (what : What) → node_of (es ++ e ∷ []) x.path what ≡ node_of es x.path what
      by_what x here (File bytes) = refl
      by_what x here Dir = ap dir (no_more x.path (λ same. by_place x here same at_d))
      by_what x here (Link target) = refl
      by_what x here (Dev which) = refl

      by_entry : (found : Option Entry) → slice_get es k ≡ found → option_map (λ x. node_of (es ++ e ∷ []) x.path x.what) (slice_get (es ++ e ∷ []) k) ≡ option_map (λ x. node_of es x.path x.what) (slice_get es k)
      by_entry None at = ap (option_map (λ x. node_of (es ++ e ∷ []) x.path x.what)) (get_past es e k at (λ same. other (omega arith))) ∙ sym (ap (option_map (λ x. node_of es x.path x.what)) at)
      by_entry (Some x) at =
          ap (option_map (λ x. node_of (es ++ e ∷ []) x.path x.what)) (get_left es e k x at) ∙ ap Some (by_what x at x.what) ∙ sym (ap (option_map (λ x. node_of es x.path x.what)) at)

  attributes_same : (q : ℕ) → q ≢ 2 + length es → get (image_attributes (es ++ e ∷ [])) q ≡ get (image_attributes es) q
  attributes_same zero other = attributes_zero (es ++ e ∷ []) ∙ sym (attributes_zero es)
  attributes_same (suc zero) other = attributes_root (es ++ e ∷ []) ∙ sym (attributes_root es)
  attributes_same (suc (suc k)) other =
      attributes_at (es ++ e ∷ []) k (suc (suc k)) (omega arith) ∙ by_entry (slice_get es k) refl ∙ sym (attributes_at es k (suc (suc k)) (omega arith))
    where
      by_entry : (found : Option Entry) → slice_get es k ≡ found → option_map (λ (x : Entry). start_attributes x.mode) (slice_get (es ++ e ∷ []) k) ≡ option_map (λ (x : Entry). start_attributes x.mode) (slice_get es k)
      by_entry None at = ap (option_map (λ (x : Entry). start_attributes x.mode)) (get_past es e k at (λ same. other (omega arith)) ∙ sym at)
      by_entry (Some x) at = ap (option_map (λ (x : Entry). start_attributes x.mode)) (get_left es e k x at ∙ sym at)

  nodes_more : image_nodes (es ++ e ∷ []) ≡ insert (insert (image_nodes es) (2 + length es) (new_node e.what)) d (dir (insert (names_below es (parent_of e.path)) (last_name e.path) (2 + length es)))
  nodes_more = same_map nat_cmp_total nat_cmp-IsAntisymmetric _ _ (λ q.
      at_insert nat_cmp_total nat_cmp-IsAntisymmetric (λ found. get (image_nodes (es ++ e ∷ [])) q ≡ found) (insert (image_nodes es) (2 + length es) (new_node e.what)) d (dir (insert (names_below es (parent_of e.path)) (last_name e.path) (2 + length es))) q
      (λ is. ap (get (image_nodes (es ++ e ∷ []))) is ∙ node_grown)
      (λ apart. at_insert nat_cmp_total nat_cmp-IsAntisymmetric (λ found. get (image_nodes (es ++ e ∷ [])) q ≡ found) (image_nodes es) (2 + length es) (new_node e.what) q
      (λ is. ap (get (image_nodes (es ++ e ∷ []))) is ∙ node_last)
      (λ other. node_same q apart other)))

  attributes_more : image_attributes (es ++ e ∷ []) ≡ insert (image_attributes es) (2 + length es) (start_attributes e.mode)
  attributes_more = same_map nat_cmp_total nat_cmp-IsAntisymmetric _ _ (λ q.
      at_insert nat_cmp_total nat_cmp-IsAntisymmetric (λ found. get (image_attributes (es ++ e ∷ [])) q ≡ found) (image_attributes es) (2 + length es) (start_attributes e.mode) q
      (λ is. ap (get (image_attributes (es ++ e ∷ []))) is ∙ attributes_at (es ++ e ∷ []) (length es) (2 + length es) refl ∙ ap (option_map (λ (x : Entry). start_attributes x.mode)) (get_last es e))
      (λ other. attributes_same q other))

  names_first : names_at (with_node (record { nodes = image_nodes es; root = 1 }) (2 + length es) (new_node e.what)) d ≡ names_below es (parent_of e.path)
  unfolding names_at
  names_first = ap (λ found. unwrap_or (option_and_then dir_names found) empty) (node_at-with_node_other (record { nodes = image_nodes es; root = 1 }) (2 + length es) (new_node e.what) d d_low ∙ node_d)

  -- the tree with one entry more is the tree in which its node was created
  pub image_more : (version : ℕ) → image_tree (image_of version (es ++ e ∷ [])) ≡ tree_with_new (image_tree (image_of version es)) d (last_name e.path) (new_node e.what) e.mode 0
  unfolding tree_with_new with_entry
  image_more version =
      let nodes = nodes_more ∙ ap (λ names. insert (insert (image_nodes es) (2 + length es) (new_node e.what)) d (dir (insert names (last_name e.path) (2 + length es)))) (sym names_first) in
      let attributes = attributes_more in
      let size = length-append es (e ∷ []) in
      let next : 2 + length (es ++ e ∷ []) ≡ 2 + length es + 1 = omega arith in
      λ i. record { shape = record { nodes = nodes i; root = 1 }; attributes = attributes i; next = next i; version = version }
