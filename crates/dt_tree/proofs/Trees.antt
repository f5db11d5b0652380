-- A tree with a new node and its name is a tree.
use Rattle.std.proofs.Common.{arith, ◌≡◌, ◌≢◌, ℕ, ◌+◌, ◌≤◌, ◌<◌, cond, true, List, length, Option, Some, None, inl, inr, refl, sym, ap, subst, ◌∙◌}
use Rattle.std.proofs.lemmas.Bool.{cases_eq, and_parts}
use Rattle.std.proofs.lemmas.Bool.Decides.{nat_tests}
use Rattle.std.proofs.lemmas.Option.{same_Some}
use Rattle.std.specs.Prelude.{is_some, IsSome, IsTrue, nat_le, ◌==◌, unwrap_or, option_map, option_and_then}
use Rattle.std.specs.Cmp.{nat_cmp_total}
use Rattle.std.specs.Cmp.Lexicographic.{slice_cmp, nat_list_cmp_total}
use Rattle.std.specs.Ordering.{nat_cmp}
use Rattle.std.specs.FinMap.{empty, get, insert, len, len-insert, get-empty, nat_cmp-IsAntisymmetric}
use Rattle.dt_base.specs.declared.image.What.{What}
use Rattle.dt_base.specs.declared.image.What.TheVariants.{File, Dir, Link, Dev}
use Rattle.dt_base.specs.declared.limits.TheConstants.{FILE_LIMIT, MODE_LIMIT, LINK_MODE}
use Rattle.dt_base.specs.Profile.{file_limit, has_devices}
use Rattle.dt_base.specs.Image.{is_good_what, is_target}
use Rattle.dt_base.proofs.Profiles.{file_limit-most}
use Rattle.dt_host.specs.World.{Node, Names, file, dir, link, device, node_at, names_at, entry, dir_names, with_node, with_entry, IsLive, IsDir}
use Rattle.dt_tables.specs.inner.Weight.{weight}
use Rattle.dt_tables.proofs.Found.{none_there}
use Rattle.dt_tables.proofs.Maps.{at_insert, names_tie, get-insert_same, get-insert_other}
use Rattle.dt_host.proofs.Worlds.{node_at-with_node_other}
use Rattle.dt_host.proofs.Spots.{IsLive-IsDir, is_some-with_entry, len-with_entry, IsDir-with_new, entry-with_new, root-with_entry}
use Rattle.dt_tree.specs.declared.limits.TheConstants.{NAMES_LIMIT}
use Rattle.dt_tree.specs.Shape.{one_for, name_count_of, name_count, IsShaped}
use Rattle.dt_tree.specs.FileTree.{Attributes, FileTree, holds_of, is_entry_name, IsGoodNode, IsTreeBut, IsTree}
use Rattle.dt_tree.specs.Changes.{new_node, tree_with_new}
use Rattle.dt_tree.specs.inner.Created.{MayCreate}
use Rattle.dt_tree.proofs.Namings.{one_for-same, names_of-with_entry, names_of-with_new, name_count-with_entry, name_count-with_new}
use Rattle.dt_tree.proofs.Shapes.{shaped-with_new, removed-with_new, under-with_new, shaped-with_entry}

-- the next inode is none of a node
pub free_next : (lost : Option ℕ) (t : FileTree) → IsTreeBut lost t → node_at t.shape t.next ≡ None
free_next lost t s = by_found (node_at t.shape t.next) refl
  where
    by_found : (found : Option Node) → node_at t.shape t.next ≡ found → found ≡ None
    by_found None e = refl
    by_found (Some x) e = let low = s.fresh t.next (subst (λ found. IsSome found) (sym e) refl) in absurd (omega arith)

-- a new node has no entries
pub bare_new : (what : What) → unwrap_or (dir_names (new_node what)) empty ≡ empty
bare_new (File bytes) = refl
bare_new Dir = refl
bare_new (Link target) = refl
bare_new (Dev which) = refl

-- a good file is within the limit
below : (a b : ℕ) → nat_le a b ≡ true → a ≤ b
below a b h = grind (arith, nat_tests)

pub fits : (version : ℕ) (bytes : List ℕ) (mode : ℕ) → IsTrue (is_good_what version (File bytes) mode) → length bytes ≤ FILE_LIMIT
fits version bytes mode h =
    let parts = and_parts (nat_le (length bytes) (file_limit version)) (nat_le mode MODE_LIMIT) h in
    let few = below (length bytes) (file_limit version) parts.0 in
    let most = file_limit-most version in
    omega arith

good_new : (version : ℕ) (what : What) (mode : ℕ) → IsTrue (is_good_what version what mode) → IsGoodNode version (new_node what) mode
good_new version (File bytes) mode h =
    let parts = and_parts (nat_le (length bytes) (file_limit version)) (nat_le mode MODE_LIMIT) h in
    (below (length bytes) (file_limit version) parts.0, below mode MODE_LIMIT parts.1)
good_new version Dir mode h = (λ name some. absurd (none_there (get (empty {X = ℕ} {R = slice_cmp nat_cmp}) name) (get-empty (slice_cmp nat_cmp) name) some), grind (arith, nat_tests))
good_new version (Link target) mode h =
    let parts = and_parts (is_target target) (mode == LINK_MODE) h in
    (parts.0, grind (arith, nat_tests, parts.1))
good_new version (Dev which) mode h =
    let parts = and_parts (has_devices version) (nat_le mode MODE_LIMIT) h in
    (parts.0, below mode MODE_LIMIT parts.1)

module _ (t : FileTree) (d : ℕ) (name : List ℕ) (what : What) (mode stamp : ℕ) (s : IsTree t) (may : MayCreate t d name what mode) where
  free_node : node_at t.shape t.next ≡ None
  free_node = free_next None t s

  pub is_first : IsDir (with_node t.shape t.next (new_node what)) d
  is_first = IsDir-with_new t.shape t.next (new_node what) free_node (bare_new what) d may.is_dir

  pub free_first : entry (with_node t.shape t.next (new_node what)) d name ≡ None
  free_first = entry-with_new t.shape t.next (new_node what) free_node (bare_new what) d name ∙ may.free

  at_first : (P : Option Node → Type 0) (q : ℕ) → (q ≡ t.next → P (Some (new_node what))) → (q ≢ t.next → P (node_at t.shape q)) → P (node_at (with_node t.shape t.next (new_node what)) q)
  at_first P q = at_insert nat_cmp_total nat_cmp-IsAntisymmetric P t.shape.nodes t.next (new_node what) q

  low : t.next ≢ t.shape.root
  low e = let below = s.fresh t.shape.root (IsLive-IsDir t.shape t.shape.root s.shaped.root) in omega arith

  apart : d ≢ t.next
  apart e = let below = s.fresh d (IsLive-IsDir t.shape d may.is_dir) in omega arith

  shaped_both : IsShaped (with_entry (with_node t.shape t.next (new_node what)) d name t.next)
  shaped_both = shaped-with_entry (with_node t.shape t.next (new_node what)) (shaped-with_new t.shape s.shaped t.next (new_node what) free_node (bare_new what)) d name t.next is_first (under-with_new t.shape s.shaped t.next (new_node what) free_node (bare_new what) d may.under) free_first
      (at_first (λ found. IsSome found) t.next (λ _. refl) (λ apart. absurd (apart refl))) low (λ _. removed-with_new t.shape s.shaped t.next (new_node what) free_node (bare_new what))

  count : (n : ℕ) → name_count_of (with_entry (with_node t.shape t.next (new_node what)) d name t.next) n ≡ name_count_of t.shape n + one_for n t.next
  count n =
      let sum = names_of-with_entry (with_node t.shape t.next (new_node what)) d n name t.next in
      let none = ap (weight (one_for n)) free_first in
      let same = names_of-with_new t.shape t.next n (new_node what) free_node (bare_new what) in
      omega arith

  alive : (n : ℕ) → IsLive (with_entry (with_node t.shape t.next (new_node what)) d name t.next) n → n ≢ t.next → IsLive t.shape n
  alive n live apart = at_first (λ found. IsSome found → IsLive t.shape n) n (λ same. absurd (apart same)) (λ _ h. h) (by_found (node_at (with_entry (with_node t.shape t.next (new_node what)) d name t.next) n) (node_at (with_node t.shape t.next (new_node what)) n) (is_some-with_entry (with_node t.shape t.next (new_node what)) d name t.next is_first n) live)
    where
      by_found : (a b : Option Node) → is_some a ≡ is_some b → IsSome a → IsSome b
      by_found a None e h = cc
      by_found a (Some x) e h = refl

  both_there : (q : ℕ) → is_some (get (insert t.attributes t.next (record { mode = mode; stamp = stamp; holds = 0 })) q) ≡ is_some (node_at (with_node t.shape t.next (new_node what)) q)
  both_there q = at_insert nat_cmp_total nat_cmp-IsAntisymmetric (λ found. is_some found ≡ is_some (node_at (with_node t.shape t.next (new_node what)) q)) t.attributes t.next _ q
      (λ same. at_first (λ found. true ≡ is_some found) q (λ _. refl) (λ apart. absurd (apart same)))
      (λ apart. at_first (λ found. is_some (get t.attributes q) ≡ is_some found) q (λ same. absurd (apart same)) (λ _. s.same q))

  holds_still : (n : ℕ) → n ≢ t.next → unwrap_or (option_map (λ a. a.holds) (get (insert t.attributes t.next (record { mode = mode; stamp = stamp; holds = 0 })) n)) 0 ≡ holds_of t n
  holds_still n apart = ap (λ found. unwrap_or (option_map (λ a. a.holds) found) 0) (get-insert_other nat_cmp_total nat_cmp-IsAntisymmetric t.attributes t.next _ n apart)

  -- the names of the directory are good, the new one among them
  good_names : (names : Names) → node_at t.shape d ≡ Some (dir names) → (((c : List ℕ) → IsSome (get names c) → IsTrue (is_entry_name c)) → (c : List ℕ) → IsSome (get (insert (names_at (with_node t.shape t.next (new_node what)) d) name t.next) c) → IsTrue (is_entry_name c))
  unfolding names_at
  good_names names e old c = at_insert nat_list_cmp_total names_tie (λ found. IsSome found → IsTrue (is_entry_name c)) (names_at (with_node t.shape t.next (new_node what)) d) name t.next c
      (λ same _. subst (λ x. IsTrue (is_entry_name x)) (sym same) may.named)
      (λ _ h. old c (subst (λ found. IsSome (get (unwrap_or (option_and_then dir_names found) empty) c)) (node_at-with_node_other t.shape t.next (new_node what) d apart ∙ e) h))

  good_dir : (a : Attributes) → get t.attributes d ≡ Some a → IsGoodNode t.version (dir (insert (names_at (with_node t.shape t.next (new_node what)) d) name t.next)) a.mode
  good_dir a mark = by_node (node_at t.shape d) refl may.is_dir
    where
      by_node : (found : Option Node) → node_at t.shape d ≡ found → IsSome (option_and_then dir_names found) → IsGoodNode t.version (dir (insert (names_at (with_node t.shape t.next (new_node what)) d) name t.next)) a.mode
      by_node None e h = cc
      by_node (Some (file bytes)) e h = cc
      by_node (Some (link target)) e h = cc
      by_node (Some (device which)) e h = cc
      by_node (Some (dir names)) e h = let old = s.good d (dir names) a e mark in (good_names names e old.0, old.1)

  good_all : (n : ℕ) (node : Node) (a : Attributes) → node_at (with_entry (with_node t.shape t.next (new_node what)) d name t.next) n ≡ Some node → get (insert t.attributes t.next (record { mode = mode; stamp = stamp; holds = 0 })) n ≡ Some a → IsGoodNode t.version node a.mode
  unfolding with_entry
  good_all n node a = at_insert nat_cmp_total nat_cmp-IsAntisymmetric (λ found. found ≡ Some node → get (insert t.attributes t.next (record { mode = mode; stamp = stamp; holds = 0 })) n ≡ Some a → IsGoodNode t.version node a.mode) (with_node t.shape t.next (new_node what)).nodes d (dir (insert (names_at (with_node t.shape t.next (new_node what)) d) name t.next)) n
      (λ same e mark. subst (λ x. IsGoodNode t.version x a.mode) (same_Some _ _ e) (good_dir a (sym (get-insert_other nat_cmp_total nat_cmp-IsAntisymmetric t.attributes t.next _ d apart) ∙ ap (get (insert t.attributes t.next (record { mode = mode; stamp = stamp; holds = 0 }))) (sym same) ∙ mark)))
      (λ _. at_first (λ found. found ≡ Some node → get (insert t.attributes t.next (record { mode = mode; stamp = stamp; holds = 0 })) n ≡ Some a → IsGoodNode t.version node a.mode) n
      (λ same e mark. subst (λ x. IsGoodNode t.version x a.mode) (same_Some _ _ e) (subst (λ k. IsGoodNode t.version (new_node what) k) (same_mode a (sym (get-insert_same nat_cmp_total nat_cmp-IsAntisymmetric t.attributes t.next (record { mode = mode; stamp = stamp; holds = 0 })) ∙ ap (get (insert t.attributes t.next (record { mode = mode; stamp = stamp; holds = 0 }))) (sym same) ∙ mark)) (good_new t.version what mode may.good)))
      (λ other e mark. s.good n node a e (sym (get-insert_other nat_cmp_total nat_cmp-IsAntisymmetric t.attributes t.next _ n other) ∙ mark)))
    where
      same_mode : (a : Attributes) → Some (record { mode = mode; stamp = stamp; holds = 0 }) ≡ Some a → mode ≡ a.mode
      same_mode a e = ap (λ (found : Option Attributes). unwrap_or (option_map (λ (a : Attributes). a.mode) found) 0) e

  pub IsTree-created : name_count t.shape < NAMES_LIMIT → IsTree (tree_with_new t d name (new_node what) mode stamp)
  unfolding tree_with_new
  IsTree-created few_names = record {
    version = s.version;
    shaped = shaped_both;
    root = root-with_entry (with_node t.shape t.next (new_node what)) d name t.next ∙ s.root;
    same = λ q. both_there q ∙ sym (is_some-with_entry (with_node t.shape t.next (new_node what)) d name t.next is_first q);
    good = good_all;
    low = λ n live. elim (cases_eq n t.next) [
      | inl same ↦ let below = s.fresh t.shape.root (IsLive-IsDir t.shape t.shape.root s.shaped.root) in let top = s.low t.shape.root (IsLive-IsDir t.shape t.shape.root s.shaped.root) in omega arith
      | inr apart ↦ s.low n (alive n live apart)
    ];
    fresh = λ n live. elim (cases_eq n t.next) [
      | inl same ↦ omega arith
      | inr apart ↦ omega (arith, s.fresh n (alive n live apart))
    ];
    few = let more = len-with_entry (with_node t.shape t.next (new_node what)) d name t.next is_first in let new = len-insert nat_cmp_total t.shape.nodes t.next (new_node what) ∙ ap (λ found. cond (is_some found) (len t.shape.nodes) (len t.shape.nodes + 1)) free_node in let room = may.room in omega arith;
    few_names = let more = name_count-with_entry (with_node t.shape t.next (new_node what)) d name t.next free_first in let new = name_count-with_new t.shape t.next (new_node what) free_node (bare_new what) in omega arith;
    used = λ n live below _. elim (cases_eq n t.next) [
      | inl same ↦ let one = ap (one_for n) (sym same) ∙ one_for-same n in omega (arith, count n)
      | inr apart ↦ subst (λ h. 1 ≤ name_count_of (with_entry (with_node t.shape t.next (new_node what)) d name t.next) n + h) (sym (holds_still n apart)) (omega (arith, count n, s.used n (alive n live apart) below (λ e. cc)))
    ];
  }

  -- there is one node more
  pub len-created : (let new = tree_with_new t d name (new_node what) mode stamp in len new.shape.nodes ≡ len t.shape.nodes + 1)
  unfolding tree_with_new
  len-created = let more = len-with_entry (with_node t.shape t.next (new_node what)) d name t.next is_first in let new = len-insert nat_cmp_total t.shape.nodes t.next (new_node what) ∙ ap (λ found. cond (is_some found) (len t.shape.nodes) (len t.shape.nodes + 1)) free_node in omega arith
