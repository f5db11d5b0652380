-- What each call makes of a tree is a tree, and leaves what is held.
use Rattle.std.proofs.Common.{arith, ◌≡◌, ℕ, ◌≤◌, ◌<◌, cond, true, false, Bool, not, ◌&&◌, List, Option, Some, None, inl, inr, refl, sym, ap, subst, ◌∙◌}
use Rattle.std.proofs.lemmas.Bool.{cases_eq}
use Rattle.std.proofs.lemmas.Bool.Decides.{nat_tests}
use Rattle.std.specs.Prelude.{IsSome, IsTrue, IfSome, is_some, unwrap_or, option_map, option_and_then, ◌==◌}
use Rattle.std.specs.Ordering.{nat_cmp}
use Rattle.std.specs.Cmp.{nat_cmp_total}
use Rattle.std.specs.Cmp.Lexicographic.{slice_cmp}
use Rattle.std.specs.FinMap.{get, len, empty_of_len, get-empty, nat_cmp-IsAntisymmetric}
use Rattle.dt_base.specs.declared.image.What.{What}
use Rattle.dt_base.specs.declared.limits.TheConstants.{MODE_LIMIT}
use Rattle.dt_host.specs.World.{Forest, Node, Names, file, dir, link, device, node_at, dir_names, link_target, names_at, entry, with_node, with_entry, without_entry, IsDir, IsLive, IsBare}
use Rattle.dt_tables.specs.inner.Weight.{weight}
use Rattle.dt_tables.proofs.Maps.{get-insert_same, get-insert_other}
use Rattle.dt_host.proofs.Changes.{IsFile-bound, IsDevice-bound}
use Rattle.dt_host.proofs.Spots.{is_some-with_entry, len-with_entry, IsDir-with_entry, root-with_entry, IsFile-with_new, IsDevice-with_new, IsDir-with_new}
use Rattle.dt_host.proofs.Gone.{is_some-without_entry, len-without_entry, root-without_entry, IsDir-without_entry, IsFile-without_entry, IsDevice-without_entry, without_entry-none}
use Rattle.dt_tree.specs.declared.limits.TheConstants.{NAMES_LIMIT}
use Rattle.dt_tree.specs.Shape.{one_for, name_count_of, name_count, is_dir, is_link, is_bare, is_removed, IsShaped, IsUnder}
use Rattle.dt_tree.specs.FileTree.{Attributes, FileTree, is_entry_name, holds_of, IsGoodNode, IsTree, IsTreeBut}
use Rattle.dt_tree.specs.Changes.{with_shape, with_attributes, with_mode, tree_with_stamp, without_unused, without_unused_found, new_node, with_nameless, tree_with_new, tree_after_make, tree_after_link, tree_after_unlink, tree_after_chmod, attributes_with_hold, attributes_without_hold, tree_after_hold, tree_after_release}
use Rattle.dt_tree.specs.Calls.{KeepsHeld}
use Rattle.dt_tree.specs.inner.Created.{MayCreate}
use Rattle.dt_tree.proofs.Namings.{named, weight_zero, names_of-with_entry, names_of-without_entry, name_count-with_entry, name_count-without_entry}
use Rattle.dt_tree.proofs.Shapes.{itself, shaped-with_entry, shaped-without_entry}
use Rattle.dt_tree.proofs.Trees.{free_next, bare_new, is_first}
use Rattle.dt_tree.proofs.Changing.{IsTreeBut-with_attributes, IsTreeBut-stamped, IsTreeBut-with_shape, IsTreeBut-released, IsTree-swept, IsTree-swept_found}
use Rattle.dt_tree.proofs.GoodNodes.{good-with_entry, good-without_entry}
use Rattle.dt_tree.proofs.Holding.{KeepsHeld-then, KeepsHeld-with_attributes, KeepsHeld-stamped, KeepsHeld-with_shape, KeepsHeld-swept_found}

-- a directory that isn't removed is below the root
pub under_if_there : (v : Forest) → IsShaped v → (d : ℕ) → IsDir v d → is_removed v d ≡ false → IsUnder v d
under_if_there v s d is there = elim (s.placed d is) [
  | inl under ↦ under
  | inr removed ↦ elim (cases_eq d v.root) [
    | inl top ↦ subst (λ x. IsUnder v x) (sym top) (itself v v.root)
    | inr apart ↦ absurd (clash (by_parts (d == v.root) (name_count_of v d == 0) (grind (arith, nat_tests)) (let none = removed.nameless in grind (arith, nat_tests))) there)
  ]
]
  where
    by_parts : (a b : Bool) → a ≡ false → b ≡ true → (not a && b) ≡ true
    by_parts true b p q = cc
    by_parts false true p q = refl
    by_parts false false p q = cc

    clash : is_removed v d ≡ true → is_removed v d ≡ false → ⊥
    clash a b = cc

-- an empty directory has no entries
pub bare_if_empty : (v : Forest) (d : ℕ) → is_bare v d ≡ true → IsBare v d
unfolding entry
bare_if_empty v d e name =
    let none : len (names_at v d) ≡ 0 = grind (arith, nat_tests) in
    ap (λ names. get names name) (empty_of_len (names_at v d) none) ∙ get-empty (slice_cmp nat_cmp) name

pub not_dir : (v : Forest) (n : ℕ) → is_dir v n ≡ false → IsDir v n → ⊥
not_dir v n e is = by_found (option_and_then dir_names (node_at v n)) e is
  where
    by_found : (found : Option Names) → is_some found ≡ false → IsSome found → ⊥
    by_found None e h = cc
    by_found (Some x) e h = cc

-- what a directory names is still there where all nodes are
pub named_live : (t : FileTree) → IsTree t → (w : Forest) → ((n : ℕ) → IsLive t.shape n → IsLive w n) → (d : ℕ) (name : List ℕ) (found : Option ℕ) → found ≡ entry t.shape d name → IfSome found (IsLive w)
named_live t s w stays d name None e = tt
named_live t s w stays d name (Some n) e = stays n (s.shaped.named n (named t.shape d n name (sym e)))

-- link(2)
pub linked-is : (t : FileTree) (d : ℕ) (name : List ℕ) (m stamp : ℕ) → tree_after_link t d name m stamp ≡ tree_with_stamp (with_shape t (with_entry t.shape d name m)) d stamp
unfolding tree_after_link
linked-is t d name m stamp = refl

module _ (t : FileTree) (d : ℕ) (name : List ℕ) (m stamp : ℕ) (s : IsTree t) (is : IsDir t.shape d) (under : IsUnder t.shape d) (free : entry t.shape d name ≡ None) (good : IsTrue (is_entry_name name)) (live : IsLive t.shape m) (other : is_dir t.shape m ≡ false) where
  pub IsTree-linked : name_count t.shape < NAMES_LIMIT → IsTree (tree_after_link t d name m stamp)
  unfolding tree_after_link
  IsTree-linked room =
      let no_dir = not_dir t.shape m other in
      IsTreeBut-stamped None _ d stamp
      (IsTreeBut-with_shape None t (with_entry t.shape d name m) s
      (shaped-with_entry t.shape s.shaped d name m is under free live (λ same. no_dir (subst (IsDir t.shape) (sym same) s.shaped.root)) (λ h. absurd (no_dir h)))
      (root-with_entry t.shape d name m)
      (is_some-with_entry t.shape d name m is)
      (len-with_entry t.shape d name m is)
      (good-with_entry t.version t.shape t.attributes s.good d is name m good)
      (let more = name_count-with_entry t.shape d name m free in omega arith)
      (λ n _. let sum = names_of-with_entry t.shape d n name m in let none = ap (weight (one_for n)) free in omega arith))

  pub KeepsHeld-linked : KeepsHeld t (tree_after_link t d name m stamp)
  unfolding tree_after_link
  KeepsHeld-linked = KeepsHeld-then t (with_shape t (with_entry t.shape d name m)) (tree_after_link t d name m stamp)
      (KeepsHeld-with_shape t (with_entry t.shape d name m) (λ n h. IsFile-bound t.shape d name m n is h) (IsDir-with_entry t.shape d name m) (λ n h. IsDevice-bound t.shape d name m n is h))
      (KeepsHeld-stamped (with_shape t (with_entry t.shape d name m)) d stamp)

-- unlink(2) and rmdir(2)
pub unlinked-is : (t : FileTree) (d : ℕ) (name : List ℕ) (stamp : ℕ) (found : Option ℕ) → found ≡ entry t.shape d name → tree_after_unlink t d name stamp ≡ without_unused_found found (tree_with_stamp (with_shape t (without_entry t.shape d name)) d stamp)
unfolding tree_after_unlink
unlinked-is t d name stamp found e = ap (λ found. without_unused_found found (tree_with_stamp (with_shape t (without_entry t.shape d name)) d stamp)) (sym e)

module _ (t : FileTree) (d : ℕ) (name : List ℕ) (stamp : ℕ) (s : IsTree t) (is : IsDir t.shape d) where
  -- before the sweep
  pub IsTreeBut-unlinked : (found : Option ℕ) → found ≡ entry t.shape d name → IfSome found (λ m. IsDir t.shape m → is_bare t.shape m ≡ true) → IsTreeBut found (tree_with_stamp (with_shape t (without_entry t.shape d name)) d stamp)
  IsTreeBut-unlinked None e bare = IsTreeBut-stamped None _ d stamp (subst (λ v. IsTreeBut None (with_shape t v)) (sym (without_entry-none t.shape d name is (sym e))) s)
  IsTreeBut-unlinked (Some m) e bare =
      IsTreeBut-stamped (Some m) _ d stamp
      (IsTreeBut-with_shape (Some m) t (without_entry t.shape d name) s
      (shaped-without_entry t.shape s.shaped d name m (sym e) (λ h. bare_if_empty t.shape m (bare h)))
      (root-without_entry t.shape d name)
      (is_some-without_entry t.shape d name is)
      (len-without_entry t.shape d name is)
      (good-without_entry t.version t.shape t.attributes s.good d is name)
      (let less = name_count-without_entry t.shape d name m (sym e) in omega (arith, s.few_names))
      (λ n apart. let sum = names_of-without_entry t.shape d n name in let none = ap (weight (one_for n)) (sym e) ∙ weight_zero n (Some m) apart in omega arith))

  pub IsTree-unlinked : (found : Option ℕ) → found ≡ entry t.shape d name → IfSome found (λ m. IsDir t.shape m → is_bare t.shape m ≡ true) → IsTree (tree_after_unlink t d name stamp)
  IsTree-unlinked found e bare = subst IsTree (sym (unlinked-is t d name stamp found e)) (IsTree-swept_found _ found (IsTreeBut-unlinked found e bare))

  pub KeepsHeld-unlinked : (found : Option ℕ) → found ≡ entry t.shape d name → IfSome found (λ m. IsDir t.shape m → is_bare t.shape m ≡ true) → KeepsHeld t (tree_after_unlink t d name stamp)
  KeepsHeld-unlinked found e bare =
      let cut : FileTree = with_shape t (without_entry t.shape d name) in
      subst (λ t2. KeepsHeld t t2) (sym (unlinked-is t d name stamp found e))
      (KeepsHeld-then t (tree_with_stamp cut d stamp) (without_unused_found found (tree_with_stamp cut d stamp))
      (KeepsHeld-then t cut (tree_with_stamp cut d stamp)
      (KeepsHeld-with_shape t (without_entry t.shape d name) (IsFile-without_entry t.shape d name is) (IsDir-without_entry t.shape d name) (IsDevice-without_entry t.shape d name is))
      (KeepsHeld-stamped cut d stamp))
      (KeepsHeld-swept_found (tree_with_stamp cut d stamp) found (IsTreeBut-unlinked found e bare)))

-- mkdir(2), symlink(2), and a file that is made
module _ (t : FileTree) (d : ℕ) (name : List ℕ) (what : What) (mode stamp : ℕ) where
  pub made-is : tree_after_make t d name what mode stamp ≡ tree_with_stamp (tree_with_new t d name (new_node what) mode stamp) d stamp
  unfolding tree_after_make
  made-is = refl

  pub IsTree-made : IsTree (tree_with_new t d name (new_node what) mode stamp) → IsTree (tree_after_make t d name what mode stamp)
  unfolding tree_after_make
  IsTree-made s = IsTreeBut-stamped None _ d stamp s

  module _ (s : IsTree t) (may : MayCreate t d name what mode) where
    pub IsDir-created : (let new = tree_with_new t d name (new_node what) mode stamp in IsDir new.shape d)
    unfolding tree_with_new
    IsDir-created = IsDir-with_entry (with_node t.shape t.next (new_node what)) d name t.next d (is_first t d name what mode stamp s may)

    free_attributes : get t.attributes t.next ≡ None
    free_attributes = by_found (get t.attributes t.next) (node_at t.shape t.next) (s.same t.next) (free_next None t s)
      where
        by_found : (a : Option Attributes) (b : Option Node) → is_some a ≡ is_some b → b ≡ None → a ≡ None
        by_found None b e f = refl
        by_found (Some a) None e f = cc
        by_found (Some a) (Some b) e f = cc

    KeepsHeld-with_made : KeepsHeld t (with_nameless t (new_node what) mode stamp)
    KeepsHeld-with_made = record {
      holds = λ q. elim (cases_eq q t.next) [
        | inl same ↦
            ap (λ x. holds_of (with_nameless t (new_node what) mode stamp) x) same
            ∙ ap (λ found. unwrap_or (option_map (λ (a : Attributes). a.holds) found) 0) (get-insert_same nat_cmp_total nat_cmp-IsAntisymmetric t.attributes t.next (record { mode = mode; stamp = stamp; holds = 0 }))
            ∙ sym (ap (λ x. holds_of t x) same ∙ ap (λ found. unwrap_or (option_map (λ (a : Attributes). a.holds) found) 0) free_attributes)
        | inr apart ↦ ap (λ found. unwrap_or (option_map (λ (a : Attributes). a.holds) found) 0) (get-insert_other nat_cmp_total nat_cmp-IsAntisymmetric t.attributes t.next (record { mode = mode; stamp = stamp; holds = 0 }) q apart)
      ];
      files = λ q _ h. IsFile-with_new t.shape t.next (new_node what) (free_next None t s) (bare_new what) q h;
      dirs = λ q _ h. IsDir-with_new t.shape t.next (new_node what) (free_next None t s) (bare_new what) q h;
      devices = λ q _ h. IsDevice-with_new t.shape t.next (new_node what) (free_next None t s) (bare_new what) q h;
    }

    pub KeepsHeld-made : KeepsHeld t (tree_after_make t d name what mode stamp)
    unfolding tree_after_make tree_with_new
    KeepsHeld-made =
        let new : FileTree = with_nameless t (new_node what) mode stamp in
        let is = is_first t d name what mode stamp s may in
        KeepsHeld-then t new (tree_after_make t d name what mode stamp) KeepsHeld-with_made
        (KeepsHeld-then new (with_shape new (with_entry new.shape d name t.next)) (tree_after_make t d name what mode stamp)
        (KeepsHeld-with_shape new (with_entry new.shape d name t.next) (λ n h. IsFile-bound new.shape d name t.next n is h) (IsDir-with_entry new.shape d name t.next) (λ n h. IsDevice-bound new.shape d name t.next n is h))
        (KeepsHeld-stamped (with_shape new (with_entry new.shape d name t.next)) d stamp))

-- chmod(2)
pub IsTree-chmodded : (t : FileTree) (n mode : ℕ) → IsTree t → is_link t.shape n ≡ false → mode ≤ MODE_LIMIT → IsTree (tree_after_chmod t n mode)
IsTree-chmodded t n mode s no_link low = IsTreeBut-with_attributes t n (with_mode mode) None s (λ node a at good. by_node node a.mode (ap (λ found. is_some (option_and_then link_target found)) (sym at) ∙ no_link) good) (λ _ a. omega arith)
  where
    by_node : (node : Node) (was : ℕ) → is_some (link_target node) ≡ false → IsGoodNode t.version node was → IsGoodNode t.version node mode
    by_node (file bytes) was e good = (good.0, low)
    by_node (dir names) was e good = (good.0, low)
    by_node (link target) was e good = cc
    by_node (device which) was e good = (good.0, low)

pub KeepsHeld-chmodded : (t : FileTree) (n mode : ℕ) → KeepsHeld t (tree_after_chmod t n mode)
KeepsHeld-chmodded t n mode = KeepsHeld-with_attributes t n (with_mode mode) (λ a. refl)

-- a hold
pub IsTree-held : (t : FileTree) (n : ℕ) → IsTree t → IsTree (tree_after_hold t n)
IsTree-held t n s = IsTreeBut-with_attributes t n attributes_with_hold None s (λ node a _ good. good) (λ _ a. omega arith)

-- the end of a hold
pub released-is : (t : FileTree) (n : ℕ) → tree_after_release t n ≡ without_unused (with_attributes t n attributes_without_hold) n
unfolding tree_after_release
released-is t n = refl

pub IsTree-released : (t : FileTree) (n : ℕ) → IsTree t → IsTree (tree_after_release t n)
unfolding tree_after_release
IsTree-released t n s = IsTree-swept _ n (IsTreeBut-released t n s)

-- the tests of a call, in turn
pub second_case : {A : Type 0} (a b : Bool) (x y z : A) → a ≡ false → b ≡ true → cond a x (cond b y z) ≡ y
second_case true b x y z p q = cc
second_case false true x y z p q = refl
second_case false false x y z p q = cc

pub last_case : {A : Type 0} (a b : Bool) (x y z : A) → a ≡ false → b ≡ false → cond a x (cond b y z) ≡ z
last_case true b x y z p q = cc
last_case false true x y z p q = cc
last_case false false x y z p q = refl
