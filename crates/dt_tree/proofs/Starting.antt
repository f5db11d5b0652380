-- At the start the tree is a root without entries, and stands for the host's.
use Rattle.std.proofs.Common.{arith, ◌≡◌, ◌≢◌, ℕ, ◌+◌, List, [], cond, true, false, Option, Some, None, inl, refl, sym, ap, subst, ◌∙◌}
use Rattle.std.proofs.lemmas.Option.{same_Some}
use Rattle.std.specs.Prelude.{IsTrue, IsSome, is_some, unwrap_or, option_map, option_and_then}
use Rattle.std.specs.Ordering.{nat_cmp}
use Rattle.std.specs.Cmp.{IsTotalOrder, nat_cmp_total}
use Rattle.std.specs.Cmp.Lexicographic.{slice_cmp, nat_list_cmp_total}
use Rattle.std.specs.declared.cmp.Ordering.{Ordering}
use Rattle.std.specs.FinMap.{IsAntisymmetric, empty, get, insert, from_entries, get-from_entries, len, len-insert, len-empty, get-empty, same_map, nat_cmp-IsAntisymmetric}
use Rattle.dt_base.specs.Profile.{is_version}
use Rattle.dt_host.specs.World.{Forest, Node, file, dir, node_at, dir_names, names_at, entry, empty_forest, IsDir, IsLive}
use Rattle.dt_tables.specs.Values.{map_values}
use Rattle.dt_tables.proofs.Found.{none_there, not_both}
use Rattle.dt_tables.proofs.Maps.{at_insert, names_tie, get-insert_same}
use Rattle.dt_tables.proofs.Totals.{total-insert, total-empty}
use Rattle.dt_tables.proofs.Valued.{get-map_values, map_values-insert}
use Rattle.dt_tree.specs.declared.inode.Kind.TheVariants.{Dir}
use Rattle.dt_tree.specs.declared.inode.Inode.{Inode}
use Rattle.dt_tree.specs.Shape.{one_for, entry_count_for, name_count_of, name_count, IsBelow, IsShaped}
use Rattle.dt_tree.specs.FileTree.{Attributes, FileTree, IsGoodNode, IsTree}
use Rattle.dt_tree.specs.ImageTree.{names_below, image_nodes, image_attributes, image_tree, root_tree, start_attributes}
use Rattle.dt_tree.specs.Table.{vino_of, real_of, renumbered_node, node_for, shape_of, attributes_of, tree_of, kind_of, IsUp, IsInodeOf, IsMirror, Stands, Table}
use Rattle.dt_tree.specs.inner.Tables.{root_table, with_version}
use Rattle.dt_tree.proofs.Shapes.{itself}
use Rattle.dt_tree.proofs.Admitting.{renumbered-bare}

-- the tree of a root without entries
abbrev pub bare_tree : ℕ → FileTree
bare_tree version = record { shape = empty_forest 1; attributes = insert empty 1 (start_attributes 493); next = 2; version = version }

no_pairs : {K X : Type 0} {R : K → K → Ordering} → IsTotalOrder R → IsAntisymmetric R → from_entries {X = X} {R = R} [] ≡ empty
no_pairs {R = R} o same = same_map o same _ _ (λ q. get-from_entries o [] q ∙ sym (get-empty R q))

pub image_tree-nil : (version : ℕ) → image_tree (record { version = version; entries = [] }) ≡ bare_tree version
unfolding image_nodes image_attributes names_below
image_tree-nil version =
    let nodes = ap (λ m. insert m 1 (dir (from_entries []))) (no_pairs {X = Node} nat_cmp_total nat_cmp-IsAntisymmetric) ∙ ap (λ names. insert empty 1 (dir names)) (no_pairs nat_list_cmp_total names_tie) in
    let attributes = ap (λ m. insert m 1 (start_attributes 493)) (no_pairs {X = Attributes} nat_cmp_total nat_cmp-IsAntisymmetric) in
    λ i. record { shape = record { nodes = nodes i; root = 1 }; attributes = attributes i; next = 2; version = version }

-- a map of one entry
at_only : {X : Type 0} (P : Option X → Type 0) (k : ℕ) (x : X) (q : ℕ) → (q ≡ k → P (Some x)) → (q ≢ k → P None) → P (get (insert (empty {R = nat_cmp}) k x) q)
at_only P k x q here there = at_insert nat_cmp_total nat_cmp-IsAntisymmetric P (empty {R = nat_cmp}) k x q here (λ apart. subst P (sym (get-empty nat_cmp q)) (there apart))

pub no_entries : (root d : ℕ) (name : List ℕ) → entry (empty_forest root) d name ≡ None
unfolding entry names_at
no_entries root d name = at_only (λ found. get (unwrap_or (option_and_then dir_names found) empty) name ≡ None) root (dir empty) d (λ _. get-empty (slice_cmp nat_cmp) name) (λ _. get-empty (slice_cmp nat_cmp) name)

pub no_names : (root n : ℕ) → name_count_of (empty_forest root) n ≡ 0
unfolding name_count_of
no_names root n =
    let sum = total-insert nat_cmp_total (entry_count_for n) (empty {R = nat_cmp}) root (dir empty) in
    let none = total-empty nat_cmp_total (entry_count_for n) in
    let bare = total-empty nat_list_cmp_total (one_for n) in
    omega arith

only_root : (root n : ℕ) → IsLive (empty_forest root) n → n ≡ root
only_root root n = at_only (λ found. IsSome found → n ≡ root) root (dir empty) n (λ e _. e) (λ _ h. cc)

is_root : (root : ℕ) → IsDir (empty_forest root) root
is_root root = at_only (λ found. IsSome (option_and_then dir_names found)) root (dir empty) root (λ _. refl) (λ apart. absurd (apart refl))

pub shaped_start : (root : ℕ) → IsShaped (empty_forest root)
shaped_start root = record {
  root = is_root root;
  named = λ n h. let none = no_names root n in absurd (omega arith);
  unnamed = no_names root root;
  once = λ n _. let none = no_names root n in omega arith;
  placed = λ n is. inl (subst (λ x. IsBelow (empty_forest root) n x) (at_only (λ found. IsSome (option_and_then dir_names found) → n ≡ root) root (dir empty) n (λ e _. e) (λ _ h. cc) is) (itself (empty_forest root) n));
}

pub no_name_count : (root : ℕ) → name_count (empty_forest root) ≡ 0
unfolding name_count
no_name_count root =
    let sum = total-insert nat_cmp_total (λ node. len (unwrap_or (dir_names node) empty)) (empty {R = nat_cmp}) root (dir empty) in
    let none = total-empty nat_cmp_total (λ node. len (unwrap_or (dir_names node) empty)) in
    let bare = len-empty (slice_cmp nat_cmp) ℕ in
    omega arith

good_root : (version : ℕ) (n : ℕ) (node : Node) (a : Attributes) → node_at (empty_forest 1) n ≡ Some node → get (insert (empty {R = nat_cmp}) 1 (start_attributes 493)) n ≡ Some a → IsGoodNode version node a.mode
good_root version n node a = at_only (λ found. found ≡ Some node → get (insert (empty {R = nat_cmp}) 1 (start_attributes 493)) n ≡ Some a → IsGoodNode version node a.mode) 1 (dir empty) n
    (λ same e. at_only (λ found. found ≡ Some a → IsGoodNode version node a.mode) 1 (start_attributes 493) n
    (λ _ h. subst (λ x. IsGoodNode version x a.mode) (same_Some (dir empty) node e) (subst (λ k. IsGoodNode version (dir empty) k) (ap (λ (found : Option Attributes). unwrap_or (option_map (λ (a : Attributes). a.mode) found) 0) h) (λ name some. absurd (none_there (get (empty {X = ℕ} {R = slice_cmp nat_cmp}) name) (get-empty (slice_cmp nat_cmp) name) some), omega arith)))
    (λ _ h. cc))
    (λ _ e. cc)

pub one_node : len (empty_forest 1).nodes ≡ 1
one_node = let size = len-insert nat_cmp_total (empty {X = Node} {R = nat_cmp}) 1 (dir empty) ∙ ap (λ found. cond (is_some found) (len (empty {X = Node} {R = nat_cmp})) (len (empty {X = Node} {R = nat_cmp}) + 1)) (get-empty nat_cmp 1) in let none = len-empty nat_cmp Node in omega arith

pub IsTree-start : (version : ℕ) → IsTrue (is_version version) → IsTree (bare_tree version)
IsTree-start version known = record {
  version = known;
  shaped = shaped_start 1;
  root = refl;
  same = λ n. at_only (λ found. is_some found ≡ is_some (node_at (empty_forest 1) n)) 1 _ n
      (λ e. at_only (λ found. true ≡ is_some found) 1 (dir empty) n (λ _. refl) (λ apart. absurd (apart e)))
      (λ apart. at_only (λ found. false ≡ is_some found) 1 (dir empty) n (λ e. absurd (apart e)) (λ _. refl));
  good = good_root version;
  low = λ n live. let e = only_root 1 n live in omega arith;
  fresh = λ n live. let e = only_root 1 n live in omega arith;
  few = omega (arith, one_node);
  few_names = let none = no_name_count 1 in omega arith;
  used = λ n live low _. absurd (low (only_root 1 n live));
}

module _ (root : ℕ) (inode : Inode) (real : inode.real ≡ root) (bare : inode.names ≡ 0) (up : inode.up ≡ None) (kind : inode.kind ≡ Dir) where
  no_values : {X Y : Type 0} (f : X → Y) → map_values f (empty {R = nat_cmp}) ≡ empty
  no_values f = same_map nat_cmp_total nat_cmp-IsAntisymmetric _ _ (λ q. get-map_values nat_cmp_total f empty q ∙ ap (option_map f) (get-empty nat_cmp q) ∙ sym (get-empty nat_cmp q))

  pub shape_start : shape_of (root_table inode) (empty_forest root) ≡ empty_forest 1
  unfolding shape_of
  shape_start = ap (λ nodes. record { nodes = nodes; root = 1 })
      (map_values-insert nat_cmp_total (node_for (root_table inode) (empty_forest root)) nat_cmp-IsAntisymmetric empty 1 inode
      ∙ ap (λ m. insert m 1 (node_for (root_table inode) (empty_forest root) inode)) (no_values (node_for (root_table inode) (empty_forest root)))
      ∙ ap (insert empty 1) (ap (λ found. renumbered_node (vino_of (root_table inode)) (unwrap_or found (file []))) (ap (node_at (empty_forest root)) real ∙ get-insert_same nat_cmp_total nat_cmp-IsAntisymmetric empty root (dir empty)) ∙ renumbered-bare (vino_of (root_table inode)) (dir empty) refl))

  pub tree_start : attributes_of inode ≡ start_attributes 493 → tree_of (root_table inode) (empty_forest root) ≡ bare_tree 1
  tree_start mark =
      let shape = shape_start in
      let attributes = map_values-insert nat_cmp_total attributes_of nat_cmp-IsAntisymmetric empty 1 inode ∙ ap (λ m. insert m 1 (attributes_of inode)) (no_values attributes_of) ∙ ap (insert empty 1) mark in
      λ i. record { shape = shape i; attributes = attributes i; next = 2; version = 1 }

  pub mirrors_start : IsMirror (root_table inode) (empty_forest root)
  mirrors_start = record {
    pairs = record {
      forth = λ n other. at_only (λ found. found ≡ Some other → get (insert (empty {R = nat_cmp}) inode.real 1) other.real ≡ Some n) 1 inode n
          (λ e h. let same : inode.real ≡ other.real = cc in ap (get (insert (empty {R = nat_cmp}) inode.real 1)) (sym same) ∙ get-insert_same nat_cmp_total nat_cmp-IsAntisymmetric empty inode.real 1 ∙ ap Some (sym e))
          (λ _ h. cc);
      back = λ r n. at_only (λ found. found ≡ Some n → real_of (root_table inode) n ≡ Some r) inode.real 1 r
          (λ e h. let same : 1 ≡ n = cc in ap (real_of (root_table inode)) (sym same) ∙ ap (option_map (λ (inode : Inode). inode.real)) (get-insert_same nat_cmp_total nat_cmp-IsAntisymmetric empty 1 inode) ∙ ap Some (sym e))
          (λ _ h. cc);
      live = λ r. at_only (λ found. is_some found ≡ is_some (node_at (empty_forest root) r)) inode.real 1 r
          (λ e. at_only (λ found. true ≡ is_some found) root (dir empty) r (λ _. refl) (λ apart. absurd (apart (e ∙ real))))
          (λ apart. at_only (λ found. false ≡ is_some found) root (dir empty) r (λ e. absurd (apart (e ∙ sym real))) (λ _. refl));
      closed = λ d r name e. absurd (not_both _ r (no_entries root d name) e);
      root = ap (option_map (λ (inode : Inode). inode.real)) (get-insert_same nat_cmp_total nat_cmp-IsAntisymmetric empty 1 inode) ∙ ap Some real;
    };
    kept = λ n other e. subst (λ shape. IsInodeOf shape n other) (sym shape_start) (at_only (λ found. found ≡ Some other → IsInodeOf (empty_forest 1) n other) 1 inode n
        (λ at h. let same : inode ≡ other = cc in subst (λ x. IsInodeOf (empty_forest 1) x other) (sym at) (subst (IsInodeOf (empty_forest 1) 1) same (record {
          kind = ap (option_map kind_of) (get-insert_same nat_cmp_total nat_cmp-IsAntisymmetric empty 1 (dir empty)) ∙ ap Some (sym kind);
          names = bare ∙ sym (no_names 1 1);
          up = λ _. subst (IsUp (empty_forest 1) 1) (sym up) (no_names 1 1);
        })))
        (λ _ h. cc) e);
    counted = sym (ap (λ shape. name_count shape) shape_start ∙ no_name_count 1);
  }

-- an image of another version begins with the same tree, but for the version
module _ (t : Table) (v : Forest) (version : ℕ) (new : tree_of t v ≡ root_tree) where
  pub tree_versioned : tree_of (with_version t version) v ≡ image_tree (record { version = version; entries = [] })
  unfolding shape_of
  tree_versioned = ap (λ (t : FileTree). record t { version = version }) (new ∙ image_tree-nil 1) ∙ sym (image_tree-nil version)

  mirrors_versioned : IsMirror t v → IsMirror (with_version t version) v
  unfolding shape_of
  mirrors_versioned s = record { pairs = record { forth = s.pairs.forth; back = s.pairs.back; live = s.pairs.live; closed = s.pairs.closed; root = s.pairs.root }; kept = s.kept; counted = s.counted }

  pub stands_versioned : IsTrue (is_version version) → Stands t v → Stands (with_version t version) v
  stands_versioned known s = record {
    mirrors = mirrors_versioned s.mirrors;
    tree = subst IsTree (sym (tree_versioned ∙ image_tree-nil version)) (IsTree-start version known);
  }
