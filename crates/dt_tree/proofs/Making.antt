-- The steps by which a node is made.
use Rattle.std.proofs.Common.{◌≡◌, ℕ, ◌+◌, List, [], ◌++◌, length, Option, Some, None, refl, sym, ap, subst, ◌∙◌, append-nil}
use Rattle.std.proofs.Math.Seq.{drop-nil}
use Rattle.std.specs.Prelude.{IsSome, unwrap_or, option_map}
use Rattle.std.specs.Cmp.{nat_cmp_total}
use Rattle.std.specs.FinMap.{empty, get, insert, nat_cmp-IsAntisymmetric}
use Rattle.dt_base.specs.Bytes.{with_bytes_at}
use Rattle.dt_host.specs.declared.kind.NodeKind.TheVariants.{File}
use Rattle.dt_host.specs.World.{World, Forest, Node, file, node_at, dir_names, with_node, with_entry, with_forest, with_bytes, IsLive}
use Rattle.dt_host.specs.Legal.{MadeAt, with_write}
use Rattle.dt_tables.specs.Values.{map_values}
use Rattle.dt_tables.proofs.Maps.{insert_same, get-insert_same}
use Rattle.dt_host.proofs.Changes.{content-made}
use Rattle.dt_tree.specs.declared.inode.Inode.{Inode}
use Rattle.dt_tree.specs.Shape.{name_count_of, name_count}
use Rattle.dt_tree.specs.FileTree.{FileTree, IsTree}
use Rattle.dt_tree.specs.Table.{Table, shape_of, attributes_of, tree_of, kind_of, node_for, IsMirror, Stands}
use Rattle.dt_tree.specs.inner.Tables.{with_new}
use Rattle.dt_tree.specs.Changes.{with_nameless, with_shape, tree_with_new}
use Rattle.dt_tree.specs.inner.Created.{IsMadeAt}
use Rattle.dt_tree.proofs.Namings.{name_count-with_new}
use Rattle.dt_tree.proofs.Shapes.{nameless_if_free}
use Rattle.dt_tree.proofs.Trees.{free_next}
use Rattle.dt_tree.proofs.Mirroring.{node_at-shape}
use Rattle.dt_tree.proofs.Admitting.{mirrors-new, tree-new}

-- a file made empty and then written is made with its bytes
pub made_file : (old mid new : World) (n : ℕ) (bytes : List ℕ) → MadeAt old File mid n → new ≡ with_write mid n 0 bytes → IsMadeAt old (file bytes) new n
unfolding with_bytes
made_file old mid new n bytes at e = record {
  free = at.free;
  made = e
      ∙ ap (λ found. with_forest mid (with_node mid.forest n (file (with_bytes_at found 0 bytes)))) (content-made old mid n at)
      ∙ ap (λ xs. with_forest mid (with_node mid.forest n (file xs))) (whole bytes)
      ∙ ap (λ w. with_forest w (with_node w.forest n (file bytes))) at.made
      ∙ ap (λ nodes. with_forest old (record old.forest { nodes = nodes })) (insert_same nat_cmp_total nat_cmp-IsAntisymmetric old.forest.nodes n (file []) (file bytes));
}
  where
    whole : (bytes : List ℕ) → with_bytes_at [] 0 bytes ≡ bytes
    whole bytes = ap (λ (xs : List ℕ). bytes ++ xs) (drop-nil (0 + length bytes)) ∙ append-nil bytes

module _ (t : Table) (v : Forest) (inode : Inode) (node : Node) (s : Stands t v) (free_real : node_at v inode.real ≡ None) (bare : unwrap_or (dir_names node) empty ≡ empty) where
  free_inode : get t.inodes t.next ≡ None
  free_inode = by_found (get t.inodes t.next) (sym (node_at-shape t v t.next) ∙ free_next None (tree_of t v) s.tree)
    where
      by_found : (found : Option Inode) → option_map (node_for t v) found ≡ None → found ≡ None
      by_found None e = refl
      by_found (Some x) e = cc

  nameless : name_count_of (shape_of t v) t.next ≡ 0
  nameless = nameless_if_free (shape_of t v) s.tree.shaped t.next node (free_next None (tree_of t v) s.tree) bare

  pub mirrors_made : inode.names ≡ 0 → inode.up ≡ None → kind_of node ≡ inode.kind → IsMirror (with_new t inode) (with_node v inode.real node)
  mirrors_made names up kind = mirrors-new t v inode node s.mirrors free_inode free_real bare nameless names up kind

  pub tree_made : tree_of (with_new t inode) (with_node v inode.real node) ≡ record { shape = with_node (shape_of t v) t.next node; attributes = insert (map_values attributes_of t.inodes) t.next (attributes_of inode); next = t.next + 1; version = t.version }
  tree_made = tree-new t v inode node s.mirrors free_inode free_real bare

-- a new node brings no names
pub names-made : (t : FileTree) (node : Node) → IsTree t → unwrap_or (dir_names node) empty ≡ empty → name_count (with_node t.shape t.next node) ≡ name_count t.shape
names-made t node s bare = name_count-with_new t.shape t.next node (free_next None t s) bare

pub live_made : (t : FileTree) (node : Node) → IsLive (with_node t.shape t.next node) t.next
live_made t node = subst (λ found. IsSome found) (sym (get-insert_same nat_cmp_total nat_cmp-IsAntisymmetric t.shape.nodes t.next node)) refl

-- the tree after both steps
pub tree_both : (t0 t1 t2 : FileTree) (d : ℕ) (name : List ℕ) (node : Node) (mode stamp n : ℕ) → t1 ≡ with_nameless t0 node mode stamp → n ≡ t0.next → t2 ≡ with_shape t1 (with_entry t1.shape d name n) → t2 ≡ tree_with_new t0 d name node mode stamp
unfolding tree_with_new
tree_both t0 t1 t2 d name node mode stamp n e1 same e2 =
    e2 ∙ ap (λ m. with_shape t1 (with_entry t1.shape d name m)) same ∙ ap (λ t. with_shape t (with_entry t.shape d name t0.next)) e1
