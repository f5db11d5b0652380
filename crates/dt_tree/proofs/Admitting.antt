-- A new node at the host and in the table is a new node of the tree.
use Rattle.std.proofs.Common.{◌≡◌, ◌≢◌, ℕ, ◌+◌, [], true, Option, Some, None, refl, sym, ap, subst, ◌∙◌}
use Rattle.std.specs.Prelude.{IsSome, is_some, unwrap_or, option_map, option_and_then}
use Rattle.std.specs.Ordering.{nat_cmp}
use Rattle.std.specs.Cmp.{nat_cmp_total}
use Rattle.std.specs.Cmp.Lexicographic.{slice_cmp, nat_list_cmp_total}
use Rattle.std.specs.FinMap.{empty, get, insert, get-empty, same_map, nat_cmp-IsAntisymmetric}
use Rattle.dt_host.specs.World.{Forest, Node, file, dir, link, device, node_at, dir_names, names_at, entry, with_node, IsLive}
use Rattle.dt_tables.proofs.Found.{none_there}
use Rattle.dt_tables.proofs.Maps.{at_insert, names_tie, get-insert_same, get-insert_other}
use Rattle.dt_tree.specs.declared.inode.Inode.{Inode}
use Rattle.dt_tree.specs.Shape.{name_count_of, name_count}
use Rattle.dt_tables.specs.Values.{map_values}
use Rattle.dt_tree.specs.Table.{Table, vino_of, real_of, renumbered_node, node_for, shape_of, attributes_of, tree_of, kind_of, IsUp, IsInodeOf, IsMirror}
use Rattle.dt_tree.specs.inner.Tables.{with_new}
use Rattle.dt_tree.proofs.Namings.{names_of-with_new, name_count-with_new}
use Rattle.dt_host.proofs.Spots.{entry-with_new}
use Rattle.dt_tables.proofs.Valued.{get-map_values, map_values-insert, map_values-alike}
use Rattle.dt_tree.proofs.Mirroring.{node_at-shape, real_live}

-- a node without entries has no numbers
pub renumbered-bare : (f : ℕ → ℕ) (node : Node) → unwrap_or (dir_names node) empty ≡ empty → renumbered_node f node ≡ node
renumbered-bare f (file bytes) e = refl
renumbered-bare f (link target) e = refl
renumbered-bare f (device which) e = refl
renumbered-bare f (dir names) e = ap dir (same_map nat_list_cmp_total names_tie _ _ (λ q. get-map_values nat_list_cmp_total f names q ∙ ap (λ m. option_map f (get m q)) e ∙ ap (option_map f) (get-empty (slice_cmp nat_cmp) q) ∙ sym (ap (λ m. get m q) e ∙ get-empty (slice_cmp nat_cmp) q)))

module _ (t : Table) (v : Forest) (inode : Inode) (node : Node) (s : IsMirror t v) (free : get t.inodes t.next ≡ None) (free_real : node_at v inode.real ≡ None) (bare : unwrap_or (dir_names node) empty ≡ empty) where
  -- a live number of the host isn't the new one
  apart_real : (real : ℕ) → IsLive v real → real ≢ inode.real
  apart_real real live same = none_there (node_at v real) (ap (node_at v) same ∙ free_real) live

  same_numbers : (other : Inode) (found : Option Node) → node_at v other.real ≡ found → renumbered_node (vino_of (with_new t inode)) (unwrap_or found (file [])) ≡ renumbered_node (vino_of t) (unwrap_or found (file []))
  unfolding entry names_at
  same_numbers other None e = refl
  same_numbers other (Some (file bytes)) e = refl
  same_numbers other (Some (link target)) e = refl
  same_numbers other (Some (device which)) e = refl
  same_numbers other (Some (dir names)) e = ap dir (map_values-alike nat_list_cmp_total (vino_of (with_new t inode)) names_tie (vino_of t) names
      (λ name real there. ap (λ found. unwrap_or found 0) (get-insert_other nat_cmp_total nat_cmp-IsAntisymmetric t.by_real inode.real t.next real (apart_real real (s.pairs.closed other.real real name (ap (λ found. get (unwrap_or (option_and_then dir_names found) empty) name) e ∙ there)))))
      (get-map_values nat_list_cmp_total (vino_of t) names))

  pub shape-new : shape_of (with_new t inode) (with_node v inode.real node) ≡ with_node (shape_of t v) t.next node
  unfolding shape_of
  shape-new =
      ap (λ nodes. record { nodes = nodes; root = 1 }) (same_map nat_cmp_total nat_cmp-IsAntisymmetric _ _ (λ q.
      get-map_values nat_cmp_total (node_for (with_new t inode) (with_node v inode.real node)) (insert t.inodes t.next inode) q
      ∙ at_insert nat_cmp_total nat_cmp-IsAntisymmetric (λ found. option_map (node_for (with_new t inode) (with_node v inode.real node)) found ≡ get (insert (map_values (node_for t v) t.inodes) t.next node) q) t.inodes t.next inode q
      (λ is. ap (λ found. Some (renumbered_node (vino_of (with_new t inode)) (unwrap_or found (file [])))) (get-insert_same nat_cmp_total nat_cmp-IsAntisymmetric v.nodes inode.real node) ∙ ap Some (renumbered-bare (vino_of (with_new t inode)) node bare) ∙ sym (ap (get (insert (map_values (node_for t v) t.inodes) t.next node)) is ∙ get-insert_same nat_cmp_total nat_cmp-IsAntisymmetric (map_values (node_for t v) t.inodes) t.next node))
      (λ apart. by_inode q (get t.inodes q) refl ∙ sym (get-map_values nat_cmp_total (node_for t v) t.inodes q) ∙ sym (get-insert_other nat_cmp_total nat_cmp-IsAntisymmetric (map_values (node_for t v) t.inodes) t.next node q apart))))
    where
      by_inode : (q : ℕ) (found : Option Inode) → get t.inodes q ≡ found → option_map (node_for (with_new t inode) (with_node v inode.real node)) found ≡ option_map (node_for t v) found
      by_inode q None e = refl
      by_inode q (Some other) e =
          ap (λ found. Some (renumbered_node (vino_of (with_new t inode)) (unwrap_or found (file [])))) (get-insert_other nat_cmp_total nat_cmp-IsAntisymmetric v.nodes inode.real node other.real (apart_real other.real (real_live t v s.pairs q other e)))
          ∙ ap Some (same_numbers other (node_at v other.real) refl)

  pub tree-new : tree_of (with_new t inode) (with_node v inode.real node) ≡ record { shape = with_node (shape_of t v) t.next node; attributes = insert (map_values attributes_of t.inodes) t.next (attributes_of inode); next = t.next + 1; version = t.version }
  tree-new = let shape = shape-new in let attributes = map_values-insert nat_cmp_total attributes_of nat_cmp-IsAntisymmetric t.inodes t.next inode in λ i. record { shape = shape i; attributes = attributes i; next = t.next + 1; version = t.version }

  free_node : node_at (shape_of t v) t.next ≡ None
  free_node = node_at-shape t v t.next ∙ ap (option_map (node_for t v)) free

  pub mirrors-new : name_count_of (shape_of t v) t.next ≡ 0 → inode.names ≡ 0 → inode.up ≡ None → kind_of node ≡ inode.kind → IsMirror (with_new t inode) (with_node v inode.real node)
  mirrors-new nameless names up kind = record {
    pairs = record {
      forth = λ n other. at_insert nat_cmp_total nat_cmp-IsAntisymmetric (λ found. found ≡ Some other → get (insert t.by_real inode.real t.next) other.real ≡ Some n) t.inodes t.next inode n
          (λ is e. let same : inode.real ≡ other.real = cc in ap (get (insert t.by_real inode.real t.next)) (sym same) ∙ get-insert_same nat_cmp_total nat_cmp-IsAntisymmetric t.by_real inode.real t.next ∙ ap Some (sym is))
          (λ apart e. get-insert_other nat_cmp_total nat_cmp-IsAntisymmetric t.by_real inode.real t.next other.real (apart_real other.real (real_live t v s.pairs n other e)) ∙ s.pairs.forth n other e);
      back = λ real n. at_insert nat_cmp_total nat_cmp-IsAntisymmetric (λ found. found ≡ Some n → real_of (with_new t inode) n ≡ Some real) t.by_real inode.real t.next real
          (λ is e. let same : t.next ≡ n = cc in ap (real_of (with_new t inode)) (sym same) ∙ ap (option_map (λ (inode : Inode). inode.real)) (get-insert_same nat_cmp_total nat_cmp-IsAntisymmetric t.inodes t.next inode) ∙ ap Some (sym is))
          (λ apart e. still_real n real (s.pairs.back real n e));
      live = λ real. at_insert nat_cmp_total nat_cmp-IsAntisymmetric (λ found. is_some found ≡ is_some (get (insert v.nodes inode.real node) real)) t.by_real inode.real t.next real
          (λ is. at_insert nat_cmp_total nat_cmp-IsAntisymmetric (λ found. true ≡ is_some found) v.nodes inode.real node real (λ _. refl) (λ apart. absurd (apart is)))
          (λ apart. s.pairs.live real ∙ ap is_some (sym (get-insert_other nat_cmp_total nat_cmp-IsAntisymmetric v.nodes inode.real node real apart)));
      closed = λ d real name e. live_still real (s.pairs.closed d real name (sym (entry-with_new v inode.real node free_real bare d name) ∙ e));
      root = still_real 1 v.root s.pairs.root;
    };
    kept = λ n other e. subst (λ shape. IsInodeOf shape n other) (sym shape-new) (by_inode n other e);
    counted = s.counted ∙ sym (ap (λ shape. name_count shape) shape-new ∙ name_count-with_new (shape_of t v) t.next node free_node bare);
  }
    where
      live_still : (real : ℕ) → IsLive v real → IsLive (with_node v inode.real node) real
      live_still real live = subst (λ found. IsSome found) (sym (get-insert_other nat_cmp_total nat_cmp-IsAntisymmetric v.nodes inode.real node real (apart_real real live))) live

      not_next : (n real : ℕ) → real_of t n ≡ Some real → n ≢ t.next
      not_next n real e same = let none = ap (real_of t) same ∙ ap (option_map (λ (inode : Inode). inode.real)) free in cc

      still_real : (n real : ℕ) → real_of t n ≡ Some real → real_of (with_new t inode) n ≡ Some real
      still_real n real e = ap (option_map (λ (inode : Inode). inode.real)) (get-insert_other nat_cmp_total nat_cmp-IsAntisymmetric t.inodes t.next inode n (not_next n real e)) ∙ e

      up_still : (n : ℕ) (up : Option ℕ) → IsUp (shape_of t v) n up → IsUp (with_node (shape_of t v) t.next node) n up
      up_still n None u = names_of-with_new (shape_of t v) t.next n node free_node bare ∙ u
      up_still n (Some q) u = (u.0, entry-with_new (shape_of t v) t.next node free_node bare q u.0 ∙ u.1)

      by_inode : (n : ℕ) (other : Inode) → get (insert t.inodes t.next inode) n ≡ Some other → IsInodeOf (with_node (shape_of t v) t.next node) n other
      by_inode n other = at_insert nat_cmp_total nat_cmp-IsAntisymmetric (λ found. found ≡ Some other → IsInodeOf (with_node (shape_of t v) t.next node) n other) t.inodes t.next inode n
          (λ is e. let same : inode ≡ other = cc in subst (λ x. IsInodeOf (with_node (shape_of t v) t.next node) x other) (sym is) (subst (IsInodeOf (with_node (shape_of t v) t.next node) t.next) same (record {
            kind = ap (option_map kind_of) (get-insert_same nat_cmp_total nat_cmp-IsAntisymmetric (shape_of t v).nodes t.next node) ∙ ap Some kind;
            names = names ∙ sym (names_of-with_new (shape_of t v) t.next t.next node free_node bare ∙ nameless);
            up = λ _. subst (IsUp (with_node (shape_of t v) t.next node) t.next) (sym up) (names_of-with_new (shape_of t v) t.next t.next node free_node bare ∙ nameless);
          })))
          (λ apart e. let keeps = s.kept n other e in record {
            kind = ap (option_map kind_of) (get-insert_other nat_cmp_total nat_cmp-IsAntisymmetric (shape_of t v).nodes t.next node n apart) ∙ keeps.kind;
            names = keeps.names ∙ sym (names_of-with_new (shape_of t v) t.next n node free_node bare);
            up = λ k. up_still n other.up (keeps.up k);
          })
