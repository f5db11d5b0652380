-- A node that goes at the host and from the table goes from the tree.
use Rattle.std.proofs.Common.{arith, ◌≡◌, ◌≢◌, ℕ, [], false, Option, Some, None, refl, sym, ap, subst, ◌∙◌}
use Rattle.std.specs.Prelude.{IsSome, is_some, unwrap_or, option_map, option_and_then}
use Rattle.std.specs.Cmp.{nat_cmp_total}
use Rattle.std.specs.Cmp.Lexicographic.{nat_list_cmp_total}
use Rattle.std.specs.FinMap.{empty, get, remove, same_map, nat_cmp-IsAntisymmetric}
use Rattle.dt_host.specs.World.{Forest, Node, file, dir, link, device, node_at, dir_names, names_at, entry, without_node, IsLive, IsBare, IsNameless}
use Rattle.dt_tables.proofs.Maps.{at_remove, names_tie, get-remove_same, get-remove_other}
use Rattle.dt_tree.specs.declared.inode.Inode.{Inode}
use Rattle.dt_tree.specs.Shape.{name_count_of, name_count}
use Rattle.dt_tree.specs.Changes.{tree_without}
use Rattle.dt_tables.specs.Values.{map_values}
use Rattle.dt_tree.specs.Table.{Table, vino_of, real_of, renumbered_node, node_for, shape_of, attributes_of, tree_of, kind_of, IsUp, IsInodeOf, IsMirror}
use Rattle.dt_tree.specs.inner.Tables.{without_inode}
use Rattle.dt_tree.proofs.Namings.{names_of-without_node, name_count-without_node, named}
use Rattle.dt_host.proofs.Spots.{IsDir-entry, IsLive-IsDir}
use Rattle.dt_host.proofs.Gone.{entry-without_node, IsLive-without_node}
use Rattle.dt_tables.proofs.Valued.{get-map_values, map_values-remove, map_values-alike}
use Rattle.dt_tree.proofs.Mirroring.{one_real, entry-inode}

module _ (t : Table) (v : Forest) (m : ℕ) (old : Inode) (s : IsMirror t v) (at_m : get t.inodes m ≡ Some old) (none : name_count_of (shape_of t v) m ≡ 0) (bare : IsBare (shape_of t v) m) (low : m ≢ 1) where
  -- it has no entry at the host
  pub real_bare : IsBare v old.real
  real_bare name = by_found (entry v old.real name) (sym (entry-inode t v s.pairs m old name at_m) ∙ bare name)
    where
      by_found : (found : Option ℕ) → option_map (vino_of t) found ≡ None → found ≡ None
      by_found None e = refl
      by_found (Some x) e = cc

  -- nor is it named there
  pub real_nameless : IsNameless v old.real
  real_nameless d name e =
      let live : IsLive v d = IsLive-IsDir v d (IsDir-entry v d name old.real e) in
      by_back (get t.by_real d) refl (s.pairs.live d) live
    where
      by_inode : (n : ℕ) (found : Option Inode) → get t.inodes n ≡ found → option_map (λ (inode : Inode). inode.real) found ≡ Some d → ⊥
      by_inode n None p q = cc
      by_inode n (Some inode) p q =
          let same : inode.real ≡ d = cc in
          let there = entry-inode t v s.pairs n inode name p ∙ ap (λ x. option_map (vino_of t) (entry v x name)) same ∙ ap (option_map (vino_of t)) e ∙ ap (λ found. Some (unwrap_or found 0)) (s.pairs.forth m old at_m) in
          let some = named (shape_of t v) n m name there in
          omega arith

      by_back : (found : Option ℕ) → get t.by_real d ≡ found → is_some (get t.by_real d) ≡ is_some (node_at v d) → IsLive v d → ⊥
      by_back None p same live = let gone = ap is_some p in gone_live (node_at v d) (sym (gone) ∙ same) live
        where
          gone_live : (found : Option Node) → false ≡ is_some found → IsSome found → ⊥
          gone_live None a b = cc
          gone_live (Some x) a b = cc
      by_back (Some n) p same live = by_inode n (get t.inodes n) refl (s.pairs.back d n p)

  pub real_low : old.real ≢ v.root
  real_low same = by_inode (get t.inodes 1) refl s.pairs.root
    where
      by_inode : (found : Option Inode) → get t.inodes 1 ≡ found → option_map (λ (inode : Inode). inode.real) found ≡ Some v.root → ⊥
      by_inode None p q = cc
      by_inode (Some inode) p q = low (one_real t v s.pairs m 1 old inode at_m p (let e : old.real ≡ inode.real = cc in e))

  -- the other entries keep their numbers
  same_numbers : (other : Inode) (n : ℕ) → get t.inodes n ≡ Some other → (found : Option Node) → node_at v other.real ≡ found → renumbered_node (vino_of (without_inode t m old.real)) (unwrap_or found (file [])) ≡ renumbered_node (vino_of t) (unwrap_or found (file []))
  unfolding entry names_at
  same_numbers other n at None e = refl
  same_numbers other n at (Some (file bytes)) e = refl
  same_numbers other n at (Some (link target)) e = refl
  same_numbers other n at (Some (device which)) e = refl
  same_numbers other n at (Some (dir names)) e = ap dir (map_values-alike nat_list_cmp_total (vino_of (without_inode t m old.real)) names_tie (vino_of t) names
      (λ name real there. ap (λ found. unwrap_or found 0) (get-remove_other nat_cmp_total nat_cmp-IsAntisymmetric t.by_real old.real real (λ same. real_nameless other.real name (ap (λ found. get (unwrap_or (option_and_then dir_names found) empty) name) e ∙ there ∙ ap Some same))))
      (get-map_values nat_list_cmp_total (vino_of t) names))

  pub shape-without : shape_of (without_inode t m old.real) (without_node v old.real) ≡ without_node (shape_of t v) m
  unfolding shape_of
  shape-without =
      ap (λ nodes. record { nodes = nodes; root = 1 }) (same_map nat_cmp_total nat_cmp-IsAntisymmetric _ _ (λ q.
      get-map_values nat_cmp_total (node_for (without_inode t m old.real) (without_node v old.real)) (remove t.inodes m) q
      ∙ at_remove nat_cmp_total nat_cmp-IsAntisymmetric (λ found. option_map (node_for (without_inode t m old.real) (without_node v old.real)) found ≡ get (remove (map_values (node_for t v) t.inodes) m) q) t.inodes m q
      (λ is. sym (ap (get (remove (map_values (node_for t v) t.inodes) m)) is ∙ get-remove_same nat_cmp_total nat_cmp-IsAntisymmetric (map_values (node_for t v) t.inodes) m))
      (λ apart. by_inode q apart (get t.inodes q) refl ∙ sym (get-map_values nat_cmp_total (node_for t v) t.inodes q) ∙ sym (get-remove_other nat_cmp_total nat_cmp-IsAntisymmetric (map_values (node_for t v) t.inodes) m q apart))))
    where
      by_inode : (q : ℕ) → q ≢ m → (found : Option Inode) → get t.inodes q ≡ found → option_map (node_for (without_inode t m old.real) (without_node v old.real)) found ≡ option_map (node_for t v) found
      by_inode q apart None e = refl
      by_inode q apart (Some other) e =
          ap (λ found. Some (renumbered_node (vino_of (without_inode t m old.real)) (unwrap_or found (file [])))) (get-remove_other nat_cmp_total nat_cmp-IsAntisymmetric v.nodes old.real other.real (λ same. apart (one_real t v s.pairs q m other old e at_m same)))
          ∙ ap Some (same_numbers other q e (node_at v other.real) refl)

  pub tree-without : tree_of (without_inode t m old.real) (without_node v old.real) ≡ tree_without (tree_of t v) m
  tree-without = let shape = shape-without in let attributes = map_values-remove nat_cmp_total attributes_of nat_cmp-IsAntisymmetric t.inodes m in λ i. record { shape = shape i; attributes = attributes i; next = t.next; version = t.version }

  pub mirrors-without : IsMirror (without_inode t m old.real) (without_node v old.real)
  mirrors-without = record {
    pairs = record {
      forth = λ n inode. at_remove nat_cmp_total nat_cmp-IsAntisymmetric (λ found. found ≡ Some inode → get (remove t.by_real old.real) inode.real ≡ Some n) t.inodes m n
          (λ _ e. cc)
          (λ apart e. get-remove_other nat_cmp_total nat_cmp-IsAntisymmetric t.by_real old.real inode.real (λ same. apart (one_real t v s.pairs n m inode old e at_m same)) ∙ s.pairs.forth n inode e);
      back = λ real n. at_remove nat_cmp_total nat_cmp-IsAntisymmetric (λ found. found ≡ Some n → real_of (without_inode t m old.real) n ≡ Some real) t.by_real old.real real
          (λ _ e. cc)
          (λ apart e. still_real n (λ same. apart (let there = s.pairs.back real n e in let at = ap (real_of t) same ∙ ap (option_map (λ (inode : Inode). inode.real)) at_m in cc)) ∙ s.pairs.back real n e);
      live = λ real. at_remove nat_cmp_total nat_cmp-IsAntisymmetric (λ found. is_some found ≡ is_some (get (remove v.nodes old.real) real)) t.by_real old.real real
          (λ same. at_remove nat_cmp_total nat_cmp-IsAntisymmetric (λ found. false ≡ is_some found) v.nodes old.real real (λ _. refl) (λ apart. absurd (apart same)))
          (λ apart. s.pairs.live real ∙ ap is_some (sym (get-remove_other nat_cmp_total nat_cmp-IsAntisymmetric v.nodes old.real real apart)));
      closed = λ d real name e. let before = sym (entry-without_node v old.real real_bare d name) ∙ e in IsLive-without_node v old.real real_bare real (λ same. real_nameless d name (before ∙ ap Some same)) (s.pairs.closed d real name before);
      root = still_real 1 (λ same. low (sym same)) ∙ s.pairs.root;
    };
    kept = λ n inode e. subst (λ shape. IsInodeOf shape n inode) (sym shape-without) (by_inode n inode e);
    counted = s.counted ∙ sym (ap (λ shape. name_count shape) shape-without ∙ name_count-without_node (shape_of t v) m bare);
  }
    where
      still_real : (n : ℕ) → n ≢ m → real_of (without_inode t m old.real) n ≡ real_of t n
      still_real n apart = ap (option_map (λ (inode : Inode). inode.real)) (get-remove_other nat_cmp_total nat_cmp-IsAntisymmetric t.inodes m n apart)

      up_still : (n : ℕ) (up : Option ℕ) → IsUp (shape_of t v) n up → IsUp (without_node (shape_of t v) m) n up
      up_still n None u = names_of-without_node (shape_of t v) m n bare ∙ u
      up_still n (Some q) u = (u.0, entry-without_node (shape_of t v) m bare q u.0 ∙ u.1)

      by_inode : (n : ℕ) (inode : Inode) → get (remove t.inodes m) n ≡ Some inode → IsInodeOf (without_node (shape_of t v) m) n inode
      by_inode n inode = at_remove nat_cmp_total nat_cmp-IsAntisymmetric (λ found. found ≡ Some inode → IsInodeOf (without_node (shape_of t v) m) n inode) t.inodes m n
          (λ _ e. cc)
          (λ apart e. let keeps = s.kept n inode e in record {
            kind = ap (option_map kind_of) (get-remove_other nat_cmp_total nat_cmp-IsAntisymmetric (shape_of t v).nodes m n apart) ∙ keeps.kind;
            names = keeps.names ∙ sym (names_of-without_node (shape_of t v) m n bare);
            up = λ k. up_still n inode.up (keeps.up k);
          })
