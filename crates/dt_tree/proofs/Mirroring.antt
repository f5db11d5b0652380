-- A change of the host and of a inode is a change of the tree that they give.
use Rattle.std.proofs.Common.{◌≡◌, ◌≢◌, ℕ, List, [], length, true, false, Option, Some, None, refl, sym, ap, subst, ◌∙◌}
use Rattle.std.proofs.lemmas.List.{length-map}
use Rattle.std.proofs.lemmas.Option.{same_Some}
use Rattle.std.specs.Prelude.{IsSome, is_some, unwrap_or, option_map, option_and_then}
use Rattle.std.specs.Ordering.{nat_cmp}
use Rattle.std.specs.Cmp.{nat_cmp_total}
use Rattle.std.specs.Cmp.Lexicographic.{slice_cmp, nat_list_cmp_total}
use Rattle.std.specs.FinMap.{empty, entries, len, len-entries, get, insert, remove, get-empty, same_map, nat_cmp-IsAntisymmetric}
use Rattle.dt_host.specs.World.{Forest, Node, file, dir, link, device, file_bytes, file_at, IsFile, link_target, target_at, IsLink, node_at, dir_names, names_at, entry, with_node, with_entry, without_entry, IsDir, IsLive}
use Rattle.dt_tables.specs.Values.{map_values}
use Rattle.dt_tables.proofs.Found.{none_there}
use Rattle.dt_tables.proofs.Maps.{at_insert, names_tie, get-insert_same, get-insert_other}
use Rattle.dt_host.proofs.Spots.{IsDir-entry, IsLive-IsDir, IsLive-IsFile}
use Rattle.dt_tables.proofs.Valued.{get-map_values, map_values-insert, map_values-remove, entries-map_values}
use Rattle.dt_tree.specs.declared.inode.Inode.{Inode}
use Rattle.dt_tree.specs.Table.{Table, vino_of, renumbered_node, node_for, shape_of, IsPairing}
use Rattle.dt_tree.specs.inner.Tables.{with_inode, with_names}

-- the node of a number, by its inode
pub node_at-shape : (t : Table) (v : Forest) (q : ℕ) → node_at (shape_of t v) q ≡ option_map (node_for t v) (get t.inodes q)
unfolding shape_of
node_at-shape t v q = get-map_values nat_cmp_total (node_for t v) t.inodes q

-- something else kept in the place of another for the same node of the host leaves the shape
pub shape-with_inode : (t : Table) (v : Forest) (m : ℕ) (old new : Inode) → get t.inodes m ≡ Some old → new.real ≡ old.real → shape_of (with_inode t m new) v ≡ shape_of t v
unfolding shape_of
shape-with_inode t v m old new there same =
    ap (λ nodes. record { nodes = nodes; root = 1 }) (same_map nat_cmp_total nat_cmp-IsAntisymmetric _ _ (λ q.
    get-map_values nat_cmp_total (node_for t v) (insert t.inodes m new) q
    ∙ at_insert nat_cmp_total nat_cmp-IsAntisymmetric (λ found. option_map (node_for t v) found ≡ option_map (node_for t v) (get t.inodes q)) t.inodes m new q
    (λ is. ap (λ real. Some (renumbered_node (vino_of t) (unwrap_or (node_at v real) (file [])))) same ∙ sym (ap (option_map (node_for t v)) (ap (get t.inodes) is ∙ there)))
    (λ _. refl)
    ∙ sym (get-map_values nat_cmp_total (node_for t v) t.inodes q)))

-- so does another count of names
pub shape-with_names : (t : Table) (v : Forest) (names : ℕ) → shape_of (with_names t names) v ≡ shape_of t v
unfolding shape_of
shape-with_names t v names = refl

-- what a directory names, under the table's numbers
names_of_node : (f : ℕ → ℕ) (found : Option Node) → unwrap_or (option_and_then dir_names (option_map (λ node. renumbered_node f node) found)) empty ≡ map_values f (unwrap_or (option_and_then dir_names found) empty)
names_of_node f None = same_map nat_list_cmp_total names_tie _ _ (λ q. get-empty (slice_cmp nat_cmp) q ∙ sym (get-map_values nat_list_cmp_total f empty q ∙ ap (option_map f) (get-empty (slice_cmp nat_cmp) q)))
names_of_node f (Some (file bytes)) = same_map nat_list_cmp_total names_tie _ _ (λ q. get-empty (slice_cmp nat_cmp) q ∙ sym (get-map_values nat_list_cmp_total f empty q ∙ ap (option_map f) (get-empty (slice_cmp nat_cmp) q)))
names_of_node f (Some (dir names)) = refl
names_of_node f (Some (link target)) = same_map nat_list_cmp_total names_tie _ _ (λ q. get-empty (slice_cmp nat_cmp) q ∙ sym (get-map_values nat_list_cmp_total f empty q ∙ ap (option_map f) (get-empty (slice_cmp nat_cmp) q)))
names_of_node f (Some (device which)) = same_map nat_list_cmp_total names_tie _ _ (λ q. get-empty (slice_cmp nat_cmp) q ∙ sym (get-map_values nat_list_cmp_total f empty q ∙ ap (option_map f) (get-empty (slice_cmp nat_cmp) q)))

module _ (t : Table) (v : Forest) (s : IsPairing t v) where
  -- the node of the host that a inode stands for is there
  pub real_live : (n : ℕ) (inode : Inode) → get t.inodes n ≡ Some inode → IsLive v inode.real
  real_live n inode there = by_found (node_at v inode.real) (ap is_some (sym (s.forth n inode there)) ∙ s.live inode.real)
    where
      by_found : (found : Option Node) → true ≡ is_some found → IsSome found
      by_found None e = cc
      by_found (Some x) e = refl

  -- two nodes are different nodes of the host
  pub one_real : (n m : ℕ) (a b : Inode) → get t.inodes n ≡ Some a → get t.inodes m ≡ Some b → a.real ≡ b.real → n ≡ m
  one_real n m a b p q e = let x = s.forth n a p in let y = s.forth m b q in let same = ap (get t.by_real) e in cc

  -- the node that a inode stands for
  pub node_at-inode : (n : ℕ) (inode : Inode) → get t.inodes n ≡ Some inode → node_at (shape_of t v) n ≡ option_map (λ node. renumbered_node (vino_of t) node) (node_at v inode.real)
  node_at-inode n inode there = node_at-shape t v n ∙ ap (option_map (node_for t v)) there ∙ by_found (node_at v inode.real) (real_live n inode there)
    where
      by_found : (found : Option Node) → IsSome found → Some (renumbered_node (vino_of t) (unwrap_or found (file []))) ≡ option_map (λ node. renumbered_node (vino_of t) node) found
      by_found None h = cc
      by_found (Some x) h = refl

  pub names_at-inode : (n : ℕ) (inode : Inode) → get t.inodes n ≡ Some inode → names_at (shape_of t v) n ≡ map_values (vino_of t) (names_at v inode.real)
  unfolding names_at
  names_at-inode n inode there = ap (λ found. unwrap_or (option_and_then dir_names found) empty) (node_at-inode n inode there) ∙ names_of_node (vino_of t) (node_at v inode.real)

  -- what a directory has under a name, by its inode
  pub entry-inode : (n : ℕ) (inode : Inode) (name : List ℕ) → get t.inodes n ≡ Some inode → entry (shape_of t v) n name ≡ option_map (vino_of t) (entry v inode.real name)
  unfolding entry
  entry-inode n inode name there = ap (λ names. get names name) (names_at-inode n inode there) ∙ get-map_values nat_list_cmp_total (vino_of t) (names_at v inode.real) name

  -- a directory is one at the host
  pub real_dir : (n : ℕ) (inode : Inode) → get t.inodes n ≡ Some inode → IsDir (shape_of t v) n → IsDir v inode.real
  real_dir n inode there h = by_found (node_at v inode.real) (subst (λ found. IsSome (option_and_then dir_names found)) (node_at-inode n inode there) h)
    where
      by_found : (found : Option Node) → IsSome (option_and_then dir_names (option_map (λ node. renumbered_node (vino_of t) node) found)) → IsSome (option_and_then dir_names found)
      by_found None h = cc
      by_found (Some (file bytes)) h = cc
      by_found (Some (dir names)) h = refl
      by_found (Some (link target)) h = cc
      by_found (Some (device which)) h = cc

  -- a node put at the host in the place of a inode's is put in the tree
  pub shape-with_node : (d : ℕ) (inode : Inode) (node : Node) → get t.inodes d ≡ Some inode → shape_of t (with_node v inode.real node) ≡ with_node (shape_of t v) d (renumbered_node (vino_of t) node)
  unfolding shape_of
  shape-with_node d inode node there =
      ap (λ nodes. record { nodes = nodes; root = 1 }) (same_map nat_cmp_total nat_cmp-IsAntisymmetric _ _ (λ q.
      get-map_values nat_cmp_total (node_for t (with_node v inode.real node)) t.inodes q
      ∙ at_insert nat_cmp_total nat_cmp-IsAntisymmetric (λ found. option_map (node_for t (with_node v inode.real node)) (get t.inodes q) ≡ found) (map_values (node_for t v) t.inodes) d (renumbered_node (vino_of t) node) q
      (λ is. ap (option_map (node_for t (with_node v inode.real node))) (ap (get t.inodes) is ∙ there) ∙ ap (λ found. Some (renumbered_node (vino_of t) (unwrap_or found (file [])))) (get-insert_same nat_cmp_total nat_cmp-IsAntisymmetric v.nodes inode.real node))
      (λ apart. by_inode q apart (get t.inodes q) refl ∙ sym (get-map_values nat_cmp_total (node_for t v) t.inodes q))))
    where
      by_inode : (q : ℕ) → q ≢ d → (found : Option Inode) → get t.inodes q ≡ found → option_map (node_for t (with_node v inode.real node)) found ≡ option_map (node_for t v) found
      by_inode q apart None e = refl
      by_inode q apart (Some other) e = ap (λ found. Some (renumbered_node (vino_of t) (unwrap_or found (file [])))) (get-insert_other nat_cmp_total nat_cmp-IsAntisymmetric v.nodes inode.real node other.real (λ same. apart (one_real q d other inode e there same)))

  -- an entry put at the host is put in the tree
  pub shape-with_entry : (d : ℕ) (inode : Inode) (name : List ℕ) (real : ℕ) → get t.inodes d ≡ Some inode → shape_of t (with_entry v inode.real name real) ≡ with_entry (shape_of t v) d name (vino_of t real)
  unfolding with_entry
  shape-with_entry d inode name real there =
      shape-with_node d inode (dir (insert (names_at v inode.real) name real)) there
      ∙ ap (λ names. with_node (shape_of t v) d (dir names)) (map_values-insert nat_list_cmp_total (vino_of t) names_tie (names_at v inode.real) name real)
      ∙ ap (λ names. with_node (shape_of t v) d (dir (insert names name (vino_of t real)))) (sym (names_at-inode d inode there))

  -- and one taken away there is taken away
  pub shape-without_entry : (d : ℕ) (inode : Inode) (name : List ℕ) → get t.inodes d ≡ Some inode → shape_of t (without_entry v inode.real name) ≡ without_entry (shape_of t v) d name
  unfolding without_entry
  shape-without_entry d inode name there =
      shape-with_node d inode (dir (remove (names_at v inode.real) name)) there
      ∙ ap (λ names. with_node (shape_of t v) d (dir names)) (map_values-remove nat_list_cmp_total (vino_of t) names_tie (names_at v inode.real) name)
      ∙ ap (λ names. with_node (shape_of t v) d (dir (remove names name))) (sym (names_at-inode d inode there))

-- what is kept of a node that is there
pub has_inode : (t : Table) (v : Forest) (n : ℕ) → IsLive (shape_of t v) n → IsSome (get t.inodes n)
has_inode t v n live = by_found (get t.inodes n) (subst (λ found. IsSome found) (node_at-shape t v n) live)
  where
    by_found : (found : Option Inode) → IsSome (option_map (node_for t v) found) → IsSome found
    by_found None h = cc
    by_found (Some x) h = refl

pub has_inode-dir : (t : Table) (v : Forest) (n : ℕ) → IsDir (shape_of t v) n → IsSome (get t.inodes n)
has_inode-dir t v n is = has_inode t v n (IsLive-IsDir (shape_of t v) n is)

module _ (t : Table) (v : Forest) (s : IsPairing t v) (d : ℕ) (inode : Inode) (name : List ℕ) (there : get t.inodes d ≡ Some inode) where
  -- an entry is one of the host, and its node has a number
  pub real_free : entry (shape_of t v) d name ≡ None → entry v inode.real name ≡ None
  real_free e = by_found (entry v inode.real name) (sym (entry-inode t v s d inode name there) ∙ e)
    where
      by_found : (found : Option ℕ) → option_map (vino_of t) found ≡ None → found ≡ None
      by_found None e = refl
      by_found (Some x) e = cc

  pub real_named : (n : ℕ) → entry (shape_of t v) d name ≡ Some n → IsSome (entry v inode.real name)
  real_named n e = by_found (entry v inode.real name) (sym (entry-inode t v s d inode name there) ∙ e)
    where
      by_found : (found : Option ℕ) → option_map (vino_of t) found ≡ Some n → IsSome found
      by_found None e = cc
      by_found (Some x) e = refl

  pub has_number : (real : ℕ) → entry v inode.real name ≡ Some real → IsSome (get t.by_real real)
  has_number real e = by_found (get t.by_real real) (s.live real) (s.closed inode.real real name e)
    where
      by_node : (found : Option Node) → false ≡ is_some found → IsSome found → ⊥
      by_node None a b = cc
      by_node (Some x) a b = cc

      by_found : (found : Option ℕ) → is_some found ≡ is_some (node_at v real) → IsLive v real → IsSome found
      by_found None same live = absurd (by_node (node_at v real) same live)
      by_found (Some x) same live = refl

  pub entry-number : (real n : ℕ) → entry v inode.real name ≡ Some real → get t.by_real real ≡ Some n → entry (shape_of t v) d name ≡ Some n
  entry-number real n e f = entry-inode t v s d inode name there ∙ ap (option_map (vino_of t)) e ∙ ap (λ found. Some (unwrap_or found 0)) f

  pub live_named : (n : ℕ) → entry (shape_of t v) d name ≡ Some n → IsSome (get t.inodes n)
  live_named n e = by_real (entry v inode.real name) refl
    where
      by_inode : (found : Option Inode) (real : ℕ) → option_map (λ (inode : Inode). inode.real) found ≡ Some real → IsSome found
      by_inode None real e = cc
      by_inode (Some x) real e = refl

      by_back : (real : ℕ) (found : Option ℕ) → entry v inode.real name ≡ Some real → get t.by_real real ≡ found → IsSome found → IsSome (get t.inodes n)
      by_back real None p q h = cc
      by_back real (Some m) p q h =
          let same : m ≡ n = same_Some m n (sym (entry-number real m p q) ∙ e) in
          by_inode (get t.inodes n) real (s.back real n (q ∙ ap Some same))

      by_real : (found : Option ℕ) → entry v inode.real name ≡ found → IsSome (get t.inodes n)
      by_real None p = absurd (none_there (entry v inode.real name) p (real_named n e))
      by_real (Some real) p = by_back real (get t.by_real real) p refl (has_number real p)

-- what is kept is there
pub live-inode : (t : Table) (v : Forest) (n : ℕ) → IsSome (get t.inodes n) → IsLive (shape_of t v) n
live-inode t v n some = subst (λ found. IsSome found) (sym (node_at-shape t v n)) (by_found (get t.inodes n) some)
  where
    by_found : (found : Option Inode) → IsSome found → IsSome (option_map (node_for t v) found)
    by_found None h = cc
    by_found (Some x) h = refl

-- as many nodes are kept as there are
pub len-shape : (t : Table) (v : Forest) → len (shape_of t v).nodes ≡ len t.inodes
unfolding shape_of
len-shape t v =
    len-entries (map_values (node_for t v) t.inodes)
    ∙ ap length (entries-map_values nat_cmp (node_for t v) nat_cmp_total nat_cmp-IsAntisymmetric t.inodes)
    ∙ length-map (entries t.inodes) (λ e. (e.0, node_for t v e.1))
    ∙ sym (len-entries t.inodes)

-- what is named is kept
pub has_inode-named : (t : Table) (v : Forest) → IsPairing t v → (d n : ℕ) (name : List ℕ) → entry (shape_of t v) d name ≡ Some n → IsSome (get t.inodes n)
has_inode-named t v s d n name e = by_found (get t.inodes d) refl (has_inode-dir t v d (IsDir-entry (shape_of t v) d name n e))
  where
    by_found : (found : Option Inode) → get t.inodes d ≡ found → IsSome found → IsSome (get t.inodes n)
    by_found None p h = cc
    by_found (Some inode) p h = live_named t v s d inode name p n e

-- a link's target is that at the host
pub target_at-inode : (t : Table) (v : Forest) (s : IsPairing t v) (n : ℕ) (inode : Inode) → get t.inodes n ≡ Some inode → target_at (shape_of t v) n ≡ target_at v inode.real
target_at-inode t v s n inode there = ap (option_and_then link_target) (node_at-inode t v s n inode there) ∙ by_found (node_at v inode.real)
  where
    by_found : (found : Option Node) → option_and_then link_target (option_map (λ node. renumbered_node (vino_of t) node) found) ≡ option_and_then link_target found
    by_found None = refl
    by_found (Some (file bytes)) = refl
    by_found (Some (dir names)) = refl
    by_found (Some (link target)) = refl
    by_found (Some (device which)) = refl

-- so are a file's bytes
pub file_at-inode : (t : Table) (v : Forest) (s : IsPairing t v) (n : ℕ) (inode : Inode) → get t.inodes n ≡ Some inode → file_at (shape_of t v) n ≡ file_at v inode.real
file_at-inode t v s n inode there = ap (option_and_then file_bytes) (node_at-inode t v s n inode there) ∙ by_found (node_at v inode.real)
  where
    by_found : (found : Option Node) → option_and_then file_bytes (option_map (λ node. renumbered_node (vino_of t) node) found) ≡ option_and_then file_bytes found
    by_found None = refl
    by_found (Some (file bytes)) = refl
    by_found (Some (dir names)) = refl
    by_found (Some (link target)) = refl
    by_found (Some (device which)) = refl

pub has_inode-file : (t : Table) (v : Forest) (n : ℕ) → IsFile (shape_of t v) n → IsSome (get t.inodes n)
has_inode-file t v n is = has_inode t v n (IsLive-IsFile (shape_of t v) n is)

pub has_inode-link : (t : Table) (v : Forest) (n : ℕ) → IsLink (shape_of t v) n → IsSome (get t.inodes n)
has_inode-link t v n is = has_inode t v n (by_found (node_at (shape_of t v) n) is)
  where
    by_found : (found : Option Node) → IsSome (option_and_then link_target found) → IsSome found
    by_found None h = cc
    by_found (Some x) h = refl

-- an entry for a node is one for its number at the host, and the other way round
module _ (t : Table) (v : Forest) (s : IsPairing t v) (d n : ℕ) (above inode : Inode) (name : List ℕ) (at_d : get t.inodes d ≡ Some above) (at_n : get t.inodes n ≡ Some inode) where
  pub entry-real : entry (shape_of t v) d name ≡ Some n → entry v above.real name ≡ Some inode.real
  entry-real e = by_real (entry v above.real name) refl
    where
      by_back : (real : ℕ) (found : Option ℕ) → entry v above.real name ≡ Some real → get t.by_real real ≡ found → IsSome found → entry v above.real name ≡ Some inode.real
      by_back real None p q h = cc
      by_back real (Some m) p q h =
          let same : m ≡ n = same_Some m n (sym (entry-number t v s d above name at_d real m p q) ∙ e) in
          let there = s.back real n (q ∙ ap Some same) in
          let at = ap (option_map (λ (inode : Inode). inode.real)) at_n in
          let real_is : real ≡ inode.real = cc in
          p ∙ ap Some real_is

      by_real : (found : Option ℕ) → entry v above.real name ≡ found → entry v above.real name ≡ Some inode.real
      by_real None p = absurd (gone (sym p) (real_named t v s d above name at_d n e))
        where
          gone : None ≡ entry v above.real name → IsSome (entry v above.real name) → ⊥
          gone a b = let no_such = ap is_some a in cc
      by_real (Some real) p = by_back real (get t.by_real real) p refl (has_number t v s d above name at_d real p)

  pub entry-virtual : entry v above.real name ≡ Some inode.real → entry (shape_of t v) d name ≡ Some n
  entry-virtual e = entry-number t v s d above name at_d inode.real n e (s.forth n inode at_n)
