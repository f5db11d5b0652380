-- What a name given or taken away, and a change of attributes, does to the host and to what is kept, and to the tree that they give.
use Rattle.std.proofs.Common.{arith, ◌≡◌, ◌≢◌, ℕ, ◌+◌, ◌-◌, ◌≤◌, ◌<◌, List, Option, Some, None, refl, sym, ap, subst, ◌∙◌}
use Rattle.std.specs.Prelude.{not, ◌&&◌, ◌==◌, IsSome, is_some, unwrap_or, option_map, option_and_then}
use Rattle.std.specs.Cmp.{nat_cmp_total}
use Rattle.std.specs.FinMap.{get, insert, nat_cmp-IsAntisymmetric}
use Rattle.dt_host.specs.World.{Forest, Node, Names, file, dir, link, device, node_at, dir_names, entry, with_node, with_entry, without_entry, IsDir, IsLive}
use Rattle.dt_tables.specs.inner.Weight.{weight}
use Rattle.dt_tables.specs.Values.{map_values}
use Rattle.dt_tables.proofs.Found.{not_both}
use Rattle.dt_tables.proofs.Maps.{at_insert, put_back as insert-there}
use Rattle.dt_host.proofs.Spots.{IsDir-entry, at_with_entry, is_some-with_entry, IsLive-with_entry, root-with_entry}
use Rattle.dt_host.proofs.Gone.{at_without_entry, is_some-without_entry, IsLive-without_entry, root-without_entry}
use Rattle.dt_tables.proofs.Valued.{get-map_values, map_values-insert}
use Rattle.dt_tree.specs.declared.inode.Kind.TheVariants.{Dir}
use Rattle.dt_tree.specs.declared.inode.Inode.{Inode}
use Rattle.dt_tree.specs.Above.{parent_at}
use Rattle.dt_tree.specs.Shape.{one_for, name_count_of, name_count}
use Rattle.dt_tree.specs.Table.{Table, real_of, shape_of, attributes_of, tree_of, kind_of, IsUp, IsInodeOf, IsPairing, IsMirror, Stands}
use Rattle.dt_tree.specs.inner.Tables.{with_inode, with_names}
use Rattle.dt_tree.specs.FileTree.{Attributes, holds_of}
use Rattle.dt_tree.specs.Changes.{with_shape, with_some, with_attributes, is_unused}
use Rattle.dt_tree.proofs.Namings.{one_for-same, one_for-other, names_of-with_entry, names_of-without_entry, name_count-with_entry, name_count-without_entry}
use Rattle.dt_tree.proofs.Aboves.{no_parent, parent_is}
use Rattle.dt_tree.proofs.Mirroring.{shape-with_inode, shape-with_names, real_live, real_dir, shape-with_entry, shape-without_entry}

-- a directory is of kind Dir, and nothing else is
pub dir_kind : (found : Option Node) → option_map kind_of found ≡ Some Dir → IsSome (option_and_then dir_names found)
dir_kind None e = cc
dir_kind (Some (file bytes)) e = cc
dir_kind (Some (dir names)) e = refl
dir_kind (Some (link target)) e = cc
dir_kind (Some (device which)) e = cc

pub kind_dir : (found : Option Node) → IsSome (option_and_then dir_names found) → option_map kind_of found ≡ Some Dir
kind_dir None e = cc
kind_dir (Some (file bytes)) e = cc
kind_dir (Some (dir names)) e = refl
kind_dir (Some (link target)) e = cc
kind_dir (Some (device which)) e = cc

-- a directory changed in place leaves the kinds
kind-with_node : (v : Forest) (d : ℕ) (names : Names) → IsDir v d → (q : ℕ) → option_map kind_of (node_at (with_node v d (dir names)) q) ≡ option_map kind_of (node_at v q)
kind-with_node v d names is q = at_insert nat_cmp_total nat_cmp-IsAntisymmetric (λ found. option_map kind_of found ≡ option_map kind_of (node_at v q)) v.nodes d (dir names) q
    (λ same. sym (ap (λ x. option_map kind_of (node_at v x)) same ∙ kind_dir (node_at v d) is))
    (λ _. refl)

kind-with_entry : (v : Forest) (d : ℕ) (name : List ℕ) (n : ℕ) → IsDir v d → (q : ℕ) → option_map kind_of (node_at (with_entry v d name n) q) ≡ option_map kind_of (node_at v q)
unfolding with_entry
kind-with_entry v d name n is q = kind-with_node v d _ is q

kind-without_entry : (v : Forest) (d : ℕ) (name : List ℕ) → IsDir v d → (q : ℕ) → option_map kind_of (node_at (without_entry v d name) q) ≡ option_map kind_of (node_at v q)
unfolding without_entry
kind-without_entry v d name is q = kind-with_node v d _ is q

-- something else kept of the same node
pub pairs-with_inode : (t : Table) (v : Forest) (m : ℕ) (old new : Inode) → IsPairing t v → get t.inodes m ≡ Some old → new.real ≡ old.real → IsPairing (with_inode t m new) v
pairs-with_inode t v m old new s there same = record {
  forth = λ n inode. at_insert nat_cmp_total nat_cmp-IsAntisymmetric (λ found. found ≡ Some inode → get t.by_real inode.real ≡ Some n) t.inodes m new n
      (λ is e. let real : inode.real ≡ old.real = cc in ap (get t.by_real) real ∙ s.forth m old there ∙ ap Some (sym is))
      (λ _ e. s.forth n inode e);
  back = λ real n e. kept n ∙ s.back real n e;
  live = s.live;
  closed = s.closed;
  root = kept 1 ∙ s.root;
}
  where
    kept : (n : ℕ) → real_of (with_inode t m new) n ≡ real_of t n
    kept n = at_insert nat_cmp_total nat_cmp-IsAntisymmetric (λ found. option_map (λ (inode : Inode). inode.real) found ≡ real_of t n) t.inodes m new n
        (λ is. ap Some same ∙ sym (ap (real_of t) is ∙ ap (option_map (λ (inode : Inode). inode.real)) there))
        (λ _. refl)

-- a host with the same nodes
pub pairs-same_nodes : (t : Table) (v w : Forest) → IsPairing t v → w.root ≡ v.root → ((q : ℕ) → is_some (node_at w q) ≡ is_some (node_at v q)) → ((d real : ℕ) (name : List ℕ) → entry w d name ≡ Some real → IsLive w real) → IsPairing t w
pairs-same_nodes t v w s top same closed = record {
  forth = s.forth;
  back = s.back;
  live = λ real. s.live real ∙ sym (same real);
  closed = closed;
  root = s.root ∙ ap Some (sym top);
}

pub attributes-same : (t : Table) (m : ℕ) (old new : Inode) → get t.inodes m ≡ Some old → attributes_of new ≡ attributes_of old → map_values attributes_of (insert t.inodes m new) ≡ map_values attributes_of t.inodes
attributes-same t m old new there same =
    map_values-insert nat_cmp_total attributes_of nat_cmp-IsAntisymmetric t.inodes m new
    ∙ insert-there nat_cmp_total nat_cmp-IsAntisymmetric (map_values attributes_of t.inodes) m (attributes_of new) (get-map_values nat_cmp_total attributes_of t.inodes m ∙ ap (option_map attributes_of) there ∙ ap Some (sym same))

-- another count of names
pub pairs-with_names : (t : Table) (v : Forest) (names : ℕ) → IsPairing t v → IsPairing (with_names t names) v
pairs-with_names t v names s = record { forth = s.forth; back = s.back; live = s.live; closed = s.closed; root = s.root }

-- the attributes after something else was kept of a node
pub attributes-changed : (t : Table) (m : ℕ) (old new : Inode) (f : Attributes → Attributes) → get t.inodes m ≡ Some old → attributes_of new ≡ f (attributes_of old) → map_values attributes_of (insert t.inodes m new) ≡ with_some (map_values attributes_of t.inodes) m (option_map f (get (map_values attributes_of t.inodes) m))
attributes-changed t m old new f there same =
    map_values-insert nat_cmp_total attributes_of nat_cmp-IsAntisymmetric t.inodes m new
    ∙ ap (insert (map_values attributes_of t.inodes) m) same
    ∙ sym (ap (λ found. with_some (map_values attributes_of t.inodes) m (option_map f found)) (get-map_values nat_cmp_total attributes_of t.inodes m ∙ ap (option_map attributes_of) there))

-- other attributes of a node
module _ (t : Table) (v : Forest) (m : ℕ) (old new : Inode) (f : Attributes → Attributes) (s : IsMirror t v) (there : get t.inodes m ≡ Some old) (changed : attributes_of new ≡ f (attributes_of old)) (real : new.real ≡ old.real) (kind : new.kind ≡ old.kind) (names : new.names ≡ old.names) (up : new.up ≡ old.up) where
  pub tree-changed : tree_of (with_inode t m new) v ≡ with_attributes (tree_of t v) m f
  unfolding with_attributes
  tree-changed = let shape = shape-with_inode t v m old new there real in let attributes = attributes-changed t m old new f there changed in λ i. record { shape = shape i; attributes = attributes i; next = t.next; version = t.version }

  pub mirrors-changed : IsMirror (with_inode t m new) v
  mirrors-changed = record {
    pairs = pairs-with_inode t v m old new s.pairs there real;
    kept = λ n inode e. subst (λ shape. IsInodeOf shape n inode) (sym (shape-with_inode t v m old new there real)) (by_inode n inode e);
    counted = s.counted ∙ sym (ap (λ shape. name_count shape) (shape-with_inode t v m old new there real));
  }
    where
      by_inode : (n : ℕ) (inode : Inode) → get (insert t.inodes m new) n ≡ Some inode → IsInodeOf (shape_of t v) n inode
      by_inode n inode = at_insert nat_cmp_total nat_cmp-IsAntisymmetric (λ found. found ≡ Some inode → IsInodeOf (shape_of t v) n inode) t.inodes m new n
          (λ is e. let keeps = s.kept m old there in let same : new ≡ inode = cc in
          subst (λ x. IsInodeOf (shape_of t v) x inode) (sym is) (subst (IsInodeOf (shape_of t v) m) same (record {
            kind = keeps.kind ∙ ap Some (sym kind);
            names = names ∙ keeps.names;
            up = λ k. subst (IsUp (shape_of t v) m) (sym up) (keeps.up (sym kind ∙ k));
          })))
          (λ _ e. s.kept n inode e)

-- a name given
module _ (t : Table) (v : Forest) (d m : ℕ) (above old : Inode) (name : List ℕ) (s : IsMirror t v) (at_d : get t.inodes d ≡ Some above) (at_m : get t.inodes m ≡ Some old) (is : IsDir (shape_of t v) d) (free : entry (shape_of t v) d name ≡ None) where
  pub shape-named : shape_of (with_names (with_inode t m (record old { names = old.names + 1; up = Some d })) (t.names + 1)) (with_entry v above.real name old.real) ≡ with_entry (shape_of t v) d name m
  shape-named =
      shape-with_names (with_inode t m (record old { names = old.names + 1; up = Some d })) (with_entry v above.real name old.real) (t.names + 1)
      ∙ shape-with_inode t (with_entry v above.real name old.real) m old (record old { names = old.names + 1; up = Some d }) at_m refl
      ∙ shape-with_entry t v s.pairs d above name old.real at_d
      ∙ ap (λ found. with_entry (shape_of t v) d name (unwrap_or found 0)) (s.pairs.forth m old at_m)

  pub tree-named : tree_of (with_names (with_inode t m (record old { names = old.names + 1; up = Some d })) (t.names + 1)) (with_entry v above.real name old.real) ≡ with_shape (tree_of t v) (with_entry (shape_of t v) d name m)
  tree-named = let attributes = attributes-same t m old (record old { names = old.names + 1; up = Some d }) at_m refl in let shape = shape-named in λ i. record { shape = shape i; attributes = attributes i; next = t.next; version = t.version }

  stays : (q n : ℕ) (c : List ℕ) → entry (shape_of t v) q c ≡ Some n → entry (with_entry (shape_of t v) d name m) q c ≡ Some n
  stays q n c e = at_with_entry (shape_of t v) d name m (λ found. found ≡ Some n) q c (λ same alike. absurd (not_both (entry (shape_of t v) q c) n (ap (λ x. entry (shape_of t v) x c) same ∙ ap (entry (shape_of t v) d) alike ∙ free) e)) (λ _. e)

  count : (n : ℕ) → name_count_of (with_entry (shape_of t v) d name m) n ≡ name_count_of (shape_of t v) n + one_for n m
  count n = let sum = names_of-with_entry (shape_of t v) d n name m in let none = ap (weight (one_for n)) free in omega arith

  pub mirrors-named : IsMirror (with_names (with_inode t m (record old { names = old.names + 1; up = Some d })) (t.names + 1)) (with_entry v above.real name old.real)
  mirrors-named = record {
    pairs = pairs-with_names (with_inode t m (record old { names = old.names + 1; up = Some d })) (with_entry v above.real name old.real) (t.names + 1) (pairs-with_inode t (with_entry v above.real name old.real) m old _ (pairs-same_nodes t v (with_entry v above.real name old.real) s.pairs (root-with_entry v above.real name old.real) (is_some-with_entry v above.real name old.real (real_dir t v s.pairs d above at_d is)) closed) at_m refl);
    kept = λ n inode e. subst (λ shape. IsInodeOf shape n inode) (sym shape-named) (by_inode n inode e);
    counted = ap (λ n. n + 1) s.counted ∙ sym (ap (λ shape. name_count shape) shape-named ∙ name_count-with_entry (shape_of t v) d name m free);
  }
    where
      closed : (q real : ℕ) (c : List ℕ) → entry (with_entry v above.real name old.real) q c ≡ Some real → IsLive (with_entry v above.real name old.real) real
      closed q real c = at_with_entry v above.real name old.real (λ found. found ≡ Some real → IsLive (with_entry v above.real name old.real) real) q c
          (λ _ _ e. IsLive-with_entry v above.real name old.real real (let same : old.real ≡ real = cc in subst (IsLive v) same (real_live t v s.pairs m old at_m)))
          (λ _ e. IsLive-with_entry v above.real name old.real real (s.pairs.closed q real c e))

      up_still : (n : ℕ) (up : Option ℕ) → n ≢ m → IsUp (shape_of t v) n up → IsUp (with_entry (shape_of t v) d name m) n up
      up_still n None apart u = omega (arith, count n, one_for-other n m apart)
      up_still n (Some q) apart u = (u.0, stays q n u.0 u.1)

      by_inode : (n : ℕ) (inode : Inode) → get (insert t.inodes m (record old { names = old.names + 1; up = Some d })) n ≡ Some inode → IsInodeOf (with_entry (shape_of t v) d name m) n inode
      by_inode n inode = at_insert nat_cmp_total nat_cmp-IsAntisymmetric (λ found. found ≡ Some inode → IsInodeOf (with_entry (shape_of t v) d name m) n inode) t.inodes m (record old { names = old.names + 1; up = Some d }) n
          (λ same e. let keeps = s.kept m old at_m in
          subst (λ x. IsInodeOf (with_entry (shape_of t v) d name m) x inode) (sym same) (subst (IsInodeOf (with_entry (shape_of t v) d name m) m) (let here : record old { names = old.names + 1; up = Some d } ≡ inode = cc in here) (record {
            kind = kind-with_entry (shape_of t v) d name m is m ∙ keeps.kind;
            names = omega (arith, count m, one_for-same m, keeps.names);
            up = λ _. (name, at_with_entry (shape_of t v) d name m (λ found. found ≡ Some m) d name (λ _ _. refl) (λ apart. absurd (apart refl refl)));
          })))
          (λ apart e. let keeps = s.kept n inode e in record {
            kind = kind-with_entry (shape_of t v) d name m is n ∙ keeps.kind;
            names = omega (arith, count n, one_for-other n m apart, keeps.names);
            up = λ k. up_still n inode.up apart (keeps.up k);
          })

-- a name taken away
module _ (t : Table) (v : Forest) (d m : ℕ) (above old : Inode) (name : List ℕ) (s : IsMirror t v) (at_d : get t.inodes d ≡ Some above) (at_m : get t.inodes m ≡ Some old) (here : entry (shape_of t v) d name ≡ Some m) (once : IsDir (shape_of t v) m → name_count_of (shape_of t v) m ≤ 1) where
  is_d : IsDir (shape_of t v) d
  is_d = IsDir-entry (shape_of t v) d name m here

  pub shape-unnamed : shape_of (with_names (with_inode t m (record old { names = old.names - 1; up = None })) (t.names - 1)) (without_entry v above.real name) ≡ without_entry (shape_of t v) d name
  shape-unnamed =
      shape-with_names (with_inode t m (record old { names = old.names - 1; up = None })) (without_entry v above.real name) (t.names - 1)
      ∙ shape-with_inode t (without_entry v above.real name) m old (record old { names = old.names - 1; up = None }) at_m refl
      ∙ shape-without_entry t v s.pairs d above name at_d

  pub tree-unnamed : tree_of (with_names (with_inode t m (record old { names = old.names - 1; up = None })) (t.names - 1)) (without_entry v above.real name) ≡ with_shape (tree_of t v) (without_entry (shape_of t v) d name)
  tree-unnamed = let attributes = attributes-same t m old (record old { names = old.names - 1; up = None }) at_m refl in let shape = shape-unnamed in λ i. record { shape = shape i; attributes = attributes i; next = t.next; version = t.version }

  one_less : (n : ℕ) → name_count_of (without_entry (shape_of t v) d name) n + one_for n m ≡ name_count_of (shape_of t v) n
  one_less n = let sum = names_of-without_entry (shape_of t v) d n name in let one = ap (weight (one_for n)) here in omega arith

  keeps_other : (q n : ℕ) (c : List ℕ) → n ≢ m → entry (shape_of t v) q c ≡ Some n → entry (without_entry (shape_of t v) d name) q c ≡ Some n
  keeps_other q n c apart e = at_without_entry (shape_of t v) d name (λ found. found ≡ Some n) q c (λ same alike. absurd (apart (one (entry (shape_of t v) q c) e (ap (λ x. entry (shape_of t v) x c) same ∙ ap (entry (shape_of t v) d) alike ∙ here)))) (λ _. e)
    where
      one : (found : Option ℕ) → found ≡ Some n → found ≡ Some m → n ≡ m
      one found a b = cc

  pub mirrors-unnamed : IsMirror (with_names (with_inode t m (record old { names = old.names - 1; up = None })) (t.names - 1)) (without_entry v above.real name)
  mirrors-unnamed = record {
    pairs = pairs-with_names (with_inode t m (record old { names = old.names - 1; up = None })) (without_entry v above.real name) (t.names - 1) (pairs-with_inode t (without_entry v above.real name) m old _ (pairs-same_nodes t v (without_entry v above.real name) s.pairs (root-without_entry v above.real name) (is_some-without_entry v above.real name (real_dir t v s.pairs d above at_d is_d)) closed) at_m refl);
    kept = λ n inode e. subst (λ shape. IsInodeOf shape n inode) (sym shape-unnamed) (by_inode n inode e);
    counted = let less = name_count-without_entry (shape_of t v) d name m here in let now = ap (λ shape. name_count shape) shape-unnamed in omega (arith, s.counted);
  }
    where
      closed : (q real : ℕ) (c : List ℕ) → entry (without_entry v above.real name) q c ≡ Some real → IsLive (without_entry v above.real name) real
      closed q real c = at_without_entry v above.real name (λ found. found ≡ Some real → IsLive (without_entry v above.real name) real) q c
          (λ _ _ e. cc)
          (λ _ e. IsLive-without_entry v above.real name real (s.pairs.closed q real c e))

      up_still : (n : ℕ) (up : Option ℕ) → n ≢ m → IsUp (shape_of t v) n up → IsUp (without_entry (shape_of t v) d name) n up
      up_still n None apart u = omega (arith, one_less n)
      up_still n (Some q) apart u = (u.0, keeps_other q n u.0 apart u.1)

      by_inode : (n : ℕ) (inode : Inode) → get (insert t.inodes m (record old { names = old.names - 1; up = None })) n ≡ Some inode → IsInodeOf (without_entry (shape_of t v) d name) n inode
      by_inode n inode = at_insert nat_cmp_total nat_cmp-IsAntisymmetric (λ found. found ≡ Some inode → IsInodeOf (without_entry (shape_of t v) d name) n inode) t.inodes m (record old { names = old.names - 1; up = None }) n
          (λ same e. let keeps = s.kept m old at_m in
          subst (λ x. IsInodeOf (without_entry (shape_of t v) d name) x inode) (sym same) (subst (IsInodeOf (without_entry (shape_of t v) d name) m) (let this : record old { names = old.names - 1; up = None } ≡ inode = cc in this) (record {
            kind = kind-without_entry (shape_of t v) d name is_d m ∙ keeps.kind;
            names = omega (arith, one_less m, one_for-same m, keeps.names);
            up = λ k. let most = once (dir_kind (node_at (shape_of t v) m) (keeps.kind ∙ ap Some k)) in omega (arith, one_less m, one_for-same m);
          })))
          (λ apart e. let keeps = s.kept n inode e in record {
            kind = kind-without_entry (shape_of t v) d name is_d n ∙ keeps.kind;
            names = omega (arith, one_less n, one_for-other n m apart, keeps.names);
            up = λ k. up_still n inode.up apart (keeps.up k);
          })

-- the directory that is kept is the one above
pub up-inode : (t : Table) (v : Forest) (n : ℕ) (inode : Inode) → Stands t v → get t.inodes n ≡ Some inode → IsDir (shape_of t v) n → inode.up ≡ parent_at (shape_of t v) n
up-inode t v n inode s there is =
    let keeps = s.mirrors.kept n inode there in
    by_up inode.up (keeps.up (same_kind (sym keeps.kind ∙ kind_dir (node_at (shape_of t v) n) is)))
  where
    same_kind : Some inode.kind ≡ Some Dir → inode.kind ≡ Dir
    same_kind e = cc

    by_up : (up : Option ℕ) → IsUp (shape_of t v) n up → up ≡ parent_at (shape_of t v) n
    by_up None h = sym (no_parent (shape_of t v) n h)
    by_up (Some d) h = sym (parent_is (shape_of t v) s.tree.shaped n d h.0 is h.1)

-- what the test for an unused node reads, by what is kept of it
pub is_unused-inode : (t : Table) (v : Forest) (n : ℕ) (inode : Inode) → IsMirror t v → get t.inodes n ≡ Some inode → is_unused (tree_of t v) n ≡ (not (n == 1) && (inode.names == 0) && (inode.holds == 0))
is_unused-inode t v n inode s there =
    ap (λ k. not (n == 1) && (k == 0) && (holds_of (tree_of t v) n == 0)) (sym (s.kept n inode there).names)
    ∙ ap (λ k. not (n == 1) && (inode.names == 0) && (k == 0)) (ap (λ found. unwrap_or (option_map (λ (a : Attributes). a.holds) found) 0) (get-map_values nat_cmp_total attributes_of t.inodes n ∙ ap (option_map attributes_of) there))

-- a node's holds are those that are kept
pub holds-inode : (t : Table) (v : Forest) (n : ℕ) (inode : Inode) → get t.inodes n ≡ Some inode → holds_of (tree_of t v) n ≡ inode.holds
holds-inode t v n inode there = ap (λ found. unwrap_or (option_map (λ (a : Attributes). a.holds) found) 0) (get-map_values nat_cmp_total attributes_of t.inodes n ∙ ap (option_map attributes_of) there)

-- what is held is kept
pub has_inode-held : (t : Table) (v : Forest) (n : ℕ) → 0 < holds_of (tree_of t v) n → IsSome (get t.inodes n)
has_inode-held t v n some = by_found (get t.inodes n) (subst (λ found. 0 < unwrap_or (option_map (λ (a : Attributes). a.holds) found) 0) (get-map_values nat_cmp_total attributes_of t.inodes n) some)
  where
    by_found : (found : Option Inode) → 0 < unwrap_or (option_map (λ (a : Attributes). a.holds) (option_map attributes_of found)) 0 → IsSome found
    by_found None h = absurd (omega arith)
    by_found (Some x) h = refl
