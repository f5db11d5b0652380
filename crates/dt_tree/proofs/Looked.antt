-- What is told of a node by what is kept of it.
use Rattle.std.proofs.Common.{◌≡◌, ℕ, ◌+◌, List, [], length, cond, true, false, Option, Some, None, refl, sym, ap, subst, ◌∙◌}
use Rattle.std.specs.Prelude.{IsSome, is_some, unwrap_or, option_map, option_and_then, IfSome}
use Rattle.std.specs.Cmp.{nat_cmp_total}
use Rattle.std.specs.FinMap.{get}
use Rattle.dt_base.specs.declared.image.Device as base
use Rattle.dt_host.specs.World.{Forest, Node, file, dir, link, device, node_at, dir_names, dir_at, link_target, target_at, node_device, device_at, file_bytes, file_at, IsDir, IsLink, content}
use Rattle.dt_tables.specs.Values.{map_values}
use Rattle.dt_tables.proofs.Found.{some_true}
use Rattle.dt_tables.proofs.Valued.{get-map_values}
use Rattle.dt_tree.specs.declared.inode.Kind.{Kind}
use Rattle.dt_tree.specs.declared.inode.Kind.TheVariants.{File, Dir, Link, Device}
use Rattle.dt_tree.specs.declared.inode.Inode.{Inode}
use Rattle.dt_tree.specs.declared.limits.TheConstants.{DIR_SIZE}
use Rattle.dt_tree.specs.Shape.{name_count_of, is_dir, is_link, is_removed}
use Rattle.dt_tree.specs.Listing.{type_of, type_at}
use Rattle.dt_tree.specs.FileTree.{Attributes}
use Rattle.dt_tree.specs.declared.meta.Meta.{Meta}
use Rattle.dt_tree.specs.Meta.{node_size, nlink_of, subdirectory_count, meta_of}
use Rattle.dt_tree.specs.Table.{Table, node_for, attributes_of, shape_of, tree_of, kind_of, device_of_kind, IsMirror, IsPairing}
use Rattle.dt_tree.specs.inner.Kinds.{type_for}
use Rattle.dt_tree.proofs.Mirroring.{node_at-shape, target_at-inode, file_at-inode}

-- where nothing is kept, no node is
pub none_at : (t : Table) (v : Forest) (n : ℕ) → get t.inodes n ≡ None → node_at (shape_of t v) n ≡ None
none_at t v n e = node_at-shape t v n ∙ ap (option_map (node_for t v)) e

pub is_dir-none : (t : Table) (v : Forest) (n : ℕ) → get t.inodes n ≡ None → false ≡ is_dir (shape_of t v) n
is_dir-none t v n e = sym (ap (λ found. is_some (option_and_then dir_names found)) (none_at t v n e))

pub is_link-none : (t : Table) (v : Forest) (n : ℕ) → get t.inodes n ≡ None → false ≡ is_link (shape_of t v) n
is_link-none t v n e = sym (ap (λ found. is_some (option_and_then link_target found)) (none_at t v n e))

pub device_at-none : (t : Table) (v : Forest) (n : ℕ) → get t.inodes n ≡ None → None ≡ device_at (shape_of t v) n
device_at-none t v n e = sym (ap (option_and_then node_device) (none_at t v n e))

pub type_at-none : (t : Table) (v : Forest) (n : ℕ) → get t.inodes n ≡ None → 0 ≡ type_at (shape_of t v) n
type_at-none t v n e = sym (ap (λ found. unwrap_or (option_map type_of found) 0) (none_at t v n e))

type_by : (found : Option Node) (kind : Kind) → option_map kind_of found ≡ Some kind → option_map type_of found ≡ Some (type_for kind)
type_by None kind e = cc
type_by (Some (file bytes)) kind e = let same : File ≡ kind = cc in ap (λ k. Some (type_for k)) same
type_by (Some (dir names)) kind e = let same : Dir ≡ kind = cc in ap (λ k. Some (type_for k)) same
type_by (Some (link target)) kind e = let same : Link ≡ kind = cc in ap (λ k. Some (type_for k)) same
type_by (Some (device which)) kind e = let same : Device which ≡ kind = cc in ap (λ k. Some (type_for k)) same

device_by : (found : Option Node) (kind : Kind) → option_map kind_of found ≡ Some kind → option_and_then node_device found ≡ device_of_kind kind
device_by None kind e = cc
device_by (Some (file bytes)) kind e = let same : File ≡ kind = cc in ap device_of_kind same
device_by (Some (dir names)) kind e = let same : Dir ≡ kind = cc in ap device_of_kind same
device_by (Some (link target)) kind e = let same : Link ≡ kind = cc in ap device_of_kind same
device_by (Some (device which)) kind e = let same : Device which ≡ kind = cc in ap device_of_kind same

module _ (t : Table) (v : Forest) (s : IsMirror t v) (n : ℕ) (inode : Inode) (at : get t.inodes n ≡ Some inode) where
  pub type_at-some : type_for inode.kind ≡ type_at (shape_of t v) n
  type_at-some = sym (ap (λ found. unwrap_or found 0) (type_by (node_at (shape_of t v) n) inode.kind (s.kept n inode at).kind))

  pub device_at-some : device_of_kind inode.kind ≡ device_at (shape_of t v) n
  device_at-some = sym (device_by (node_at (shape_of t v) n) inode.kind (s.kept n inode at).kind)

  -- a node of each kind
  pub kept_file : inode.kind ≡ File → (bytes : List ℕ) × (node_at (shape_of t v) n ≡ Some (file bytes)) × (file_at v inode.real ≡ Some bytes)
  kept_file is = by_node (node_at (shape_of t v) n) refl ((s.kept n inode at).kind ∙ ap Some is)
    where
      by_node : (found : Option Node) → node_at (shape_of t v) n ≡ found → option_map kind_of found ≡ Some File → (bytes : List ℕ) × (node_at (shape_of t v) n ≡ Some (file bytes)) × (file_at v inode.real ≡ Some bytes)
      by_node None e h = cc
      by_node (Some (file bytes)) e h = (bytes, e, sym (file_at-inode t v s.pairs n inode at) ∙ ap (option_and_then file_bytes) e)
      by_node (Some (dir names)) e h = cc
      by_node (Some (link target)) e h = cc
      by_node (Some (device which)) e h = cc

  pub kept_link : inode.kind ≡ Link → (target : List ℕ) × (node_at (shape_of t v) n ≡ Some (link target)) × (target_at v inode.real ≡ Some target)
  kept_link is = by_node (node_at (shape_of t v) n) refl ((s.kept n inode at).kind ∙ ap Some is)
    where
      by_node : (found : Option Node) → node_at (shape_of t v) n ≡ found → option_map kind_of found ≡ Some Link → (target : List ℕ) × (node_at (shape_of t v) n ≡ Some (link target)) × (target_at v inode.real ≡ Some target)
      by_node None e h = cc
      by_node (Some (file bytes)) e h = cc
      by_node (Some (dir names)) e h = cc
      by_node (Some (link target)) e h = (target, e, sym (target_at-inode t v s.pairs n inode at) ∙ ap (option_and_then link_target) e)
      by_node (Some (device which)) e h = cc

  pub size-file : inode.kind ≡ File → (size : ℕ) → IfSome (file_at v inode.real) (λ bytes. size ≡ length bytes) → option_map node_size (node_at (shape_of t v) n) ≡ Some size
  size-file is size h =
      let it = kept_file is in
      let told : size ≡ length it.0 = subst (λ found. IfSome found (λ bytes. size ≡ length bytes)) it.2 h in
      ap (option_map node_size) it.1 ∙ ap Some (sym told)

  pub size-dir : inode.kind ≡ Dir → option_map node_size (node_at (shape_of t v) n) ≡ Some DIR_SIZE
  size-dir is = by_node (node_at (shape_of t v) n) ((s.kept n inode at).kind ∙ ap Some is)
    where
      by_node : (found : Option Node) → option_map kind_of found ≡ Some Dir → option_map node_size found ≡ Some DIR_SIZE
      by_node None h = cc
      by_node (Some (file bytes)) h = cc
      by_node (Some (dir names)) h = refl
      by_node (Some (link target)) h = cc
      by_node (Some (device which)) h = cc

  pub size-device : (which : base.Device) → inode.kind ≡ Device which → option_map node_size (node_at (shape_of t v) n) ≡ Some 0
  size-device which is = by_node (node_at (shape_of t v) n) ((s.kept n inode at).kind ∙ ap Some is)
    where
      by_node : (found : Option Node) → option_map kind_of found ≡ Some (Device which) → option_map node_size found ≡ Some 0
      by_node None h = cc
      by_node (Some (file bytes)) h = cc
      by_node (Some (dir names)) h = cc
      by_node (Some (link target)) h = cc
      by_node (Some (device other)) h = refl

  pub size-link : inode.kind ≡ Link → (target : List ℕ) → target_at v inode.real ≡ Some target → option_map node_size (node_at (shape_of t v) n) ≡ Some (length target)
  size-link is target h =
      let it = kept_link is in
      let same : it.0 ≡ target = cc in
      ap (option_map node_size) it.1 ∙ ap (λ (x : List ℕ). Some (length x)) same

  pub real_link : inode.kind ≡ Link → IsLink v inode.real
  real_link is = let it = kept_link is in subst (λ found. IsSome found) (sym it.2) refl

  -- what is told of a node
  pub meta-kept : (nlink size : ℕ) → nlink ≡ nlink_of (shape_of t v) n → option_map node_size (node_at (shape_of t v) n) ≡ Some size → meta_of (tree_of t v) n ≡ Some (record { kind = type_for inode.kind; mode = inode.mode; nlink = nlink; size = size; stamp = inode.stamp })
  meta-kept nlink size links sized =
      by_node (node_at (shape_of t v) n) (type_by (node_at (shape_of t v) n) inode.kind (s.kept n inode at).kind) sized
      ∙ ap (λ k. Some (record { kind = type_for inode.kind; mode = inode.mode; nlink = k; size = size; stamp = inode.stamp })) (sym links)
    where
      there : get (map_values attributes_of t.inodes) n ≡ Some (attributes_of inode)
      there = get-map_values nat_cmp_total attributes_of t.inodes n ∙ ap (option_map attributes_of) at

      at_kind : ℕ → ℕ → Meta
      at_kind kind size = record { kind = kind; mode = inode.mode; nlink = nlink_of (shape_of t v) n; size = size; stamp = inode.stamp }

      by_node : (found : Option Node) → option_map type_of found ≡ Some (type_for inode.kind) → option_map node_size found ≡ Some size → option_and_then {U = Meta} (λ node. option_map {U = Meta} (λ a. record { kind = type_of node; mode = a.mode; nlink = nlink_of (shape_of t v) n; size = node_size node; stamp = a.stamp }) (get (map_values attributes_of t.inodes) n)) found ≡ Some (record { kind = type_for inode.kind; mode = inode.mode; nlink = nlink_of (shape_of t v) n; size = size; stamp = inode.stamp })
      by_node None e f = cc
      by_node (Some node) e f =
          let kind : type_of node ≡ type_for inode.kind = cc in
          let sized : node_size node ≡ size = cc in
          ap (option_map {U = Meta} (λ (a : Attributes). record { kind = type_of node; mode = a.mode; nlink = nlink_of (shape_of t v) n; size = node_size node; stamp = a.stamp })) there
          ∙ (λ i. Some (at_kind (kind i) (sized i)))

-- the bytes of a file
pub content-inode : (t : Table) (v : Forest) (s : IsPairing t v) (n : ℕ) (inode : Inode) → get t.inodes n ≡ Some inode → content (shape_of t v) n ≡ content v inode.real
unfolding content
content-inode t v s n inode at = ap (λ (found : Option (List ℕ)). unwrap_or found []) (file_at-inode t v s n inode at)

pub nlink_of-removed : (v : Forest) (d : ℕ) → IsDir v d → is_removed v d ≡ true → nlink_of v d ≡ 0
nlink_of-removed v d is gone = ap (λ b. cond b (cond (is_removed v d) 0 (2 + subdirectory_count v d)) (name_count_of v d)) (some_true (dir_at v d) is) ∙ ap (λ b. cond b 0 (2 + subdirectory_count v d)) gone

pub nlink_of-there : (v : Forest) (d : ℕ) → IsDir v d → is_removed v d ≡ false → nlink_of v d ≡ 2 + subdirectory_count v d
nlink_of-there v d is there = ap (λ b. cond b (cond (is_removed v d) 0 (2 + subdirectory_count v d)) (name_count_of v d)) (some_true (dir_at v d) is) ∙ ap (λ b. cond b 0 (2 + subdirectory_count v d)) there
