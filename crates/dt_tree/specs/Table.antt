-- What a tree keeps beside its host, the file tree that both give, and when they fit. Where a number or a node is not there a
-- default stands, which nobody reads where the table stands for a tree.
use Rattle.std.specs.Prelude.{◌≡◌, ℕ, List, [], Option, None, Some, is_some, unwrap_or, option_map}
use Rattle.std.specs.Ordering.{nat_cmp}
use Rattle.std.specs.FinMap.{FinMap, get}
use Rattle.dt_base.specs.declared.image.Device as base
use Rattle.dt_host.specs.World.{Forest, Node, file, dir, link, device, node_at, entry, IsLive}
use Rattle.dt_tables.specs.Values.{map_values}
use Rattle.dt_tree.specs.declared.inode.Kind.{Kind}
use Rattle.dt_tree.specs.declared.inode.Kind.TheVariants.{File, Dir, Link, Device}
use Rattle.dt_tree.specs.declared.inode.Inode.{Inode}
use Rattle.dt_tree.specs.declared.limits.TheConstants.{ROOT}
use Rattle.dt_tree.specs.Shape.{name_count_of, name_count}
use Rattle.dt_tree.specs.FileTree.{Attributes, FileTree, IsTree}

-- what is kept of each node by its inode, the inode of each number at the host, the inode of the next new node, how many
-- names there are in all, and the version of the image
pub record Table : Type 0 where
  pub inodes : FinMap nat_cmp Inode
  pub by_real : FinMap nat_cmp ℕ
  pub next : ℕ
  pub names : ℕ
  pub version : ℕ

-- the inode of a number at the host
abbrev pub vino_of : Table → ℕ → ℕ
vino_of t real = unwrap_or (get t.by_real real) 0

-- the number at the host of a node
abbrev pub real_of : Table → ℕ → Option ℕ
real_of t n = option_map (λ inode. inode.real) (get t.inodes n)

-- a node with inodes in the place of the host's numbers
abbrev pub renumbered_node : (ℕ → ℕ) → Node → Node
renumbered_node f (file bytes) = file bytes
renumbered_node f (dir names) = dir (map_values f names)
renumbered_node f (link target) = link target
renumbered_node f (device which) = device which

-- the node that is kept at the host, with inodes in its entries
abbrev pub node_for : Table → Forest → Inode → Node
node_for t v inode = renumbered_node (vino_of t) (unwrap_or (node_at v inode.real) (file []))

-- the nodes of the host by their inodes
unfoldable pub shape_of : Table → Forest → Forest
shape_of t v = record { nodes = map_values (node_for t v) t.inodes; root = ROOT }

-- the attributes that the table keeps
abbrev pub attributes_of : Inode → Attributes
attributes_of inode = record { mode = inode.mode; stamp = inode.stamp; holds = inode.holds }

-- the file tree that a table and its host's nodes give
abbrev pub tree_of : Table → Forest → FileTree
tree_of t v = record { shape = shape_of t v; attributes = map_values attributes_of t.inodes; next = t.next; version = t.version }

-- what kind of node it is
abbrev pub kind_of : Node → Kind
kind_of (file bytes) = File
kind_of (dir names) = Dir
kind_of (link target) = Link
kind_of (device which) = Device which

-- which device a node of that kind is, if it is one
abbrev pub device_of_kind : Kind → Option base.Device
device_of_kind File = None
device_of_kind Dir = None
device_of_kind Link = None
device_of_kind (Device which) = Some which

-- a directory is named by that one, or by none
abbrev pub IsUp : Forest → ℕ → Option ℕ → Type 0
IsUp s n None = name_count_of s n ≡ 0
IsUp s n (Some d) = (name : List ℕ) × (entry s d name ≡ Some n)

-- what is kept of a node for speed is true
pub record IsInodeOf (s : Forest) (n : ℕ) (inode : Inode) : Type 0 where
  pub kind : option_map kind_of (node_at s n) ≡ Some inode.kind
  pub names : inode.names ≡ name_count_of s n
  pub up : inode.kind ≡ Dir → IsUp s n inode.up

-- inodes and numbers of the host go one to one, with nothing left over, and the root goes to the root
pub record IsPairing (t : Table) (v : Forest) : Type 0 where
  pub forth : (n : ℕ) (inode : Inode) → get t.inodes n ≡ Some inode → get t.by_real inode.real ≡ Some n
  pub back : (real n : ℕ) → get t.by_real real ≡ Some n → real_of t n ≡ Some real
  pub live : (real : ℕ) → is_some (get t.by_real real) ≡ is_some (node_at v real)
  pub closed : (d real : ℕ) (name : List ℕ) → entry v d name ≡ Some real → IsLive v real
  pub root : real_of t ROOT ≡ Some v.root

-- and what is kept for speed is true, and the names are counted
pub record IsMirror (t : Table) (v : Forest) : Type 0 where
  pub pairs : IsPairing t v
  pub kept : (n : ℕ) (inode : Inode) → get t.inodes n ≡ Some inode → IsInodeOf (shape_of t v) n inode
  pub counted : t.names ≡ name_count (shape_of t v)

-- the table and the host's nodes stand for a file tree, which is `tree_of`
pub record Stands (t : Table) (v : Forest) : Type 0 where
  pub mirrors : IsMirror t v
  pub tree : IsTree (tree_of t v)
