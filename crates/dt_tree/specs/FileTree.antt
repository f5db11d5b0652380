-- The file tree that the processes of a container see (inode(7)).
use Rattle.std.specs.Prelude.{◌≡◌, ◌≢◌, ℕ, ◌+◌, ◌≤◌, ◌<◌, Bool, not, ◌&&◌, List, length, Option, None, Some, is_some, IsSome, IsTrue, unwrap_or, option_map}
use Rattle.std.specs.List.{list_any}
use Rattle.std.specs.Ordering.{nat_cmp}
use Rattle.std.specs.FinMap.{FinMap, get, len}
use Rattle.dt_base.specs.declared.limits.TheConstants.{MODE_LIMIT, LINK_MODE}
use Rattle.dt_base.specs.Path.{is_slash, has_no_nul, is_name}
use Rattle.dt_base.specs.Image.{is_target}
use Rattle.dt_base.specs.Profile.{is_version, file_limit, has_devices}
use Rattle.dt_host.specs.World.{Forest, Node, file, dir, link, device, node_at, IsLive}
use Rattle.dt_tree.specs.declared.limits.TheConstants.{ROOT, NODE_LIMIT, NAMES_LIMIT}
use Rattle.dt_tree.specs.Shape.{name_count_of, name_count, IsShaped}

-- what a node has beside its bytes, entries or target; its holds are the open descriptions and working directories that name it
pub record Attributes : Type 0 where
  pub mode : ℕ
  pub stamp : ℕ
  pub holds : ℕ

-- the nodes by inode, with their attributes, the inode of the next new node, and the version of the image that it began as
pub record FileTree : Type 0 where
  pub shape : Forest
  pub attributes : FinMap nat_cmp Attributes
  pub next : ℕ
  pub version : ℕ

-- how many hold a node
abbrev pub holds_of : FileTree → ℕ → ℕ
holds_of t n = unwrap_or (option_map (λ a. a.holds) (get t.attributes n)) 0

-- a name that a directory may have: 1 to 255 bytes, none of them 0 or `/`, and neither `.` nor `..`
abbrev pub is_entry_name : List ℕ → Bool
is_entry_name name = is_name name && has_no_nul name && not (list_any is_slash name)

-- a file is within the limit of the version, a directory's names and a link's target are good, a device stands only where the
-- version has devices, and a mode is at most 07777, a link's 0777
abbrev pub IsGoodNode : ℕ → Node → ℕ → Type 0
IsGoodNode version (file bytes) mode = (length bytes ≤ file_limit version) × (mode ≤ MODE_LIMIT)
IsGoodNode version (dir names) mode = ((name : List ℕ) → IsSome (get names name) → IsTrue (is_entry_name name)) × (mode ≤ MODE_LIMIT)
IsGoodNode version (link target) mode = IsTrue (is_target target) × (mode ≡ LINK_MODE)
IsGoodNode version (device which) mode = IsTrue (has_devices version) × (mode ≤ MODE_LIMIT)

-- a tree, but that one node, if one is given, may have neither a name nor a hold. Nodes and attributes have the same inodes.
-- Each inode lies between the root's and the next new one, so none is used again
pub record IsTreeBut (lost : Option ℕ) (t : FileTree) : Type 0 where
  pub version : IsTrue (is_version t.version)
  pub shaped : IsShaped t.shape
  pub root : t.shape.root ≡ ROOT
  pub same : (n : ℕ) → is_some (get t.attributes n) ≡ is_some (node_at t.shape n)
  pub good : (n : ℕ) (node : Node) (a : Attributes) → node_at t.shape n ≡ Some node → get t.attributes n ≡ Some a → IsGoodNode t.version node a.mode
  pub low : (n : ℕ) → IsLive t.shape n → ROOT ≤ n
  pub fresh : (n : ℕ) → IsLive t.shape n → n < t.next
  pub few : len t.shape.nodes ≤ NODE_LIMIT
  pub few_names : name_count t.shape ≤ NAMES_LIMIT
  pub used : (n : ℕ) → IsLive t.shape n → n ≢ ROOT → lost ≢ Some n → 1 ≤ name_count_of t.shape n + holds_of t n

-- a tree: each node but the root has a name or a hold
abbrev pub IsTree : FileTree → Type 0
IsTree t = IsTreeBut None t
