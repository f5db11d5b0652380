-- The file tree of an image: the root, and one node for each entry.
use Rattle.std.specs.Prelude.{◌≡◌, ℕ, ◌+◌, List, [], map, length}
use Rattle.std.specs.List.{filter, enumerate_from, after_last}
use Rattle.std.specs.Str.{bytes_eq}
use Rattle.std.specs.Ordering.{nat_cmp}
use Rattle.std.specs.FinMap.{FinMap, insert, from_entries}
use Rattle.dt_base.specs.declared.image.Entry.{Entry}
use Rattle.dt_base.specs.declared.image.What.{What}
use Rattle.dt_base.specs.declared.image.What.TheVariants.{File, Dir, Link, Dev}
use Rattle.dt_base.specs.declared.profile.TheConstants.{FIRST_VERSION}
use Rattle.dt_base.specs.Image.{ImageParts}
use Rattle.dt_base.specs.Path.{is_slash, parent_of}
use Rattle.dt_host.specs.World.{Forest, Names, Node, file, dir, link, device, empty_forest}
use Rattle.dt_tree.specs.declared.limits.TheConstants.{ROOT, FIRST_INODE, ROOT_MODE}
use Rattle.dt_tree.specs.FileTree.{Attributes, FileTree}

-- the last name of a path
abbrev pub last_name : List ℕ → List ℕ
last_name path = after_last is_slash path

-- each entry with its inode
abbrev pub numbered_entries : List Entry → List (ℕ × Entry)
numbered_entries entries = enumerate_from FIRST_INODE entries

-- the names of a directory: the last name of each entry whose path without it is the directory's, with the entry's inode. The root's path is empty here
unfoldable pub names_below : List Entry → List ℕ → Names
names_below entries path = from_entries (map (λ e. (last_name e.1.path, e.0)) (filter (λ e. bytes_eq (parent_of e.1.path) path) (numbered_entries entries)))

-- the node of what stands at a path
abbrev pub node_of : List Entry → List ℕ → What → Node
node_of entries path (File bytes) = file bytes
node_of entries path Dir = dir (names_below entries path)
node_of entries path (Link target) = link target
node_of entries path (Dev which) = device which

-- what a node is: a file with its bytes, a directory without its entries, a link with its target, a device with which it is
abbrev pub what_of : Node → What
what_of (file bytes) = File bytes
what_of (dir names) = Dir
what_of (link target) = Link target
what_of (device which) = Dev which

-- the nodes by inode
unfoldable pub image_nodes : List Entry → FinMap nat_cmp Node
image_nodes entries = insert (from_entries (map (λ e. (e.0, node_of entries e.1.path e.1.what)) (numbered_entries entries))) ROOT (dir (names_below entries []))

-- a node of this mode at the start: never modified, and not held
abbrev pub start_attributes : ℕ → Attributes
start_attributes mode = record { mode = mode; stamp = 0; holds = 0 }

-- their attributes
unfoldable pub image_attributes : List Entry → FinMap nat_cmp Attributes
image_attributes entries = insert (from_entries (map (λ e. (e.0, start_attributes e.1.mode)) (numbered_entries entries))) ROOT (start_attributes ROOT_MODE)

-- the tree of an image
abbrev pub image_tree : ImageParts → FileTree
image_tree image = record {
  shape = record { nodes = image_nodes image.entries; root = ROOT };
  attributes = image_attributes image.entries;
  next = FIRST_INODE + length image.entries;
  version = image.version;
}

-- the tree of no entries
abbrev pub root_tree : FileTree
root_tree = image_tree (record { version = FIRST_VERSION; entries = [] })

-- the nodes of a host are a root without entries and nothing else
abbrev pub IsEmptyRoot : Forest → Type 0
IsEmptyRoot v = v ≡ empty_forest v.root
