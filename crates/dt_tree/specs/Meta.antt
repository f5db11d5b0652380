-- What is told of a node (stat(2), inode(7)).
use Rattle.std.specs.Prelude.{ℕ, ◌+◌, if◌then◌else◌, length, Option, option_map, option_and_then}
use Rattle.std.specs.List.{count_by}
use Rattle.std.specs.FinMap.{get, entries}
use Rattle.dt_host.specs.World.{Forest, Node, file, dir, link, device, node_at, names_at}
use Rattle.dt_tree.specs.declared.limits.TheConstants.{DIR_SIZE}
use Rattle.dt_tree.specs.declared.meta.Meta.{Meta}
use Rattle.dt_tree.specs.Shape.{name_count_of, is_dir, is_removed}
use Rattle.dt_tree.specs.FileTree.{FileTree}
use Rattle.dt_tree.specs.Listing.{type_of}

-- the size: a file's bytes, the target's of a link, one number for every directory, and 0 for a device
abbrev pub node_size : Node → ℕ
node_size (file bytes) = length bytes
node_size (dir names) = DIR_SIZE
node_size (link target) = length target
node_size (device which) = 0

-- how many of a directory's entries are for directories
abbrev pub subdirectory_count : Forest → ℕ → ℕ
subdirectory_count v d = count_by (λ e. is_dir v e.1) (entries (names_at v d))

-- the link count (stat(2)): of a directory 2 and its subdirectories, 0 where it is removed; of any other node its names
abbrev pub nlink_of : Forest → ℕ → ℕ
nlink_of v n =
    if is_dir v n then (if is_removed v n then 0 else 2 + subdirectory_count v n)
    else name_count_of v n

-- what is told of a node, if it is there
abbrev pub meta_of : FileTree → ℕ → Option Meta
meta_of t n = option_and_then (λ node. option_map (λ a. record {
  kind = type_of node;
  mode = a.mode;
  nlink = nlink_of t.shape n;
  size = node_size node;
  stamp = a.stamp;
}) (get t.attributes n)) (node_at t.shape n)
