-- What the calls that change a file tree make of it (mkdir(2), symlink(2), link(2), unlink(2), rename(2), chmod(2), write(2),
-- truncate(2)). A node goes with its last name and hold. Each change is of nodes and names that are there: its callers see
-- to that.
use Rattle.std.specs.Prelude.{ℕ, ◌+◌, ◌-◌, ◌==◌, not, ◌&&◌, Bool, List, Option, None, Some, unwrap_or, option_map, if◌then◌else◌}
use Rattle.std.specs.Ordering.{nat_cmp}
use Rattle.std.specs.FinMap.{FinMap, empty, get, insert, remove}
use Rattle.dt_base.specs.Bytes.{with_bytes_at, with_trailing_zeros, with_length}
use Rattle.dt_base.specs.declared.image.What.{What}
use Rattle.dt_base.specs.declared.image.What.TheVariants.{File, Dir, Link, Dev}
use Rattle.dt_host.specs.World.{Forest, Node, file, dir, link, device, entry, content, with_node, with_bytes, with_entry, without_entry, without_node}
use Rattle.dt_tree.specs.declared.limits.TheConstants.{ROOT}
use Rattle.dt_tree.specs.Shape.{name_count_of}
use Rattle.dt_tree.specs.FileTree.{Attributes, FileTree, holds_of}

-- with another shape
abbrev pub with_shape : FileTree → Forest → FileTree
with_shape t v = record t { shape = v }

-- a map with this at a key, if there is something
abbrev pub with_some : {X : Type 0} → FinMap nat_cmp X → ℕ → Option X → FinMap nat_cmp X
with_some m n None = m
with_some m n (Some x) = insert m n x

-- with the attributes of a node changed
unfoldable pub with_attributes : FileTree → ℕ → (Attributes → Attributes) → FileTree
with_attributes t n change = record t { attributes = with_some t.attributes n (option_map change (get t.attributes n)) }

-- attributes with another stamp
abbrev pub with_stamp : ℕ → Attributes → Attributes
with_stamp stamp a = record a { stamp = stamp }

-- with another mode
abbrev pub with_mode : ℕ → Attributes → Attributes
with_mode mode a = record a { mode = mode }

-- with one hold more
abbrev pub attributes_with_hold : Attributes → Attributes
attributes_with_hold a = record a { holds = a.holds + 1 }

-- with one hold fewer
abbrev pub attributes_without_hold : Attributes → Attributes
attributes_without_hold a = record a { holds = a.holds - 1 }

-- a node was modified at this time
abbrev pub tree_with_stamp : FileTree → ℕ → ℕ → FileTree
tree_with_stamp t n stamp = with_attributes t n (with_stamp stamp)

-- a node but the root that has neither names nor holds
abbrev pub is_unused : FileTree → ℕ → Bool
is_unused t n = not (n == ROOT) && (name_count_of t.shape n == 0) && (holds_of t n == 0)

-- without a node
abbrev pub tree_without : FileTree → ℕ → FileTree
tree_without t n = record t { shape = without_node t.shape n; attributes = remove t.attributes n }

-- a node goes where nothing names or holds it
unfoldable pub without_unused : FileTree → ℕ → FileTree
without_unused t n = if is_unused t n then tree_without t n else t

-- the same of what stood in an entry, if something did
abbrev pub without_unused_found : Option ℕ → FileTree → FileTree
without_unused_found None t = t
without_unused_found (Some n) t = without_unused t n

-- the node of a file with its bytes, of a directory without entries, of a link with its target, of a device
abbrev pub new_node : What → Node
new_node (File bytes) = file bytes
new_node Dir = dir empty
new_node (Link target) = link target
new_node (Dev which) = device which

-- a new node, without a name yet, has the next inode
abbrev pub with_nameless : FileTree → Node → ℕ → ℕ → FileTree
with_nameless t node mode stamp = record t {
  shape = with_node t.shape t.next node;
  attributes = insert t.attributes t.next (record { mode = mode; stamp = stamp; holds = 0 });
  next = t.next + 1;
}

-- a new node and its name
unfoldable pub tree_with_new : FileTree → ℕ → List ℕ → Node → ℕ → ℕ → FileTree
tree_with_new t d name node mode stamp =
    let new = with_nameless t node mode stamp in
    with_shape new (with_entry new.shape d name t.next)

-- a directory, a link, a file or a device is made: it and the directory that names it have the stamp
unfoldable pub tree_after_make : FileTree → ℕ → List ℕ → What → ℕ → ℕ → FileTree
tree_after_make t d name what mode stamp = tree_with_stamp (tree_with_new t d name (new_node what) mode stamp) d stamp

-- a node has one name more
unfoldable pub tree_after_link : FileTree → ℕ → List ℕ → ℕ → ℕ → FileTree
tree_after_link t d name n stamp = tree_with_stamp (with_shape t (with_entry t.shape d name n)) d stamp

-- a name goes, and its node if that was its last name and nothing holds it
unfoldable pub tree_after_unlink : FileTree → ℕ → List ℕ → ℕ → FileTree
tree_after_unlink t d name stamp =
    without_unused_found (entry t.shape d name) (tree_with_stamp (with_shape t (without_entry t.shape d name)) d stamp)

-- a name moves, in the place of one that may be there, whose node goes as if it were unlinked
unfoldable pub tree_after_rename : FileTree → ℕ → List ℕ → ℕ → List ℕ → ℕ → FileTree
tree_after_rename t from old to new stamp =
    let n = unwrap_or (entry t.shape from old) 0 in
    let shape = with_entry (without_entry t.shape from old) to new n in
    without_unused_found (entry t.shape to new) (tree_with_stamp (tree_with_stamp (with_shape t shape) from stamp) to stamp)

-- a node has another mode
abbrev pub tree_after_chmod : FileTree → ℕ → ℕ → FileTree
tree_after_chmod t n mode = with_attributes t n (with_mode mode)

-- a node is held once more
abbrev pub tree_after_hold : FileTree → ℕ → FileTree
tree_after_hold t n = with_attributes t n attributes_with_hold

-- a node is held once less, and goes if it has no name and that was its last hold
unfoldable pub tree_after_release : FileTree → ℕ → FileTree
tree_after_release t n = without_unused (with_attributes t n attributes_without_hold) n

-- bytes are written over a file from an offset on, with zeros in the gap where that lies past its end; the gap is filled also
-- where there are no bytes, which a call that writes none does not come to
unfoldable pub tree_after_write : FileTree → ℕ → ℕ → List ℕ → ℕ → FileTree
tree_after_write t n offset bytes stamp =
    tree_with_stamp (with_shape t (with_bytes t.shape n (with_bytes_at (with_trailing_zeros (content t.shape n) offset) offset bytes))) n stamp

-- a file has another length: cut, or with zeros behind its bytes
unfoldable pub tree_after_truncate : FileTree → ℕ → ℕ → ℕ → FileTree
tree_after_truncate t n len stamp = tree_with_stamp (with_shape t (with_bytes t.shape n (with_length (content t.shape n) len))) n stamp
