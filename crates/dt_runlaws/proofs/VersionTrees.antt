-- No change of a file tree and no call on open files changes the version that the tree keeps.
use Rattle.std.proofs.Common.{◌≡◌, ℕ, zero, suc, Bool, true, false, cond, List, Option, None, Some, refl, ◌∙◌}
use Rattle.std.specs.Prelude.{nat_le, nat_lt, ◌+◌, ◌==◌, length}
use Rattle.std.specs.FinMap.{len}
use Rattle.dt_base.specs.Profile.{file_limit}
use Rattle.dt_base.specs.declared.image.What.{What}
use Rattle.dt_fds.specs.declared.desc.TheConstants.{DESCRIPTOR_LIMIT}
use Rattle.dt_fds.specs.declared.desc.Desc.{Desc}
use Rattle.dt_fds.specs.declared.desc.Slot.{Slot}
use Rattle.dt_fds.specs.Descriptions.{inode_of, read_pipe, write_pipe, readers, table_at, slot_at, description_at, lowest_free, with_slot, unreferenced}
use Rattle.dt_fds.specs.Holding.{Holding, FilesAnswer, with_hold, without_hold, tree_without_description, add_answer, add_call, without_descriptor, close_answer, close_call, dup_answer_at, dup_answer, dup_call, dup_over_answer, dup_within_limit, dup_at_call, files_refusal, without_descriptors_below, without_cloexec_descriptor, without_cloexec_below, without_cloexec, without_process, read_of_content, read_from_pipe, read_by_description, pipe_read_call, write_to_pipe, write_by_description, pipe_write_call}
use Rattle.dt_fds.specs.Pipes.{pipe_content}
use Rattle.dt_host.specs.World.{entry}
use Rattle.dt_tree.specs.declared.limits.TheConstants.{NODE_LIMIT}
use Rattle.dt_tree.specs.Shape.{is_removed}
use Rattle.dt_tree.specs.FileTree.{FileTree}
use Rattle.dt_tree.specs.Calls.{TreeAnswer, make_node_of, add_name_of, drop_name_of, move_name_of, write_at_of, cut_of}
use Rattle.dt_tree.specs.Changes.{with_attributes, is_unused, tree_without, without_unused, without_unused_found, tree_with_new, tree_after_make, tree_after_link, tree_after_unlink, tree_after_rename, tree_after_hold, tree_after_release, tree_after_chmod, tree_after_write, tree_after_truncate}

-- changes of a tree
unused-version : (t : FileTree) (n : ℕ) → (without_unused t n).version ≡ t.version
unfolding without_unused
unused-version t n = by_test (is_unused t n)
  where
    by_test : (b : Bool) → (let after = cond b (tree_without t n) t in after.version) ≡ t.version
    by_test true = refl
    by_test false = refl

found-version : (found : Option ℕ) (t : FileTree) → (without_unused_found found t).version ≡ t.version
found-version None t = refl
found-version (Some n) t = unused-version t n

made-version : (t : FileTree) (d : ℕ) (name : List ℕ) (what : What) (mode stamp : ℕ) → (tree_after_make t d name what mode stamp).version ≡ t.version
unfolding tree_after_make tree_with_new with_attributes
made-version t d name what mode stamp = refl

linked-version : (t : FileTree) (d : ℕ) (name : List ℕ) (n stamp : ℕ) → (tree_after_link t d name n stamp).version ≡ t.version
unfolding tree_after_link with_attributes
linked-version t d name n stamp = refl

unlinked-version : (t : FileTree) (d : ℕ) (name : List ℕ) (stamp : ℕ) → (tree_after_unlink t d name stamp).version ≡ t.version
unfolding tree_after_unlink with_attributes
unlinked-version t d name stamp = found-version (entry t.shape d name) _

renamed-version : (t : FileTree) (from : ℕ) (old : List ℕ) (to : ℕ) (new : List ℕ) (stamp : ℕ) → (tree_after_rename t from old to new stamp).version ≡ t.version
unfolding tree_after_rename with_attributes
renamed-version t from old to new stamp = found-version (entry t.shape to new) _

pub mode-version : (t : FileTree) (n mode : ℕ) → (tree_after_chmod t n mode).version ≡ t.version
unfolding with_attributes
mode-version t n mode = refl

pub held-version : (t : FileTree) (n : ℕ) → (tree_after_hold t n).version ≡ t.version
unfolding with_attributes
held-version t n = refl

pub released-version : (t : FileTree) (n : ℕ) → (tree_after_release t n).version ≡ t.version
unfolding tree_after_release with_attributes
released-version t n = unused-version _ n

written-version : (t : FileTree) (n offset : ℕ) (bytes : List ℕ) (stamp : ℕ) → (tree_after_write t n offset bytes stamp).version ≡ t.version
unfolding tree_after_write with_attributes
written-version t n offset bytes stamp = refl

truncated-version : (t : FileTree) (n len stamp : ℕ) → (tree_after_truncate t n len stamp).version ≡ t.version
unfolding tree_after_truncate with_attributes
truncated-version t n len stamp = refl

-- calls of a tree
tree-either : {A : Type 0} (v : ℕ) (b : Bool) (x y : TreeAnswer A) → x.tree.version ≡ v → y.tree.version ≡ v → (let d = cond b x y in d.tree.version) ≡ v
tree-either v true x y first second = first
tree-either v false x y first second = second

pub make-version : (t : FileTree) (d : ℕ) (name : List ℕ) (what : What) (mode stamp : ℕ) → (let a = make_node_of t d name what mode stamp in a.tree.version) ≡ t.version
make-version t d name what mode stamp =
    tree-either t.version (is_removed t.shape d) _ _ refl
    (tree-either t.version (nat_le NODE_LIMIT (len t.shape.nodes)) _ _ refl (made-version t d name what mode stamp))

pub add_name-version : (t : FileTree) (d : ℕ) (name : List ℕ) (n stamp : ℕ) → (let a = add_name_of t d name n stamp in a.tree.version) ≡ t.version
add_name-version t d name n stamp = tree-either t.version (is_removed t.shape d) _ _ refl (linked-version t d name n stamp)

pub drop_name-version : (t : FileTree) (d : ℕ) (name : List ℕ) (stamp : ℕ) → (let a = drop_name_of t d name stamp in a.tree.version) ≡ t.version
drop_name-version t d name stamp = tree-either t.version (is_removed t.shape d) _ _ refl (unlinked-version t d name stamp)

pub move_name-version : (t : FileTree) (from : ℕ) (old : List ℕ) (to : ℕ) (new : List ℕ) (stamp : ℕ) → (let a = move_name_of t from old to new stamp in a.tree.version) ≡ t.version
move_name-version t from old to new stamp = tree-either t.version (is_removed t.shape to) _ _ refl (renamed-version t from old to new stamp)

pub write-version : (t : FileTree) (n offset : ℕ) (bytes : List ℕ) (stamp : ℕ) → (let a = write_at_of t n offset bytes stamp in a.tree.version) ≡ t.version
write-version t n offset bytes stamp =
    tree-either t.version (nat_lt (file_limit t.version) (offset + length bytes)) _ _ refl (written-version t n offset bytes stamp)

pub cut-version : (t : FileTree) (n len stamp : ℕ) → (let a = cut_of t n len stamp in a.tree.version) ≡ t.version
cut-version t n len stamp = tree-either t.version (nat_lt (file_limit t.version) len) _ _ refl (truncated-version t n len stamp)

-- what holds a node, and lets one go
with_hold-version : (t : FileTree) (found : Option ℕ) → (with_hold t found).version ≡ t.version
with_hold-version t None = refl
with_hold-version t (Some n) = held-version t n

without_hold-version : (t : FileTree) (found : Option ℕ) → (without_hold t found).version ≡ t.version
without_hold-version t None = refl
without_hold-version t (Some n) = released-version t n

description-version : (t : FileTree) (lost : Option Desc) → (tree_without_description t lost).version ≡ t.version
description-version t None = refl
description-version t (Some desc) = without_hold-version t (inode_of desc.kind)

-- calls on open files
files-either : {A : Type 0} (v : ℕ) (b : Bool) (x y : FilesAnswer A) → x.next.tree.version ≡ v → y.next.tree.version ≡ v → (let o = cond b x y in o.next.tree.version) ≡ v
files-either v true x y first second = first
files-either v false x y first second = second

pub add-version : (p : ℕ) (desc : Desc) (cloexec : Bool) (h : Holding) → (let o = add_call p desc cloexec h in o.next.tree.version) ≡ h.tree.version
unfolding add_call
add-version p desc cloexec h = by_free (lowest_free (table_at h.files p) 0)
  where
    by_free : (free : Option ℕ) → (let o = add_answer h p desc cloexec free in o.next.tree.version) ≡ h.tree.version
    by_free None = refl
    by_free (Some fd) = with_hold-version h.tree (inode_of desc.kind)

without-version : (h : Holding) (p fd : ℕ) (found : Option Slot) → (let left = without_descriptor h p fd found in left.tree.version) ≡ h.tree.version
without-version h p fd None = refl
without-version h p fd (Some slot) = description-version h.tree (unreferenced (with_slot h.files p fd None) slot.number)

pub close-version : (p fd : ℕ) (h : Holding) → (let o = close_call p fd h in o.next.tree.version) ≡ h.tree.version
unfolding close_call
close-version p fd h = by_slot (slot_at h.files p fd)
  where
    by_slot : (found : Option Slot) → (let o = close_answer h p fd found in o.next.tree.version) ≡ h.tree.version
    by_slot None = refl
    by_slot (Some slot) = without-version h p fd (Some slot)

pub dup-version : (p fd from : ℕ) (cloexec : Bool) (h : Holding) → (let o = dup_call p fd from cloexec h in o.next.tree.version) ≡ h.tree.version
unfolding dup_call
dup-version p fd from cloexec h = by_slot (lowest_free (table_at h.files p) from) (slot_at h.files p fd)
  where
    by_free : (slot : Slot) (free : Option ℕ) → (let o = dup_answer_at h p slot cloexec free in o.next.tree.version) ≡ h.tree.version
    by_free slot None = refl
    by_free slot (Some new) = refl

    by_slot : (free : Option ℕ) (found : Option Slot) → (let o = dup_answer h p cloexec free found in o.next.tree.version) ≡ h.tree.version
    by_slot free None = refl
    by_slot free (Some slot) = by_free slot free

pub dup_at-version : (p old new : ℕ) (cloexec : Bool) (h : Holding) → (let o = dup_at_call p old new cloexec h in o.next.tree.version) ≡ h.tree.version
unfolding dup_at_call dup_within_limit
dup_at-version p old new cloexec h =
    files-either h.tree.version (nat_lt new DESCRIPTOR_LIMIT) _ (files_refusal h _) (by_slot (slot_at h.files p old)) refl
  where
    by_slot : (found : Option Slot) → (let o = dup_over_answer h p new cloexec found in o.next.tree.version) ≡ h.tree.version
    by_slot None = refl
    by_slot (Some slot) = without-version h p new (slot_at h.files p new)

below-version : (p fd : ℕ) (h : Holding) → (without_descriptors_below p fd h).tree.version ≡ h.tree.version
unfolding without_descriptors_below
below-version p zero h = refl
below-version p (suc fd) h =
    let rest = without_descriptors_below p fd h in
    without-version rest p fd (slot_at rest.files p fd) ∙ below-version p fd h

marked-version : (h : Holding) (p fd : ℕ) (found : Option Slot) → (without_cloexec_descriptor h p fd found).tree.version ≡ h.tree.version
marked-version h p fd None = refl
marked-version h p fd (Some slot) = by_mark slot.cloexec
  where
    by_mark : (b : Bool) → (let left = cond b (without_descriptor h p fd (Some slot)) h in left.tree.version) ≡ h.tree.version
    by_mark true = without-version h p fd (Some slot)
    by_mark false = refl

marked_below-version : (p fd : ℕ) (h : Holding) → (without_cloexec_below p fd h).tree.version ≡ h.tree.version
unfolding without_cloexec_below
marked_below-version p zero h = refl
marked_below-version p (suc fd) h =
    let rest = without_cloexec_below p fd h in
    marked-version rest p fd (slot_at rest.files p fd) ∙ marked_below-version p fd h

pub cloexec-version : (p : ℕ) (h : Holding) → (without_cloexec p h).tree.version ≡ h.tree.version
unfolding without_cloexec
cloexec-version p h = marked_below-version p DESCRIPTOR_LIMIT h

pub process-version : (p : ℕ) (h : Holding) → (without_process p h).tree.version ≡ h.tree.version
unfolding without_process
process-version p h = below-version p DESCRIPTOR_LIMIT h

-- a pipe that is read or written
pub pipe_read-version : (p fd most : ℕ) (h : Holding) → (let o = pipe_read_call p fd most h in o.next.tree.version) ≡ h.tree.version
unfolding pipe_read_call
pipe_read-version p fd most h = by_found (description_at h.files p fd)
  where
    by_content : (q : ℕ) (nonblock : Bool) (bytes : List ℕ) → (let o = read_of_content h q nonblock most bytes in o.next.tree.version) ≡ h.tree.version
    by_content q nonblock bytes = files-either h.tree.version (length bytes == 0) _ _ refl refl

    by_pipe : (nonblock : Bool) (found : Option ℕ) → (let o = read_from_pipe h nonblock most found in o.next.tree.version) ≡ h.tree.version
    by_pipe nonblock None = refl
    by_pipe nonblock (Some q) = by_content q nonblock (pipe_content h.pipes q)

    by_found : (found : Option Desc) → (let o = read_by_description h most found in o.next.tree.version) ≡ h.tree.version
    by_found None = refl
    by_found (Some desc) = by_pipe desc.nonblock (read_pipe desc.kind)

pub pipe_write-version : (p fd : ℕ) (bytes : List ℕ) (count : ℕ) (h : Holding) → (let o = pipe_write_call p fd bytes count h in o.next.tree.version) ≡ h.tree.version
unfolding pipe_write_call
pipe_write-version p fd bytes count h = by_found (description_at h.files p fd)
  where
    by_pipe : (nonblock : Bool) (found : Option ℕ) → (let o = write_to_pipe h nonblock bytes count found in o.next.tree.version) ≡ h.tree.version
    by_pipe nonblock None = refl
    by_pipe nonblock (Some q) = files-either h.tree.version (readers h.files q == 0) _ _ refl refl

    by_found : (found : Option Desc) → (let o = write_by_description h bytes count found in o.next.tree.version) ≡ h.tree.version
    by_found None = refl
    by_found (Some desc) = by_pipe desc.nonblock (write_pipe desc.kind)
