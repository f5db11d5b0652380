-- Calls on open files and the file tree together: a description of a file or directory holds its node while it is open
-- (open(2), dup(2), close(2)). A description goes with the last descriptor that refers to it, and then lets its node go: a
-- node that has no name and no hold any more goes too.
use Rattle.std.specs.Prelude.{ℕ, zero, suc, ◌+◌, ◌==◌, min, Bool, false, nat_lt, if◌then◌else◌, Option, None, Some, option_map, unwrap_or}
use Rattle.std.specs.Prelude.{List, [], ◌++◌, length, take, drop, Result, Ok, Err}
use Rattle.dt_base.specs.Abi.{has_flag}
use Rattle.dt_base.specs.declared.abi.TheConstants.{O_RDONLY, O_WRONLY, O_CLOEXEC, O_NONBLOCK}
use Rattle.dt_base.specs.declared.errno.Errno.{Errno}
use Rattle.dt_base.specs.declared.errno.Errno.TheVariants.{BadF, MFile}
use Rattle.dt_tree.specs.FileTree.{FileTree}
use Rattle.dt_tree.specs.Changes.{tree_after_hold, tree_after_release}
use Rattle.dt_fds.specs.declared.desc.TheConstants.{DESCRIPTOR_LIMIT}
use Rattle.dt_fds.specs.declared.desc.Desc.{Desc}
use Rattle.dt_fds.specs.declared.desc.Slot.{Slot}
use Rattle.dt_fds.specs.declared.desc.DescKind.TheVariants.{PipeRead, PipeWrite}
use Rattle.dt_fds.specs.declared.desc.Spot.TheVariants.{At}
use Rattle.dt_fds.specs.declared.flow.Flow.{Flow}
use Rattle.dt_fds.specs.declared.flow.Flow.TheVariants.{Broken, Moved}
use Rattle.dt_fds.specs.Descriptions.{Descriptions, inode_of, pipe_of, read_pipe, write_pipe, readers, writers, table_at, slot_at}
use Rattle.dt_fds.specs.Descriptions.{description_at, lowest_free, two_free, with_slot, with_opened, with_duplicate, without_slot, unreferenced, without_table}
use Rattle.dt_fds.specs.Pipes.{PipesView, pipe_content, with_pipe_content, with_new_pipe, without_pipe, empty_read_flow, transfer_count, write_flow}

-- the descriptions, the pipes of which they are ends, and the tree whose nodes they hold
pub record Holding : Type 0 where
  pub files : Descriptions
  pub pipes : PipesView
  pub tree : FileTree

-- these descriptions over these pipes and that tree
abbrev pub holding_of : FileTree → PipesView → Descriptions → Holding
holding_of t pipes f = record { files = f; pipes = pipes; tree = t }

-- what a call answers, and what it leaves
pub record FilesAnswer (A : Type 0) : Type 0 where
  pub answer : Result A Errno
  pub next : Holding

-- the call is done
abbrev pub files_answer : {A : Type 0} → Holding → A → FilesAnswer A
files_answer h value = record { answer = Ok value; next = h }

-- the call is refused, and changes nothing
abbrev pub files_refusal : {A : Type 0} → Holding → Errno → FilesAnswer A
files_refusal h errno = record { answer = Err errno; next = h }

-- a node is held once more, if there is one
abbrev pub with_hold : FileTree → Option ℕ → FileTree
with_hold t None = t
with_hold t (Some n) = tree_after_hold t n

-- a node is held once less, if there is one
abbrev pub without_hold : FileTree → Option ℕ → FileTree
without_hold t None = t
without_hold t (Some n) = tree_after_release t n

-- a description that goes, if one does, lets its node go
abbrev pub tree_without_description : FileTree → Option Desc → FileTree
tree_without_description t None = t
tree_without_description t (Some desc) = without_hold t (inode_of desc.kind)

-- a pipe goes where no description is of an end of it
unfoldable pub without_end : Descriptions → PipesView → ℕ → PipesView
without_end f pipes q = if readers f q + writers f q == 0 then without_pipe pipes q else pipes

-- the pipes after a description went: where it was of an end of a pipe, that goes too if it was the last end
abbrev pub pipes_after_end : Descriptions → PipesView → Option ℕ → PipesView
pipes_after_end f pipes None = pipes
pipes_after_end f pipes (Some q) = without_end f pipes q

-- a description that went, if one did, takes its pipe along, if it was the last end of one
abbrev pub pipes_without_description : Descriptions → PipesView → Option Desc → PipesView
pipes_without_description f pipes None = pipes
pipes_without_description f pipes (Some desc) = pipes_after_end f pipes (pipe_of desc.kind)

-- a new description under this descriptor, if there is one
abbrev pub add_answer : Holding → ℕ → Desc → Bool → Option ℕ → FilesAnswer ℕ
add_answer h p desc cloexec None = files_refusal h MFile
add_answer h p desc cloexec (Some fd) =
    files_answer (record h { files = with_opened h.files p fd desc cloexec; tree = with_hold h.tree (inode_of desc.kind) }) fd

-- a new description, under the lowest free descriptor; EMFILE where none is free
unfoldable pub add_call : ℕ → Desc → Bool → Holding → FilesAnswer ℕ
add_call p desc cloexec h = add_answer h p desc cloexec (lowest_free (table_at h.files p) 0)

-- a descriptor is free, and if it was open and the last of its description, that goes and lets its node go, and its pipe, if
-- it was the last end of one
abbrev pub without_descriptor : Holding → ℕ → ℕ → Option Slot → Holding
without_descriptor h p fd None = h
without_descriptor h p fd (Some slot) =
    let lost = unreferenced (with_slot h.files p fd None) slot.number in
    let files = without_slot h.files p fd slot.number in
    record { files = files; pipes = pipes_without_description files h.pipes lost; tree = tree_without_description h.tree lost }

-- a descriptor, if it is open, is closed
abbrev pub close_answer : Holding → ℕ → ℕ → Option Slot → FilesAnswer (Unit {0})
close_answer h p fd None = files_refusal h BadF
close_answer h p fd (Some slot) = files_answer (without_descriptor h p fd (Some slot)) tt

-- close(2): EBADF where the descriptor is not open
unfoldable pub close_call : ℕ → ℕ → Holding → FilesAnswer (Unit {0})
close_call p fd h = close_answer h p fd (slot_at h.files p fd)

-- a second descriptor, if one is free, for what a slot refers to
abbrev pub dup_answer_at : Holding → ℕ → Slot → Bool → Option ℕ → FilesAnswer ℕ
dup_answer_at h p slot cloexec None = files_refusal h MFile
dup_answer_at h p slot cloexec (Some new) = files_answer (record h { files = with_duplicate h.files p new slot cloexec }) new

-- the same for a descriptor that may be open
abbrev pub dup_answer : Holding → ℕ → Bool → Option ℕ → Option Slot → FilesAnswer ℕ
dup_answer h p cloexec free None = files_refusal h BadF
dup_answer h p cloexec free (Some slot) = dup_answer_at h p slot cloexec free

-- dup(2), and fcntl(2) with F_DUPFD and F_DUPFD_CLOEXEC: the lowest free descriptor from a given one on refers to the same
-- description; EBADF where the old one is not open, then EMFILE where none is free
unfoldable pub dup_call : ℕ → ℕ → ℕ → Bool → Holding → FilesAnswer ℕ
dup_call p fd from cloexec h = dup_answer h p cloexec (lowest_free (table_at h.files p) from) (slot_at h.files p fd)

-- a new descriptor for what a slot refers to, instead of one that may be open
abbrev pub dup_over_answer : Holding → ℕ → ℕ → Bool → Option Slot → FilesAnswer (Unit {0})
dup_over_answer h p new cloexec None = files_refusal h BadF
dup_over_answer h p new cloexec (Some slot) =
    let free = without_descriptor h p new (slot_at h.files p new) in
    files_answer (record free { files = with_duplicate free.files p new slot cloexec }) tt

-- the same for a descriptor that may be open
unfoldable pub dup_within_limit : ℕ → ℕ → ℕ → Bool → Holding → FilesAnswer (Unit {0})
dup_within_limit p old new cloexec h = dup_over_answer h p new cloexec (slot_at h.files p old)

-- dup3(2) of two descriptors that differ: the new one is closed first, if it is open; EBADF where the old one is not open
-- or the new one is past the limit
unfoldable pub dup_at_call : ℕ → ℕ → ℕ → Bool → Holding → FilesAnswer (Unit {0})
dup_at_call p old new cloexec h =
    if nat_lt new DESCRIPTOR_LIMIT then dup_within_limit p old new cloexec h else files_refusal h BadF

-- the descriptors below a number are closed, in order, those that are open
unfoldable pub without_descriptors_below : ℕ → ℕ → Holding → Holding
without_descriptors_below p zero h = h
without_descriptors_below p (suc fd) h = let rest = without_descriptors_below p fd h in without_descriptor rest p fd (slot_at rest.files p fd)

-- a descriptor, if it is open and its close-on-exec bit is set, is closed
abbrev pub without_cloexec_descriptor : Holding → ℕ → ℕ → Option Slot → Holding
without_cloexec_descriptor h p fd None = h
without_cloexec_descriptor h p fd (Some slot) = if slot.cloexec then without_descriptor h p fd (Some slot) else h

-- the descriptors below a number are closed, in order, those that are open and whose close-on-exec bit is set
unfoldable pub without_cloexec_below : ℕ → ℕ → Holding → Holding
without_cloexec_below p zero h = h
without_cloexec_below p (suc fd) h =
    let rest = without_cloexec_below p fd h in
    without_cloexec_descriptor rest p fd (slot_at rest.files p fd)

-- execve(2): the descriptors of a process whose close-on-exec bit is set are closed
unfoldable pub without_cloexec : ℕ → Holding → Holding
without_cloexec p h = without_cloexec_below p DESCRIPTOR_LIMIT h

-- a process is gone: its descriptors are closed, and it has no table
unfoldable pub without_process : ℕ → Holding → Holding
without_process p h =
    let none = without_descriptors_below p DESCRIPTOR_LIMIT h in
    record none { files = without_table none.files p }

-- the end of a pipe that is read from, and the one that is written to, as they begin
abbrev pub read_end : ℕ → ℕ → Desc
read_end q flags =
    record { kind = PipeRead q; spot = At 0; access = O_RDONLY; append = false; nonblock = has_flag flags O_NONBLOCK }

abbrev pub write_end : ℕ → ℕ → Desc
write_end q flags =
    record { kind = PipeWrite q; spot = At 0; access = O_WRONLY; append = false; nonblock = has_flag flags O_NONBLOCK }

-- a new pipe, whose ends stand under these descriptors
abbrev pub with_pipe_ends : Holding → ℕ → ℕ → ℕ → ℕ → Holding
with_pipe_ends h p flags fd other =
    let q = h.pipes.next in
    let cloexec = has_flag flags O_CLOEXEC in
    let one = with_opened h.files p fd (read_end q flags) cloexec in
    record h { files = with_opened one p other (write_end q flags) cloexec; pipes = with_new_pipe h.pipes }

-- the same, if there are two descriptors for them
abbrev pub pipe_ends_reply : Holding → ℕ → ℕ → Option (ℕ × ℕ) → FilesAnswer (ℕ × ℕ)
pipe_ends_reply h p flags None = files_refusal h MFile
pipe_ends_reply h p flags (Some ends) = files_answer (with_pipe_ends h p flags ends.0 ends.1) ends

-- pipe(2): a new pipe, whose ends stand under the two lowest free descriptors, the one that is read from under the lower;
-- EMFILE where not two are free
unfoldable pub pipe_call : ℕ → ℕ → Holding → FilesAnswer (ℕ × ℕ)
pipe_call p flags h = pipe_ends_reply h p flags (two_free (table_at h.files p))

-- a read of at most so many bytes from a pipe that holds these: those that it answers are gone from the pipe
abbrev pub read_of_content : Holding → ℕ → Bool → ℕ → List ℕ → FilesAnswer Flow
read_of_content h q nonblock most bytes =
    let count = min most (length bytes) in
    if length bytes == 0
    then record { answer = empty_read_flow (writers h.files q) nonblock; next = h }
    else files_answer (record h { pipes = with_pipe_content h.pipes q (drop count bytes) }) (Moved count)

-- the same of a pipe, if there is one
abbrev pub read_from_pipe : Holding → Bool → ℕ → Option ℕ → FilesAnswer Flow
read_from_pipe h nonblock most None = files_refusal h BadF
read_from_pipe h nonblock most (Some q) = read_of_content h q nonblock most (pipe_content h.pipes q)

-- the same by what a descriptor refers to
abbrev pub read_by_description : Holding → ℕ → Option Desc → FilesAnswer Flow
read_by_description h most None = files_refusal h BadF
read_by_description h most (Some desc) = read_from_pipe h desc.nonblock most (read_pipe desc.kind)

-- read(2) of at most so many bytes from a pipe: EBADF where the descriptor is not of an end that is read from
unfoldable pub pipe_read_call : ℕ → ℕ → ℕ → Holding → FilesAnswer Flow
pipe_read_call p fd most h = read_by_description h most (description_at h.files p fd)

-- what the pipe holds that a descriptor reads from; nothing where it reads from none
abbrev pub pipe_content_by : Holding → Option Desc → List ℕ
pipe_content_by h None = []
pipe_content_by h (Some desc) = unwrap_or (option_map (pipe_content h.pipes) (read_pipe desc.kind)) []

-- the bytes that a read of at most so many brings
unfoldable pub bytes_read : ℕ → ℕ → ℕ → Holding → List ℕ
bytes_read p fd most h = take most (pipe_content_by h (description_at h.files p fd))

-- a write to a pipe that is read, if there is one, of which so many bytes are done: those that it moves now stand at the end
abbrev pub write_to_read_pipe : Holding → Bool → List ℕ → ℕ → ℕ → FilesAnswer Flow
write_to_read_pipe h nonblock bytes count q =
    let old = pipe_content h.pipes q in
    let moved = transfer_count (length old) (length bytes) count in
    record {
      answer = write_flow (length bytes) count moved nonblock;
      next = record h { pipes = with_pipe_content h.pipes q (old ++ take moved (drop count bytes)) };
    }

-- the same for a pipe that may have no readers: the write is over then
abbrev pub write_to_pipe : Holding → Bool → List ℕ → ℕ → Option ℕ → FilesAnswer Flow
write_to_pipe h nonblock bytes count None = files_refusal h BadF
write_to_pipe h nonblock bytes count (Some q) =
    if readers h.files q == 0 then files_answer h (Broken count) else write_to_read_pipe h nonblock bytes count q

-- the same by what a descriptor refers to
abbrev pub write_by_description : Holding → List ℕ → ℕ → Option Desc → FilesAnswer Flow
write_by_description h bytes count None = files_refusal h BadF
write_by_description h bytes count (Some desc) = write_to_pipe h desc.nonblock bytes count (write_pipe desc.kind)

-- write(2) of these bytes to a pipe, of which so many are done: EBADF where the descriptor is not of an end that is written to
unfoldable pub pipe_write_call : ℕ → ℕ → List ℕ → ℕ → Holding → FilesAnswer Flow
pipe_write_call p fd bytes count h = write_by_description h bytes count (description_at h.files p fd)

-- how many bytes a write to a pipe moves now, if there is one, of so many of which some are done; none where nobody reads it
abbrev pub transfer_count_to : Descriptions → PipesView → ℕ → ℕ → Option ℕ → ℕ
transfer_count_to f pipes whole count None = 0
transfer_count_to f pipes whole count (Some q) =
    if readers f q == 0 then 0 else transfer_count (length (pipe_content pipes q)) whole count

-- the same by what a descriptor refers to
abbrev pub transfer_count_by : Descriptions → PipesView → ℕ → ℕ → Option Desc → ℕ
transfer_count_by f pipes whole count None = 0
transfer_count_by f pipes whole count (Some desc) = transfer_count_to f pipes whole count (write_pipe desc.kind)

-- how many bytes write(2) of so many, of which some are done, moves now to a pipe; none where the descriptor is not of an
-- end that is written to
unfoldable pub pipe_transfer_count : ℕ → ℕ → ℕ → ℕ → Descriptions → PipesView → ℕ
pipe_transfer_count p fd whole count f pipes = transfer_count_by f pipes whole count (description_at f p fd)
