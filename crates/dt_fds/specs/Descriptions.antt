-- Open file descriptions, and the tables of descriptors that refer to them (open(2), pipe(2), dup(2), close(2), fcntl(2)).
use Rattle.std.specs.Prelude.{◌≡◌, ℕ, ◌+◌, ◌≤◌, ◌==◌, Bool, true, false, if◌then◌else◌, List, [], drop, replicate, Option, None, Some, option_map, slice_get, slice_set, unwrap_or}
use Rattle.std.specs.Option.{is_none, option_flatten, option_and_then}
use Rattle.std.specs.List.{position, sum_by}
use Rattle.std.specs.Ordering.{nat_cmp}
use Rattle.std.specs.FinMap.{FinMap, empty, get, insert, remove}
use Rattle.dt_base.specs.declared.abi.TheConstants.{O_RDONLY, O_WRONLY, O_RDWR}
use Rattle.dt_tables.specs.Total.{total}
use Rattle.dt_tree.specs.Changes.{with_some}
use Rattle.dt_tree.specs.Shape.{one_for}
use Rattle.dt_fds.specs.declared.desc.TheConstants.{DESCRIPTOR_LIMIT}
use Rattle.dt_fds.specs.declared.desc.Desc.{Desc}
use Rattle.dt_fds.specs.declared.desc.DescKind.{DescKind}
use Rattle.dt_fds.specs.declared.desc.DescKind.TheVariants.{File, Dir, Device, PipeRead, PipeWrite, Input, Stream}
use Rattle.dt_fds.specs.declared.desc.Spot.{Spot}
use Rattle.dt_fds.specs.declared.desc.Spot.TheVariants.{At, After}
use Rattle.dt_fds.specs.declared.desc.Slot.{Slot}

-- the inode of a description, if it is of a file, a directory or a device
abbrev pub inode_of : DescKind → Option ℕ
inode_of (File n) = Some n
inode_of (Dir n) = Some n
inode_of (Device n) = Some n
inode_of (PipeRead q) = None
inode_of (PipeWrite q) = None
inode_of Input = None
inode_of (Stream stream) = None

-- the number of a description's pipe, if it is an end of one
abbrev pub pipe_of : DescKind → Option ℕ
pipe_of (File n) = None
pipe_of (Dir n) = None
pipe_of (Device n) = None
pipe_of (PipeRead q) = Some q
pipe_of (PipeWrite q) = Some q
pipe_of Input = None
pipe_of (Stream stream) = None

-- the number of a pipe, if it is the end that is read from
abbrev pub read_pipe : DescKind → Option ℕ
read_pipe (File n) = None
read_pipe (Dir n) = None
read_pipe (Device n) = None
read_pipe (PipeRead q) = Some q
read_pipe (PipeWrite q) = None
read_pipe Input = None
read_pipe (Stream stream) = None

-- the number of a pipe, if it is the end that is written to
abbrev pub write_pipe : DescKind → Option ℕ
write_pipe (File n) = None
write_pipe (Dir n) = None
write_pipe (Device n) = None
write_pipe (PipeRead q) = None
write_pipe (PipeWrite q) = Some q
write_pipe Input = None
write_pipe (Stream stream) = None

-- whether a number is the one that is named, if one is: 1 or 0
abbrev pub one_if_named : ℕ → Option ℕ → ℕ
one_if_named n None = 0
one_if_named n (Some m) = one_for m n

-- it is of a directory
abbrev pub is_of_dir : DescKind → Bool
is_of_dir (File n) = false
is_of_dir (Dir n) = true
is_of_dir (Device n) = false
is_of_dir (PipeRead q) = false
is_of_dir (PipeWrite q) = false
is_of_dir Input = false
is_of_dir (Stream stream) = false

-- it is a point in a listing, and no offset
abbrev pub is_after : Spot → Bool
is_after (At offset) = false
is_after (After name) = true

-- an output stream is 1 or 2
abbrev pub IsKind : DescKind → Type 0
IsKind (File n) = Unit {0}
IsKind (Dir n) = Unit {0}
IsKind (Device n) = Unit {0}
IsKind (PipeRead q) = Unit {0}
IsKind (PipeWrite q) = Unit {0}
IsKind Input = Unit {0}
IsKind (Stream stream) = (1 ≤ stream) × (stream ≤ 2)

-- a description: its stream is 1 or 2, if it is of one; its spot is a point in a listing exactly if it is of a directory; and
-- its access is one of the three modes, of which O_RDWR is the greatest
pub record IsDesc (desc : Desc) : Type 0 where
  pub kind : IsKind desc.kind
  pub spot : is_after desc.spot ≡ is_of_dir desc.kind
  pub access : desc.access ≤ O_RDWR

-- a table of descriptors: at the index of each its slot, or nothing where it is free
abbrev pub Table : Type 0
Table = List (Option Slot)

-- the open descriptions by number, the table of each process by its pid, and the number of the next new description
pub record Descriptions : Type 0 where
  pub descs : FinMap nat_cmp Desc
  pub tables : FinMap nat_cmp Table
  pub next : ℕ

-- the table of a process; one that is not there has no descriptors
abbrev pub table_at : Descriptions → ℕ → Table
table_at f p = unwrap_or (get f.tables p) []

-- the slot of a descriptor, if it is open
unfoldable pub slot_at : Descriptions → ℕ → ℕ → Option Slot
slot_at f p fd = option_flatten (slice_get (table_at f p) fd)

-- the description that a slot refers to
abbrev pub slot_description : Descriptions → Slot → Option Desc
slot_description f slot = get f.descs slot.number

-- the description that a descriptor refers to, if it is open
unfoldable pub description_at : Descriptions → ℕ → ℕ → Option Desc
description_at f p fd = option_and_then (slot_description f) (slot_at f p fd)

-- the lowest free descriptor from a given one on
unfoldable pub lowest_free : Table → ℕ → Option ℕ
lowest_free table from = option_map (λ i. from + i) (position is_none (drop from table))

-- a descriptor, and the lowest free one above it, if there is one
abbrev pub with_next : Table → ℕ → Option (ℕ × ℕ)
with_next table fd = option_map (λ other. (fd, other)) (lowest_free table (fd + 1))

-- the two lowest free descriptors, the lower one first, if two are free
unfoldable pub two_free : Table → Option (ℕ × ℕ)
two_free table = option_and_then (with_next table) (lowest_free table 0)

-- how often a slot refers to a description
abbrev pub slot_references : ℕ → Option Slot → ℕ
slot_references k None = 0
slot_references k (Some slot) = one_for slot.number k

-- how many descriptors refer to a description, in all tables
unfoldable pub descriptors_of : Descriptions → ℕ → ℕ
descriptors_of f k = total (sum_by (slot_references k)) f.tables

-- how many open descriptions read from a pipe, and how many write to it
unfoldable pub readers : Descriptions → ℕ → ℕ
readers f q = total (λ desc. one_if_named q (read_pipe desc.kind)) f.descs

unfoldable pub writers : Descriptions → ℕ → ℕ
writers f q = total (λ desc. one_if_named q (write_pipe desc.kind)) f.descs

-- with this at a descriptor of a process
unfoldable pub with_slot : Descriptions → ℕ → ℕ → Option Slot → Descriptions
with_slot f p fd slot = record f { tables = insert f.tables p (slice_set (table_at f p) fd slot) }

-- with a new description, under the next number
unfoldable pub with_new_description : Descriptions → Desc → Descriptions
with_new_description f desc = record f { descs = insert f.descs f.next desc; next = f.next + 1 }

-- a new description, to which a descriptor refers
abbrev pub with_opened : Descriptions → ℕ → ℕ → Desc → Bool → Descriptions
with_opened f p fd desc cloexec =
    with_slot (with_new_description f desc) p fd (Some (record { number = f.next; cloexec = cloexec }))

-- a descriptor refers to what that slot refers to
abbrev pub with_duplicate : Descriptions → ℕ → ℕ → Slot → Bool → Descriptions
with_duplicate f p fd slot cloexec = with_slot f p fd (Some (record { number = slot.number; cloexec = cloexec }))

-- a description goes where no descriptor refers to it
unfoldable pub without_unreferenced : Descriptions → ℕ → Descriptions
without_unreferenced f k = if descriptors_of f k == 0 then record f { descs = remove f.descs k } else f

-- that description, where it goes
unfoldable pub unreferenced : Descriptions → ℕ → Option Desc
unreferenced f k = if descriptors_of f k == 0 then get f.descs k else None

-- a descriptor, which referred to that description, is free, and the description goes if it was the last
unfoldable pub without_slot : Descriptions → ℕ → ℕ → ℕ → Descriptions
without_slot f p fd k = without_unreferenced (with_slot f p fd None) k

-- another value for a description
unfoldable pub with_description : Descriptions → ℕ → (Desc → Desc) → Descriptions
with_description f k change = record f { descs = with_some f.descs k (option_map change (get f.descs k)) }

-- another value for the description that a slot refers to, if there is one
abbrev pub with_slot_description : Descriptions → (Desc → Desc) → Option Slot → Descriptions
with_slot_description f change None = f
with_slot_description f change (Some slot) = with_description f slot.number change

-- a description with another offset, or at another point in its listing
abbrev pub at_spot : Spot → Desc → Desc
at_spot spot desc = record desc { spot = spot }

-- with other flags (fcntl(2), F_SETFL)
abbrev pub with_flags : Bool → Bool → Desc → Desc
with_flags append nonblock desc = record desc { append = append; nonblock = nonblock }

-- a descriptor's close-on-exec bit, if it is open (fcntl(2), F_GETFD)
abbrev pub cloexec_at : Descriptions → ℕ → ℕ → Option Bool
cloexec_at f p fd = option_map (λ slot. slot.cloexec) (slot_at f p fd)

-- with another close-on-exec bit, if the descriptor is open (F_SETFD)
abbrev pub with_cloexec : Descriptions → ℕ → ℕ → Bool → Option Slot → Descriptions
with_cloexec f p fd cloexec None = f
with_cloexec f p fd cloexec (Some slot) = with_duplicate f p fd slot cloexec

-- without the table of a process
abbrev pub without_table : Descriptions → ℕ → Descriptions
without_table f p = record f { tables = remove f.tables p }

-- with this table of a process
abbrev pub with_table : Descriptions → ℕ → Table → Descriptions
with_table f p table = record f { tables = insert f.tables p table }

-- with this table for a process, if there is one
abbrev pub with_table_if_any : Descriptions → ℕ → Option Table → Descriptions
with_table_if_any f p None = f
with_table_if_any f p (Some table) = with_table f p table

-- the child has a table like its parent's: the same descriptors refer to the same descriptions, under the same close-on-exec
-- bits (fork(2)); a parent that has none gives none
unfoldable pub with_shared_table : ℕ → ℕ → Descriptions → Descriptions
with_shared_table parent child f = with_table_if_any f child (get f.tables parent)

-- nothing is open: a process has a table whose descriptors are free
abbrev pub empty_descriptions : ℕ → Descriptions
empty_descriptions p = record { descs = empty; tables = insert empty p (replicate DESCRIPTOR_LIMIT None); next = 1 }

-- a new description under this descriptor, if there is one
abbrev pub with_opened_at : Descriptions → ℕ → Desc → Option ℕ → Descriptions
with_opened_at f p desc None = f
with_opened_at f p desc (Some fd) = with_opened f p fd desc false

-- a new description under the lowest free descriptor
unfoldable pub with_opened_lowest : ℕ → Desc → Descriptions → Descriptions
with_opened_lowest p desc f = with_opened_at f p desc (lowest_free (table_at f p) 0)

-- a description of the input or of a stream, as a process begins with it
abbrev pub first_desc : DescKind → ℕ → Desc
first_desc kind access = record { kind = kind; spot = At 0; access = access; append = false; nonblock = false }

-- the first process has the input and the streams 1 and 2 under its lowest descriptors, in this order
unfoldable pub first_files : ℕ → Descriptions
first_files p =
    with_opened_lowest p (first_desc (Stream 2) O_WRONLY)
    (with_opened_lowest p (first_desc (Stream 1) O_WRONLY) (with_opened_lowest p (first_desc Input O_RDONLY) (empty_descriptions p)))
