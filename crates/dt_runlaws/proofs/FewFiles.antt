-- A call on open files puts out no more bytes than one call moves.
use Rattle.std.proofs.Common.{◌≡◌, ℕ, ◌≤◌, List, [], ◌∷◌, length, Bool, refl, arith}
use Rattle.std.specs.Prelude.{Option, None, Some, Result, Ok, Err, replicate}
use Rattle.dt_base.specs.Abi.{low_word, byte_count}
use Rattle.dt_base.specs.declared.abi.TheConstants.{TRANSFER_LIMIT}
use Rattle.dt_base.specs.declared.errno.Errno.{Errno}
use Rattle.dt_base.specs.declared.image.Device as base
use Rattle.dt_base.specs.declared.image.Device.TheVariants.{Null, Zero, Random}
use Rattle.dt_host.specs.World.{device_at}
use Rattle.dt_virt.specs.Words.{next_bytes}
use Rattle.dt_fds.specs.declared.desc.Desc.{Desc}
use Rattle.dt_fds.specs.declared.desc.DescKind.{DescKind}
use Rattle.dt_fds.specs.declared.desc.DescKind.TheVariants.{File, Dir, Device, PipeRead, PipeWrite, Input, Stream}
use Rattle.dt_fds.specs.declared.desc.Spot.{Spot}
use Rattle.dt_fds.specs.declared.flow.Flow.{Flow}
use Rattle.dt_fds.specs.declared.flow.Flow.TheVariants.{Moved, Part, Broken, Wait}
use Rattle.dt_fds.specs.Holding.{FilesAnswer}
use Rattle.dt_space.specs.declared.access.Miss.{Miss}
use Rattle.dt_space.specs.Space.{PageView}
use Rattle.dt_tree.specs.declared.list.Listed.{Listed}
use Rattle.dt_tree.specs.FileTree.{FileTree}
use Rattle.dt_callbase.specs.Arguments.{argument}
use Rattle.dt_callbase.specs.Scene.{Scene, Reply, with_holding}
use Rattle.dt_iocalls.specs.declared.ranges.Range.{Range}
use Rattle.dt_iocalls.specs.Calls.{io_row}
use Rattle.dt_iocalls.specs.Descriptors.{close_row, dup_row, dup3_row, fcntl_row, ioctl_row, command_reply, dup_from_reply}
use Rattle.dt_iocalls.specs.Entries.{getdents64_row, listing_reply_by_kind, listing_reply, left_entries_reply, fitting_entries_reply, entries_fill_reply, fitting_entries}
use Rattle.dt_iocalls.specs.Offsets.{offset_of}
use Rattle.dt_iocalls.specs.Piping.{pipe2_row, pipe_reply, new_pipe_reply, flow_answer, flow_reply}
use Rattle.dt_iocalls.specs.Ranges.{one_range, total_len, gathered_bytes, scattered_pages, ranges_at, on_ranges}
use Rattle.dt_iocalls.specs.Reading.{read_row, readv_row, pread64_row, read_reply, read_reply_by_kind, read_at_reply_by_kind, received_reply, drawn_reply, bytes_of_device_reply, device_read_reply, pipe_fill_reply, pipe_read_reply}
use Rattle.dt_iocalls.specs.Seeking.{lseek_row, seek_reply, seek_to_reply}
use Rattle.dt_iocalls.specs.Writing.{device_write_reply, write_row, writev_row, pwrite64_row, ftruncate_row, on_bytes, write_result_reply, write_reply_by_kind, bytes_write_reply, write_reply, descriptor_write_reply, bytes_write_at_reply, write_at_reply_by_kind, truncate_reply_by_kind}
use Rattle.dt_iocalls.proofs.Pieces.{gathered-length}
use Rattle.dt_iocalls.proofs.Vectors.{few_at}
use Rattle.dt_runlaws.proofs.FewReplies.{short_rows, Short, value-short, refused-short, filled-short}

close-short : (args : List ℕ) (s : Scene) → Short (close_row args s)
unfolding close_row
close-short args s = search short_rows

dup-short : (args : List ℕ) (s : Scene) → Short (dup_row args s)
unfolding dup_row
dup-short args s = search short_rows

dup3-short : (args : List ℕ) (s : Scene) → Short (dup3_row args s)
unfolding dup3_row
dup3-short args s = search short_rows

dup_from-short : (fd from : ℕ) (cloexec : Bool) (s : Scene) → Short (dup_from_reply fd from cloexec s)
dup_from-short fd from cloexec s = search short_rows

command-short : (command fd arg flags : ℕ) (s : Scene) → Short (command_reply command fd arg flags s)
unfolding command_reply
command-short command fd arg flags s = search (short_rows, dup_from-short) depth 10

fcntl-short : (args : List ℕ) (s : Scene) → Short (fcntl_row args s)
unfolding fcntl_row
fcntl-short args s = search (short_rows, command-short)

ioctl-short : (args : List ℕ) (s : Scene) → Short (ioctl_row args s)
unfolding ioctl_row
ioctl-short args s = search short_rows

-- a listing
listed-short : (s : Scene) (fd count : ℕ) (last : Option (List ℕ)) (pages : Result (List PageView) Miss) → Short (entries_fill_reply s fd last count pages)
listed-short s fd count last (Err miss) = search short_rows
listed-short s fd count last (Ok pages) = record { short = tt }

fitting-short : (fd buffer : ℕ) (s : Scene) (entries : List Listed) → Short (fitting_entries_reply fd buffer s entries)
fitting-short fd buffer s [] = search short_rows
fitting-short fd buffer s (entry ∷ entries) = search (short_rows, listed-short)

left-short : (fd buffer count : ℕ) (s : Scene) (entries : List Listed) → Short (left_entries_reply fd buffer count s entries)
left-short fd buffer count s [] = value-short s 0
left-short fd buffer count s (entry ∷ entries) = fitting-short fd buffer s (fitting_entries count (entry ∷ entries))

listing-short : (fd buffer count n : ℕ) (last : Option (List ℕ)) (s : Scene) → Short (listing_reply fd buffer count n last s)
unfolding listing_reply
listing-short fd buffer count n last s = search (short_rows, left-short)

listing_kind-short : (fd buffer count : ℕ) (kind : DescKind) (last : Option (List ℕ)) (s : Scene) → Short (listing_reply_by_kind fd buffer count kind last s)
listing_kind-short fd buffer count (File n) last s = search short_rows
listing_kind-short fd buffer count (Dir n) last s = listing-short fd buffer count n last s
listing_kind-short fd buffer count (Device n) last s = search short_rows
listing_kind-short fd buffer count (PipeRead q) last s = search short_rows
listing_kind-short fd buffer count (PipeWrite q) last s = search short_rows
listing_kind-short fd buffer count Input last s = search short_rows
listing_kind-short fd buffer count (Stream stream) last s = search short_rows

getdents-short : (args : List ℕ) (s : Scene) → Short (getdents64_row args s)
unfolding getdents64_row
getdents-short args s = search (short_rows, listing_kind-short)

-- a pipe that is made, read or written
new_pipe-short : (s : Scene) (flags : ℕ) (ends : ℕ × ℕ) (pages : Result (List PageView) Miss) → Short (new_pipe_reply s flags ends pages)
new_pipe-short s flags ends (Err miss) = search short_rows
new_pipe-short s flags ends (Ok pages) = record { short = tt }

pipe-short : (s : Scene) (buffer flags : ℕ) (ends : Option (ℕ × ℕ)) → Short (pipe_reply s buffer flags ends)
pipe-short s buffer flags None = search short_rows
pipe-short s buffer flags (Some ends) = search (short_rows, new_pipe-short)

pipe2-short : (args : List ℕ) (s : Scene) → Short (pipe2_row args s)
unfolding pipe2_row
pipe2-short args s = search (short_rows, pipe-short)

flow-short : (s : Scene) (o : FilesAnswer Flow) → Short (flow_reply s o)
flow-short s o = by_answer o.answer
  where
    by_answer : (answer : Result Flow Errno) → Short (record { next = with_holding o.next s; answer = flow_answer answer })
    by_answer (Ok (Moved count)) = record { short = tt }
    by_answer (Ok (Part count)) = record { short = tt }
    by_answer (Ok (Broken count)) = record { short = tt }
    by_answer (Ok Wait) = record { short = tt }
    by_answer (Err errno) = record { short = tt }

-- a seek
seek_to-short : (fd : ℕ) (s : Scene) (offset : Option ℕ) → Short (seek_to_reply fd s offset)
seek_to-short fd s None = search short_rows
seek_to-short fd s (Some offset) = record { short = tt }

seek-short : (fd by whence : ℕ) (kind : DescKind) (spot : Spot) (s : Scene) → Short (seek_reply fd by whence kind spot s)
seek-short fd by whence (File n) spot s = search (short_rows, seek_to-short)
seek-short fd by whence (Dir n) spot s = search short_rows
seek-short fd by whence (Device n) spot s = search short_rows
seek-short fd by whence (PipeRead q) spot s = search short_rows
seek-short fd by whence (PipeWrite q) spot s = search short_rows
seek-short fd by whence Input spot s = search short_rows
seek-short fd by whence (Stream stream) spot s = search short_rows

lseek-short : (args : List ℕ) (s : Scene) → Short (lseek_row args s)
unfolding lseek_row
lseek-short args s = search (short_rows, seek-short)

-- ranges that were read
ranges-short : (s : Scene) (found : Result (List Range) Errno) (row : List Range → Reply) → ((ranges : List Range) → found ≡ Ok ranges → Short (row ranges)) → Short (on_ranges s found row)
ranges-short s (Err errno) row short = refused-short s errno
ranges-short s (Ok ranges) row short = short ranges refl

-- a read
received-short : (s : Scene) (fd offset count : ℕ) (pages : Result (List PageView) Miss) → Short (received_reply s fd offset count pages)
received-short s fd offset count (Err miss) = search short_rows
received-short s fd offset count (Ok pages) = record { short = tt }

pipe_fill-short : (s : Scene) (o : FilesAnswer Flow) (pages : Result (List PageView) Miss) → Short (pipe_fill_reply s o pages)
pipe_fill-short s o (Err miss) = search short_rows
pipe_fill-short s o (Ok pages) = flow-short (record s { space = pages }) o

pipe_read-short : (fd : ℕ) (ranges : List Range) (s : Scene) → Short (pipe_read_reply fd ranges s)
unfolding pipe_read_reply
pipe_read-short fd ranges s = search (short_rows, pipe_fill-short)

drawn-short : (s : Scene) (count : ℕ) (pages : Result (List PageView) Miss) → Short (drawn_reply s count pages)
drawn-short s count (Err miss) = refused-short s _
drawn-short s count (Ok pages) = record { short = tt }

device_bytes-short : (device : Option base.Device) (ranges : List Range) (s : Scene) → Short (bytes_of_device_reply device ranges s)
device_bytes-short None ranges s = value-short s 0
device_bytes-short (Some Null) ranges s = value-short s 0
device_bytes-short (Some Zero) ranges s = filled-short s (total_len ranges) (scattered_pages s.space ranges (replicate (total_len ranges) 0))
device_bytes-short (Some Random) ranges s = drawn-short s (total_len ranges) (scattered_pages s.space ranges (next_bytes s.rand (total_len ranges)))

device-short : (n : ℕ) (ranges : List Range) (s : Scene) → Short (device_read_reply n ranges s)
device-short n ranges s = device_bytes-short (device_at s.tree.shape n) ranges s

read_kind-short : (fd : ℕ) (ranges : List Range) (kind : DescKind) (offset : ℕ) (s : Scene) → Short (read_reply_by_kind fd ranges kind offset s)
unfolding read_reply_by_kind
read_kind-short fd ranges (File n) offset s = search (short_rows, received-short)
read_kind-short fd ranges (Dir n) offset s = search short_rows
read_kind-short fd ranges (Device n) offset s = device-short n ranges s
read_kind-short fd ranges (PipeRead q) offset s = pipe_read-short fd ranges s
read_kind-short fd ranges (PipeWrite q) offset s = search short_rows
read_kind-short fd ranges Input offset s = search (short_rows, received-short)
read_kind-short fd ranges (Stream stream) offset s = search short_rows

read_by-short : (fd : ℕ) (ranges : List Range) (desc : Desc) (s : Scene) → Short (read_reply fd ranges desc s)
read_by-short fd ranges desc s = search (short_rows, read_kind-short)

read-short : (args : List ℕ) (s : Scene) → Short (read_row args s)
unfolding read_row
read-short args s = search (short_rows, read_by-short)

readv-short : (args : List ℕ) (s : Scene) → Short (readv_row args s)
unfolding readv_row
readv-short args s = search (short_rows, ranges-short, read_by-short)

read_at_kind-short : (offset : ℕ) (ranges : List Range) (kind : DescKind) (s : Scene) → Short (read_at_reply_by_kind offset ranges kind s)
read_at_kind-short offset ranges (File n) s = search short_rows
read_at_kind-short offset ranges (Dir n) s = search short_rows
read_at_kind-short offset ranges (Device n) s = device-short n ranges s
read_at_kind-short offset ranges (PipeRead q) s = search short_rows
read_at_kind-short offset ranges (PipeWrite q) s = search short_rows
read_at_kind-short offset ranges Input s = search short_rows
read_at_kind-short offset ranges (Stream stream) s = search short_rows

pread-short : (args : List ℕ) (s : Scene) → Short (pread64_row args s)
unfolding pread64_row
pread-short args s = search (short_rows, read_at_kind-short)

-- a write
written-short : (s : Scene) (count : ℕ) (next : Scene → Scene) (answer : Result (Unit {0}) Errno) (t : FileTree) → Short (write_result_reply s count next answer t)
written-short s count next (Err errno) t = refused-short s errno
written-short s count next (Ok done) t = record { short = tt }

write_kind-short : (fd : ℕ) (append : Bool) (offset : ℕ) (kind : DescKind) (bytes : List ℕ) (s : Scene) → length bytes ≤ TRANSFER_LIMIT → Short (write_reply_by_kind fd append offset kind bytes s)
write_kind-short fd append offset (File n) bytes s few = search (short_rows, written-short)
write_kind-short fd append offset (Dir n) bytes s few = search short_rows
write_kind-short fd append offset (Device n) bytes s few = search short_rows
write_kind-short fd append offset (PipeRead q) bytes s few = search short_rows
write_kind-short fd append offset (PipeWrite q) bytes s few = search (short_rows, flow-short)
write_kind-short fd append offset Input bytes s few = search short_rows
write_kind-short fd append offset (Stream stream) bytes s few = record { short = few }

write_bytes-short : (fd : ℕ) (desc : Desc) (bytes : List ℕ) (s : Scene) → length bytes ≤ TRANSFER_LIMIT → Short (bytes_write_reply fd desc bytes s)
write_bytes-short fd desc [] s few = value-short s 0
write_bytes-short fd desc (byte ∷ bytes) s few = write_kind-short fd desc.append (offset_of desc.spot) desc.kind (byte ∷ bytes) s few

bytes-short : (s : Scene) (ranges : List Range) (row : List ℕ → Reply) → total_len ranges ≤ TRANSFER_LIMIT → ((bytes : List ℕ) → length bytes ≤ TRANSFER_LIMIT → Short (row bytes)) → Short (on_bytes s (gathered_bytes s.space ranges) row)
bytes-short s ranges row few short = by_bytes (gathered_bytes s.space ranges) refl
  where
    by_bytes : (found : Result (List ℕ) Miss) → gathered_bytes s.space ranges ≡ found → Short (on_bytes s found row)
    by_bytes (Err miss) is = refused-short s _
    by_bytes (Ok bytes) is = let whole = gathered-length s.space ranges bytes is in short bytes (omega arith)

write_ranges-short : (fd : ℕ) (ranges : List Range) (desc : Desc) (s : Scene) → total_len ranges ≤ TRANSFER_LIMIT → Short (write_reply fd ranges desc s)
write_ranges-short fd ranges desc s few = search (short_rows, bytes-short, write_bytes-short)

write_fd-short : (fd : ℕ) (ranges : List Range) (s : Scene) → total_len ranges ≤ TRANSFER_LIMIT → Short (descriptor_write_reply fd ranges s)
write_fd-short fd ranges s few = search (short_rows, write_ranges-short)

-- a buffer that is cut to what one call moves
one-few : (address count : ℕ) → total_len (one_range address (byte_count count)) ≤ TRANSFER_LIMIT
one-few address count = omega arith

write-short : (args : List ℕ) (s : Scene) → Short (write_row args s)
unfolding write_row
write-short args s =
    write_fd-short (low_word (argument args 0)) (one_range (argument args 1) (byte_count (argument args 2))) s
    (one-few (argument args 1) (argument args 2))

writev-short : (args : List ℕ) (s : Scene) → Short (writev_row args s)
unfolding writev_row
writev-short args s =
    ranges-short s (ranges_at s.space (argument args 1) (low_word (argument args 2)))
    (λ ranges. descriptor_write_reply (low_word (argument args 0)) ranges s) (λ ranges is.
    write_fd-short (low_word (argument args 0)) ranges s (few_at s.space (argument args 1) (low_word (argument args 2)) ranges is))

write_at-short : (n offset : ℕ) (bytes : List ℕ) (s : Scene) → Short (bytes_write_at_reply n offset bytes s)
write_at-short n offset [] s = value-short s 0
write_at-short n offset (byte ∷ bytes) s = search (short_rows, written-short)

any_bytes-short : (s : Scene) (found : Result (List ℕ) Miss) (row : List ℕ → Reply) → ((bytes : List ℕ) → Short (row bytes)) → Short (on_bytes s found row)
any_bytes-short s (Err miss) row short = search short_rows
any_bytes-short s (Ok bytes) row short = short bytes

write_at_kind-short : (offset : ℕ) (ranges : List Range) (append : Bool) (kind : DescKind) (s : Scene) → Short (write_at_reply_by_kind offset ranges append kind s)
write_at_kind-short offset ranges append (File n) s = search (short_rows, any_bytes-short, write_at-short)
write_at_kind-short offset ranges append (Dir n) s = search short_rows
write_at_kind-short offset ranges append (Device n) s =
    any_bytes-short s (gathered_bytes s.space ranges) (λ bytes. device_write_reply bytes s) (λ bytes. value-short s (length bytes))
write_at_kind-short offset ranges append (PipeRead q) s = search short_rows
write_at_kind-short offset ranges append (PipeWrite q) s = search short_rows
write_at_kind-short offset ranges append Input s = search short_rows
write_at_kind-short offset ranges append (Stream stream) s = search short_rows

pwrite-short : (args : List ℕ) (s : Scene) → Short (pwrite64_row args s)
unfolding pwrite64_row
pwrite-short args s = search (short_rows, write_at_kind-short)

cut-short : (len : ℕ) (kind : DescKind) (s : Scene) → Short (truncate_reply_by_kind len kind s)
cut-short len (File n) s = search short_rows
cut-short len (Dir n) s = search short_rows
cut-short len (Device n) s = search short_rows
cut-short len (PipeRead q) s = search short_rows
cut-short len (PipeWrite q) s = search short_rows
cut-short len Input s = search short_rows
cut-short len (Stream stream) s = search short_rows

truncate-short : (args : List ℕ) (s : Scene) → Short (ftruncate_row args s)
unfolding ftruncate_row
truncate-short args s = search (short_rows, cut-short)

-- a call on open files
pub io-short : (number : ℕ) (args : List ℕ) (s : Scene) → Short (io_row number args s)
unfolding io_row
io-short number args s = search (short_rows, dup-short, dup3-short, fcntl-short, ioctl-short, truncate-short, close-short, pipe2-short, getdents-short, lseek-short, read-short, write-short, readv-short, writev-short, pread-short, pwrite-short) depth 20
