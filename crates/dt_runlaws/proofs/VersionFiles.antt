-- Each call on open files leaves the version that the file tree keeps, and the standard input.
use Rattle.std.proofs.Common.{◌≡◌, ℕ, ◌+◌, List, [], ◌∷◌, length, Bool, refl, ap, ◌∙◌}
use Rattle.std.specs.Prelude.{Option, None, Some, Result, Ok, Err, min}
use Rattle.dt_base.specs.Abi.{low_word, has_flag}
use Rattle.dt_base.specs.declared.abi.TheConstants.{O_CLOEXEC}
use Rattle.dt_base.specs.declared.errno.Errno.{Errno}
use Rattle.dt_base.specs.declared.image.Device.{Device as DeviceKind}
use Rattle.dt_base.specs.declared.image.Device.TheVariants as device
use Rattle.dt_fds.specs.declared.desc.Desc.{Desc}
use Rattle.dt_fds.specs.declared.desc.DescKind.{DescKind}
use Rattle.dt_fds.specs.declared.desc.DescKind.TheVariants.{File, Dir, Device, PipeRead, PipeWrite, Input, Stream}
use Rattle.dt_fds.specs.declared.desc.Spot.{Spot}
use Rattle.dt_fds.specs.declared.desc.Spot.TheVariants.{At}
use Rattle.dt_fds.specs.declared.flow.Flow.{Flow}
use Rattle.dt_fds.specs.Holding.{FilesAnswer}
use Rattle.dt_host.specs.World.{device_at}
use Rattle.dt_space.specs.declared.access.Miss.{Miss}
use Rattle.dt_space.specs.Space.{PageView}
use Rattle.dt_tree.specs.declared.list.Listed.{Listed}
use Rattle.dt_tree.specs.Calls.{cut_of}
use Rattle.dt_tree.specs.FileTree.{FileTree}
use Rattle.dt_callbase.specs.Arguments.{argument}
use Rattle.dt_callbase.specs.Scene.{Scene, Reply, value_reply, holding, stamp, with_changed_tree}
use Rattle.dt_iocalls.specs.declared.ranges.Range.{Range}
use Rattle.dt_iocalls.specs.Calls.{io_row}
use Rattle.dt_iocalls.specs.Descriptors.{close_row, dup_row, dup_at_reply, dup3_row, fcntl_row, ioctl_row, command_reply, dup_from_reply, set_cloexec_reply, set_flags_reply}
use Rattle.dt_iocalls.specs.Entries.{getdents64_row, listing_reply_by_kind, listing_reply, left_entries_reply, fitting_entries_reply, entries_fill_reply, fitting_entries}
use Rattle.dt_iocalls.specs.Offsets.{offset_of, with_spot}
use Rattle.dt_iocalls.specs.Piping.{pipe2_row, pipe_reply, new_pipe_reply}
use Rattle.dt_iocalls.specs.Ranges.{on_ranges}
use Rattle.dt_iocalls.specs.Reading.{read_row, readv_row, pread64_row, read_reply, read_reply_by_kind, read_at_reply_by_kind, received_reply, drawn_reply, bytes_of_device_reply, device_read_reply, pipe_fill_reply, pipe_read_reply}
use Rattle.dt_iocalls.specs.Seeking.{lseek_row, seek_reply, rewind_reply, seek_to_reply}
use Rattle.dt_iocalls.specs.Writing.{write_row, writev_row, pwrite64_row, ftruncate_row, on_bytes, write_result_reply, file_write_reply, appending_write_reply, pipe_write_reply, write_offset, write_reply_by_kind, bytes_write_reply, write_reply, descriptor_write_reply, bytes_write_at_reply, write_at_reply_by_kind, truncate_reply_by_kind}
use Rattle.dt_runlaws.proofs.VersionReplies.{kept_rows, Kept, value-kept, refused-kept, tree-kept, files-kept}
use Rattle.dt_runlaws.proofs.VersionTrees.{close-version, dup-version, dup_at-version, pipe_read-version, pipe_write-version, write-version, cut-version}

close-kept : (args : List ℕ) (s : Scene) → Kept s (close_row args s)
unfolding close_row
close-kept args s = files-kept (λ done. 0) s _ (close-version s.caller.vpid (low_word (argument args 0)) (holding s))

dup_by-kept : (fd from : ℕ) (cloexec : Bool) (s : Scene) → Kept s (dup_from_reply fd from cloexec s)
dup_by-kept fd from cloexec s = search (kept_rows, files-kept, dup-version)

dup-kept : (args : List ℕ) (s : Scene) → Kept s (dup_row args s)
unfolding dup_row
dup-kept args s = files-kept (λ new. new) s _ (dup-version s.caller.vpid (low_word (argument args 0)) 0 _ (holding s))

dup_at-kept : (old new flags : ℕ) (s : Scene) → Kept s (dup_at_reply old new flags s)
dup_at-kept old new flags s = files-kept (λ done. new) s _ (dup_at-version s.caller.vpid old new (has_flag flags O_CLOEXEC) (holding s))

dup3-kept : (args : List ℕ) (s : Scene) → Kept s (dup3_row args s)
unfolding dup3_row
dup3-kept args s = search (kept_rows, dup_at-kept)

set_cloexec-kept : (fd arg : ℕ) (s : Scene) → Kept s (set_cloexec_reply fd arg s)
set_cloexec-kept fd arg s = record { version = refl; input = refl }

set_flags-kept : (fd arg : ℕ) (s : Scene) → Kept s (set_flags_reply fd arg s)
set_flags-kept fd arg s = record { version = refl; input = refl }

command-kept : (command fd arg flags : ℕ) (s : Scene) → Kept s (command_reply command fd arg flags s)
unfolding command_reply
command-kept command fd arg flags s = search (kept_rows, dup_by-kept, set_cloexec-kept, set_flags-kept) depth 10

fcntl-kept : (args : List ℕ) (s : Scene) → Kept s (fcntl_row args s)
unfolding fcntl_row
fcntl-kept args s = search (kept_rows, command-kept)

ioctl-kept : (args : List ℕ) (s : Scene) → Kept s (ioctl_row args s)
unfolding ioctl_row
ioctl-kept args s = search kept_rows

-- a listing
listed-kept : (s : Scene) (fd count : ℕ) (last : Option (List ℕ)) (pages : Result (List PageView) Miss) → Kept s (entries_fill_reply s fd last count pages)
listed-kept s fd count last (Err miss) = search kept_rows
listed-kept s fd count last (Ok pages) = record { version = refl; input = refl }

fitting-kept : (fd buffer : ℕ) (s : Scene) (entries : List Listed) → Kept s (fitting_entries_reply fd buffer s entries)
fitting-kept fd buffer s [] = search kept_rows
fitting-kept fd buffer s (entry ∷ entries) = search (kept_rows, listed-kept)

left-kept : (fd buffer count : ℕ) (s : Scene) (entries : List Listed) → Kept s (left_entries_reply fd buffer count s entries)
left-kept fd buffer count s [] = value-kept s 0
left-kept fd buffer count s (entry ∷ entries) = fitting-kept fd buffer s (fitting_entries count (entry ∷ entries))

listing-kept : (fd buffer count n : ℕ) (last : Option (List ℕ)) (s : Scene) → Kept s (listing_reply fd buffer count n last s)
unfolding listing_reply
listing-kept fd buffer count n last s = search (kept_rows, left-kept)

listing_kind-kept : (fd buffer count : ℕ) (kind : DescKind) (last : Option (List ℕ)) (s : Scene) → Kept s (listing_reply_by_kind fd buffer count kind last s)
listing_kind-kept fd buffer count (File n) last s = search kept_rows
listing_kind-kept fd buffer count (Dir n) last s = listing-kept fd buffer count n last s
listing_kind-kept fd buffer count (Device n) last s = search kept_rows
listing_kind-kept fd buffer count (PipeRead q) last s = search kept_rows
listing_kind-kept fd buffer count (PipeWrite q) last s = search kept_rows
listing_kind-kept fd buffer count Input last s = search kept_rows
listing_kind-kept fd buffer count (Stream stream) last s = search kept_rows

getdents-kept : (args : List ℕ) (s : Scene) → Kept s (getdents64_row args s)
unfolding getdents64_row
getdents-kept args s = search (kept_rows, listing_kind-kept)

-- a pipe that is made, read or written
new_pipe-kept : (s : Scene) (flags : ℕ) (ends : ℕ × ℕ) (pages : Result (List PageView) Miss) → Kept s (new_pipe_reply s flags ends pages)
new_pipe-kept s flags ends (Err miss) = search kept_rows
new_pipe-kept s flags ends (Ok pages) = record { version = refl; input = refl }

pipe-kept : (s : Scene) (buffer flags : ℕ) (ends : Option (ℕ × ℕ)) → Kept s (pipe_reply s buffer flags ends)
pipe-kept s buffer flags None = search kept_rows
pipe-kept s buffer flags (Some ends) = search (kept_rows, new_pipe-kept)

pipe2-kept : (args : List ℕ) (s : Scene) → Kept s (pipe2_row args s)
unfolding pipe2_row
pipe2-kept args s = search (kept_rows, pipe-kept)

-- a seek
seek_to-kept : (fd : ℕ) (s : Scene) (offset : Option ℕ) → Kept s (seek_to_reply fd s offset)
seek_to-kept fd s None = search kept_rows
seek_to-kept fd s (Some offset) = record { version = refl; input = refl }

spot-kept : (s : Scene) (fd value : ℕ) (spot : Spot) → Kept s (value_reply (with_spot s fd spot) value)
spot-kept s fd value spot = record { version = refl; input = refl }

rewind-kept : (fd by whence : ℕ) (s : Scene) → Kept s (rewind_reply fd by whence s)
rewind-kept fd by whence s = search (kept_rows, spot-kept)

seek-kept : (fd by whence : ℕ) (kind : DescKind) (spot : Spot) (s : Scene) → Kept s (seek_reply fd by whence kind spot s)
seek-kept fd by whence (File n) spot s = search (kept_rows, seek_to-kept)
seek-kept fd by whence (Dir n) spot s = rewind-kept fd by whence s
seek-kept fd by whence (Device n) spot s = search kept_rows
seek-kept fd by whence (PipeRead q) spot s = search kept_rows
seek-kept fd by whence (PipeWrite q) spot s = search kept_rows
seek-kept fd by whence Input spot s = search kept_rows
seek-kept fd by whence (Stream stream) spot s = search kept_rows

lseek-kept : (args : List ℕ) (s : Scene) → Kept s (lseek_row args s)
unfolding lseek_row
lseek-kept args s = search (kept_rows, seek-kept)

-- ranges that were read
ranges-kept : (s : Scene) (found : Result (List Range) Errno) (row : List Range → Reply) → ((ranges : List Range) → Kept s (row ranges)) → Kept s (on_ranges s found row)
ranges-kept s (Err errno) row kept = refused-kept s errno
ranges-kept s (Ok ranges) row kept = kept ranges

-- a read
received-kept : (s : Scene) (fd offset count : ℕ) (pages : Result (List PageView) Miss) → Kept s (received_reply s fd offset count pages)
received-kept s fd offset count (Err miss) = search kept_rows
received-kept s fd offset count (Ok pages) = record { version = refl; input = refl }

drawn-kept : (s : Scene) (count : ℕ) (pages : Result (List PageView) Miss) → Kept s (drawn_reply s count pages)
drawn-kept s count (Err miss) = search kept_rows
drawn-kept s count (Ok pages) = record { version = refl; input = refl }

device_bytes-kept : (which : Option DeviceKind) (ranges : List Range) (s : Scene) → Kept s (bytes_of_device_reply which ranges s)
device_bytes-kept None ranges s = value-kept s 0
device_bytes-kept (Some device.Null) ranges s = value-kept s 0
device_bytes-kept (Some device.Zero) ranges s = search kept_rows
device_bytes-kept (Some device.Random) ranges s = search (kept_rows, drawn-kept)

device-kept : (n : ℕ) (ranges : List Range) (s : Scene) → Kept s (device_read_reply n ranges s)
device-kept n ranges s = device_bytes-kept (device_at s.tree.shape n) ranges s

pipe_fill-kept : (s : Scene) (o : FilesAnswer Flow) (pages : Result (List PageView) Miss) → o.next.tree.version ≡ s.tree.version → Kept s (pipe_fill_reply s o pages)
pipe_fill-kept s o (Err miss) same = search kept_rows
pipe_fill-kept s o (Ok pages) same = record { version = same; input = refl }

pipe_read-kept : (fd : ℕ) (ranges : List Range) (s : Scene) → Kept s (pipe_read_reply fd ranges s)
unfolding pipe_read_reply
pipe_read-kept fd ranges s = search (kept_rows, pipe_fill-kept, pipe_read-version)

read_kind-kept : (fd : ℕ) (ranges : List Range) (kind : DescKind) (offset : ℕ) (s : Scene) → Kept s (read_reply_by_kind fd ranges kind offset s)
unfolding read_reply_by_kind
read_kind-kept fd ranges (File n) offset s = search (kept_rows, received-kept)
read_kind-kept fd ranges (Dir n) offset s = search kept_rows
read_kind-kept fd ranges (Device n) offset s = device-kept n ranges s
read_kind-kept fd ranges (PipeRead q) offset s = pipe_read-kept fd ranges s
read_kind-kept fd ranges (PipeWrite q) offset s = search kept_rows
read_kind-kept fd ranges Input offset s = search (kept_rows, received-kept)
read_kind-kept fd ranges (Stream stream) offset s = search kept_rows

read_by-kept : (fd : ℕ) (ranges : List Range) (desc : Desc) (s : Scene) → Kept s (read_reply fd ranges desc s)
read_by-kept fd ranges desc s = search (kept_rows, read_kind-kept)

read-kept : (args : List ℕ) (s : Scene) → Kept s (read_row args s)
unfolding read_row
read-kept args s = search (kept_rows, read_by-kept)

readv-kept : (args : List ℕ) (s : Scene) → Kept s (readv_row args s)
unfolding readv_row
readv-kept args s = search (kept_rows, ranges-kept, read_by-kept)

read_at_kind-kept : (offset : ℕ) (ranges : List Range) (kind : DescKind) (s : Scene) → Kept s (read_at_reply_by_kind offset ranges kind s)
read_at_kind-kept offset ranges (File n) s = search kept_rows
read_at_kind-kept offset ranges (Dir n) s = search kept_rows
read_at_kind-kept offset ranges (Device n) s = device-kept n ranges s
read_at_kind-kept offset ranges (PipeRead q) s = search kept_rows
read_at_kind-kept offset ranges (PipeWrite q) s = search kept_rows
read_at_kind-kept offset ranges Input s = search kept_rows
read_at_kind-kept offset ranges (Stream stream) s = search kept_rows

pread-kept : (args : List ℕ) (s : Scene) → Kept s (pread64_row args s)
unfolding pread64_row
pread-kept args s = search (kept_rows, read_at_kind-kept)

-- a write
written-kept : (s : Scene) (count : ℕ) (next : Scene → Scene) (answer : Result (Unit {0}) Errno) (t : FileTree) → t.version ≡ s.tree.version → ((d : Scene) → ((next d).tree ≡ d.tree) × ((next d).input ≡ d.input)) → Kept s (write_result_reply s count next answer t)
written-kept s count next (Err errno) t same stays = refused-kept s errno
written-kept s count next (Ok done) t same stays = let d = with_changed_tree t s in record { version = ap (λ (t : FileTree). t.version) (stays d).0 ∙ same; input = (stays d).1 }

file_write-kept : (n offset : ℕ) (bytes : List ℕ) (next : Scene → Scene) (s : Scene) → ((d : Scene) → ((next d).tree ≡ d.tree) × ((next d).input ≡ d.input)) → Kept s (file_write_reply n offset bytes next s)
file_write-kept n offset bytes next s stays =
    written-kept s (length bytes) next _ _ (write-version s.tree n offset bytes (stamp s)) stays

appending-kept : (fd n : ℕ) (append : Bool) (offset : ℕ) (bytes : List ℕ) (s : Scene) → Kept s (appending_write_reply fd n append offset bytes s)
appending-kept fd n append offset bytes s =
    let at = write_offset s.tree append n offset in
    file_write-kept n at bytes (λ next. with_spot next fd (At (at + length bytes))) s (λ d. (refl, refl))

pipe_write-kept : (fd : ℕ) (bytes : List ℕ) (s : Scene) → Kept s (pipe_write_reply fd bytes s)
pipe_write-kept fd bytes s = record { version = pipe_write-version s.caller.vpid fd bytes (min s.caller.done (length bytes)) (holding s); input = refl }

write_kind-kept : (fd : ℕ) (append : Bool) (offset : ℕ) (kind : DescKind) (bytes : List ℕ) (s : Scene) → Kept s (write_reply_by_kind fd append offset kind bytes s)
write_kind-kept fd append offset (File n) bytes s = appending-kept fd n append offset bytes s
write_kind-kept fd append offset (Dir n) bytes s = search kept_rows
write_kind-kept fd append offset (Device n) bytes s = search kept_rows
write_kind-kept fd append offset (PipeRead q) bytes s = search kept_rows
write_kind-kept fd append offset (PipeWrite q) bytes s = pipe_write-kept fd bytes s
write_kind-kept fd append offset Input bytes s = search kept_rows
write_kind-kept fd append offset (Stream stream) bytes s = record { version = refl; input = refl }

write_bytes-kept : (fd : ℕ) (desc : Desc) (bytes : List ℕ) (s : Scene) → Kept s (bytes_write_reply fd desc bytes s)
write_bytes-kept fd desc [] s = value-kept s 0
write_bytes-kept fd desc (byte ∷ bytes) s = write_kind-kept fd desc.append (offset_of desc.spot) desc.kind (byte ∷ bytes) s

bytes-kept : (s : Scene) (found : Result (List ℕ) Miss) (row : List ℕ → Reply) → ((bytes : List ℕ) → Kept s (row bytes)) → Kept s (on_bytes s found row)
bytes-kept s (Err miss) row kept = search kept_rows
bytes-kept s (Ok bytes) row kept = kept bytes

write_ranges-kept : (fd : ℕ) (ranges : List Range) (desc : Desc) (s : Scene) → Kept s (write_reply fd ranges desc s)
write_ranges-kept fd ranges desc s = search (kept_rows, bytes-kept, write_bytes-kept)

write_fd-kept : (fd : ℕ) (ranges : List Range) (s : Scene) → Kept s (descriptor_write_reply fd ranges s)
write_fd-kept fd ranges s = search (kept_rows, write_ranges-kept)

write-kept : (args : List ℕ) (s : Scene) → Kept s (write_row args s)
unfolding write_row
write-kept args s = write_fd-kept _ _ s

writev-kept : (args : List ℕ) (s : Scene) → Kept s (writev_row args s)
unfolding writev_row
writev-kept args s = search (kept_rows, ranges-kept, write_fd-kept)

write_at-kept : (n offset : ℕ) (bytes : List ℕ) (s : Scene) → Kept s (bytes_write_at_reply n offset bytes s)
write_at-kept n offset [] s = value-kept s 0
write_at-kept n offset (byte ∷ bytes) s = file_write-kept n offset (byte ∷ bytes) (λ next. next) s (λ d. (refl, refl))

write_at_kind-kept : (offset : ℕ) (ranges : List Range) (append : Bool) (kind : DescKind) (s : Scene) → Kept s (write_at_reply_by_kind offset ranges append kind s)
write_at_kind-kept offset ranges append (File n) s = search (kept_rows, bytes-kept, write_at-kept)
write_at_kind-kept offset ranges append (Dir n) s = search kept_rows
write_at_kind-kept offset ranges append (Device n) s = search (kept_rows, bytes-kept)
write_at_kind-kept offset ranges append (PipeRead q) s = search kept_rows
write_at_kind-kept offset ranges append (PipeWrite q) s = search kept_rows
write_at_kind-kept offset ranges append Input s = search kept_rows
write_at_kind-kept offset ranges append (Stream stream) s = search kept_rows

pwrite-kept : (args : List ℕ) (s : Scene) → Kept s (pwrite64_row args s)
unfolding pwrite64_row
pwrite-kept args s = search (kept_rows, write_at_kind-kept)

cut-kept : (len : ℕ) (kind : DescKind) (s : Scene) → Kept s (truncate_reply_by_kind len kind s)
cut-kept len (File n) s = tree-kept s (cut_of s.tree n len (stamp s)) (cut-version s.tree n len (stamp s))
cut-kept len (Dir n) s = search kept_rows
cut-kept len (Device n) s = search kept_rows
cut-kept len (PipeRead q) s = search kept_rows
cut-kept len (PipeWrite q) s = search kept_rows
cut-kept len Input s = search kept_rows
cut-kept len (Stream stream) s = search kept_rows

truncate-kept : (args : List ℕ) (s : Scene) → Kept s (ftruncate_row args s)
unfolding ftruncate_row
truncate-kept args s = search (kept_rows, cut-kept)

-- a call on open files
pub io-kept : (number : ℕ) (args : List ℕ) (s : Scene) → Kept s (io_row number args s)
unfolding io_row
io-kept number args s = search (kept_rows, dup-kept, dup3-kept, fcntl-kept, ioctl-kept, truncate-kept, close-kept, pipe2-kept, getdents-kept, lseek-kept, read-kept, write-kept, readv-kept, writev-kept, pread-kept, pwrite-kept) depth 20
