-- The calls that write or cut a file: write(2), writev(2), pwrite64(2), ftruncate(2).
use Rattle.std.specs.Prelude.{ℕ, ◌+◌, ◌^◌, Bool, true, false, not, List, [], ◌∷◌, length, min, Result, Ok, Err, nat_le, if◌then◌else◌}
use Rattle.dt_base.specs.Abi.{low_word, byte_count}
use Rattle.dt_base.specs.declared.answer.Answer.TheVariants.{Output}
use Rattle.dt_base.specs.declared.errno.Errno.{Errno}
use Rattle.dt_base.specs.declared.errno.Errno.TheVariants.{BadF, Inval, IsDir, SPipe, Fault as BadAddress}
use Rattle.dt_fds.specs.declared.desc.Desc.{Desc}
use Rattle.dt_fds.specs.declared.desc.DescKind.{DescKind}
use Rattle.dt_fds.specs.declared.desc.DescKind.TheVariants.{File, Dir, Device, PipeRead, PipeWrite, Input, Stream}
use Rattle.dt_fds.specs.declared.desc.Spot.TheVariants.{At}
use Rattle.dt_fds.specs.Holding.{pipe_write_call}
use Rattle.dt_host.specs.World.{content}
use Rattle.dt_space.specs.declared.access.Miss.{Miss}
use Rattle.dt_tree.specs.Calls.{write_at_of, cut_of}
use Rattle.dt_tree.specs.FileTree.{FileTree}
use Rattle.dt_iocalls.specs.declared.ranges.Range.{Range}
use Rattle.dt_iocalls.specs.Offsets.{is_writable, offset_of, with_spot}
use Rattle.dt_iocalls.specs.Piping.{flow_reply}
use Rattle.dt_iocalls.specs.Ranges.{one_range, gathered_bytes, ranges_at, on_ranges}
use Rattle.dt_callbase.specs.Arguments.{argument}
use Rattle.dt_callbase.specs.Scene.{Scene, Reply, value_reply, refused_reply, stamp, with_changed_tree, tree_call_reply, holding, description_of, on_description}

-- a row for bytes that were read from memory: EFAULT where one may not be read
abbrev pub on_bytes : Scene → Result (List ℕ) Miss → (List ℕ → Reply) → Reply
on_bytes s (Err miss) row = refused_reply s BadAddress
on_bytes s (Ok bytes) row = row bytes

-- where a write goes: to an offset, or to the end of the file with O_APPEND
abbrev pub write_offset : FileTree → Bool → ℕ → ℕ → ℕ
write_offset t append n offset = if append then length (content t.shape n) else offset

-- a file is written, so many bytes, and the scene goes on so
abbrev pub write_result_reply : Scene → ℕ → (Scene → Scene) → Result (Unit {0}) Errno → FileTree → Reply
write_result_reply s count next (Err errno) t = refused_reply s errno
write_result_reply s count next (Ok done) t = value_reply (next (with_changed_tree t s)) count

-- bytes go to an offset of a file
abbrev pub file_write_reply : ℕ → ℕ → List ℕ → (Scene → Scene) → Scene → Reply
file_write_reply n offset bytes next s =
    let d = write_at_of s.tree n offset bytes (stamp s) in write_result_reply s (length bytes) next d.answer d.tree

-- bytes go to a file at the offset of its description, which then goes on behind them
abbrev pub moving_write_reply : ℕ → ℕ → ℕ → List ℕ → Scene → Reply
moving_write_reply fd n offset bytes s = file_write_reply n offset bytes (λ next. with_spot next fd (At (offset + length bytes))) s

-- the same at the end of the file with O_APPEND
abbrev pub appending_write_reply : ℕ → ℕ → Bool → ℕ → List ℕ → Scene → Reply
appending_write_reply fd n append offset bytes s = moving_write_reply fd n (write_offset s.tree append n offset) bytes s

-- bytes are written to a pipe, of which as many are done as the call has moved so far
abbrev pub pipe_write_reply : ℕ → List ℕ → Scene → Reply
pipe_write_reply fd bytes s =
    flow_reply s (pipe_write_call s.caller.vpid fd bytes (min s.caller.done (length bytes)) (holding s))

-- bytes are written to a device, which takes them all and changes nothing
abbrev pub device_write_reply : List ℕ → Scene → Reply
device_write_reply bytes s = value_reply s (length bytes)

-- some bytes are written by what the descriptor refers to: those of a stream go out
abbrev pub write_reply_by_kind : ℕ → Bool → ℕ → DescKind → List ℕ → Scene → Reply
write_reply_by_kind fd append offset (File n) bytes s = appending_write_reply fd n append offset bytes s
write_reply_by_kind fd append offset (Dir n) bytes s = refused_reply s IsDir
write_reply_by_kind fd append offset (Device n) bytes s = device_write_reply bytes s
write_reply_by_kind fd append offset (PipeRead q) bytes s = refused_reply s BadF
write_reply_by_kind fd append offset (PipeWrite q) bytes s = pipe_write_reply fd bytes s
write_reply_by_kind fd append offset Input bytes s = refused_reply s BadF
write_reply_by_kind fd append offset (Stream stream) bytes s = record { next = s; answer = Output stream bytes }

-- bytes are written, and with none nothing is done
abbrev pub bytes_write_reply : ℕ → Desc → List ℕ → Scene → Reply
bytes_write_reply fd desc [] s = value_reply s 0
bytes_write_reply fd desc (byte ∷ bytes) s = write_reply_by_kind fd desc.append (offset_of desc.spot) desc.kind (byte ∷ bytes) s

-- a write at the offset of a description that is open for writing
abbrev pub write_reply : ℕ → List Range → Desc → Scene → Reply
write_reply fd ranges desc s =
    if not (is_writable desc) then refused_reply s BadF
    else on_bytes s (gathered_bytes s.space ranges) (λ bytes. bytes_write_reply fd desc bytes s)

-- the same for a descriptor that may be open
abbrev pub descriptor_write_reply : ℕ → List Range → Scene → Reply
descriptor_write_reply fd ranges s = on_description s (description_of s fd) (λ desc. write_reply fd ranges desc s)

-- writes the bytes of a buffer where the description of a descriptor stands (write(2))
unfoldable pub write_row : List ℕ → Scene → Reply
write_row args s =
    descriptor_write_reply (low_word (argument args 0)) (one_range (argument args 1) (byte_count (argument args 2))) s

-- writev(2): the list of ranges is looked at before the descriptor
unfoldable pub writev_row : List ℕ → Scene → Reply
writev_row args s =
    on_ranges s (ranges_at s.space (argument args 1) (low_word (argument args 2)))
    (λ ranges. descriptor_write_reply (low_word (argument args 0)) ranges s)

-- bytes go to an offset of a file, whose description stays where it is, and with none nothing is done
abbrev pub bytes_write_at_reply : ℕ → ℕ → List ℕ → Scene → Reply
bytes_write_at_reply n offset [] s = value_reply s 0
bytes_write_at_reply n offset (byte ∷ bytes) s = file_write_reply n offset (byte ∷ bytes) (λ next. next) s

-- the bytes of ranges go to an offset of a file, or to its end with O_APPEND
abbrev pub file_write_at_reply : ℕ → Bool → ℕ → List Range → Scene → Reply
file_write_at_reply n append offset ranges s =
    on_bytes s (gathered_bytes s.space ranges) (λ bytes. bytes_write_at_reply n (write_offset s.tree append n offset) bytes s)

-- a write at an offset by what the descriptor refers to: pipes, the input and the streams have no offsets
abbrev pub write_at_reply_by_kind : ℕ → List Range → Bool → DescKind → Scene → Reply
write_at_reply_by_kind offset ranges append (File n) s = file_write_at_reply n append offset ranges s
write_at_reply_by_kind offset ranges append (Dir n) s = refused_reply s IsDir
write_at_reply_by_kind offset ranges append (Device n) s =
    on_bytes s (gathered_bytes s.space ranges) (λ bytes. device_write_reply bytes s)
write_at_reply_by_kind offset ranges append (PipeRead q) s = refused_reply s SPipe
write_at_reply_by_kind offset ranges append (PipeWrite q) s = refused_reply s SPipe
write_at_reply_by_kind offset ranges append Input s = refused_reply s SPipe
write_at_reply_by_kind offset ranges append (Stream stream) s = refused_reply s SPipe

-- a write at an offset of a description that is open for writing
abbrev pub write_at_reply : ℕ → List Range → Desc → Scene → Reply
write_at_reply offset ranges desc s =
    if not (is_writable desc) then refused_reply s BadF else write_at_reply_by_kind offset ranges desc.append desc.kind s

-- pwrite64(2): EINVAL for a negative offset comes first; with O_APPEND the bytes go to the end all the same
unfoldable pub pwrite64_row : List ℕ → Scene → Reply
pwrite64_row args s =
    if nat_le (2 ^ 63) (argument args 3) then refused_reply s Inval
    else on_description s (description_of s (low_word (argument args 0)))
    (λ desc. write_at_reply (argument args 3) (one_range (argument args 1) (byte_count (argument args 2))) desc s)

-- what the descriptor refers to is cut, or made longer: only a file may be
abbrev pub truncate_reply_by_kind : ℕ → DescKind → Scene → Reply
truncate_reply_by_kind len (File n) s = tree_call_reply s (cut_of s.tree n len (stamp s))
truncate_reply_by_kind len (Dir n) s = refused_reply s Inval
truncate_reply_by_kind len (Device n) s = refused_reply s Inval
truncate_reply_by_kind len (PipeRead q) s = refused_reply s Inval
truncate_reply_by_kind len (PipeWrite q) s = refused_reply s Inval
truncate_reply_by_kind len Input s = refused_reply s Inval
truncate_reply_by_kind len (Stream stream) s = refused_reply s Inval

-- ftruncate(2): EINVAL for a negative length comes first, and after EBADF for what is no file open for writing
unfoldable pub ftruncate_row : List ℕ → Scene → Reply
ftruncate_row args s =
    if nat_le (2 ^ 63) (argument args 1) then refused_reply s Inval
    else on_description s (description_of s (low_word (argument args 0)))
    (λ desc. if not (is_writable desc) then refused_reply s Inval else truncate_reply_by_kind (argument args 1) desc.kind s)
