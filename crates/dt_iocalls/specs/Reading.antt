-- The calls that read: read(2), readv(2), pread64(2).
use Rattle.std.specs.Prelude.{ℕ, ◌+◌, ◌^◌, ◌==◌, not, List, length, replicate, take, drop, Option, Some, None, Result, Ok, Err, nat_le, if◌then◌else◌}
use Rattle.dt_base.specs.Abi.{low_word, byte_count}
use Rattle.dt_base.specs.declared.errno.Errno.TheVariants.{BadF, Inval, IsDir, SPipe, Fault as BadAddress}
use Rattle.dt_fds.specs.declared.desc.Desc.{Desc}
use Rattle.dt_fds.specs.declared.desc.DescKind.{DescKind}
use Rattle.dt_fds.specs.declared.desc.DescKind.TheVariants.{File, Dir, Device, PipeRead, PipeWrite, Input, Stream}
use Rattle.dt_fds.specs.declared.desc.Spot.TheVariants.{At}
use Rattle.dt_fds.specs.declared.flow.Flow.{Flow}
use Rattle.dt_fds.specs.Holding.{FilesAnswer, pipe_read_call, bytes_read}
use Rattle.dt_base.specs.declared.image.Device as base
use Rattle.dt_base.specs.declared.image.Device.TheVariants.{Null, Zero, Random}
use Rattle.dt_host.specs.World.{content, device_at}
use Rattle.dt_virt.specs.Words.{next_bytes, rest_after}
use Rattle.dt_space.specs.declared.access.Miss.{Miss}
use Rattle.dt_space.specs.Space.{PageView}
use Rattle.dt_iocalls.specs.declared.ranges.Range.{Range}
use Rattle.dt_iocalls.specs.Offsets.{is_readable, offset_of, with_spot}
use Rattle.dt_iocalls.specs.Piping.{flow_reply}
use Rattle.dt_iocalls.specs.Ranges.{one_range, total_len, scattered_pages, ranges_at, on_ranges}
use Rattle.dt_callbase.specs.Arguments.{argument}
use Rattle.dt_callbase.specs.Filling.{filled_reply}
use Rattle.dt_callbase.specs.Scene.{Scene, Reply, value_reply, refused_reply, holding, description_of, on_description}

-- as much of a file as ranges take, from an offset on
abbrev pub file_bytes_from : Scene → ℕ → ℕ → List Range → List ℕ
file_bytes_from s n offset ranges = take (total_len ranges) (drop offset (content s.tree.shape n))

-- a file is read from an offset on: EFAULT where a byte that is to be filled may not be written
abbrev pub file_read_at_reply : ℕ → ℕ → List Range → Scene → Reply
file_read_at_reply n offset ranges s =
    let bytes = file_bytes_from s n offset ranges in filled_reply s (length bytes) (scattered_pages s.space ranges bytes)

-- so many bytes came, and the description goes on behind them: EFAULT where one of them could not be put into its buffer
abbrev pub received_reply : Scene → ℕ → ℕ → ℕ → Result (List PageView) Miss → Reply
received_reply s fd offset count (Err miss) = refused_reply s BadAddress
received_reply s fd offset count (Ok pages) = value_reply (record (with_spot s fd (At (offset + count))) { space = pages }) count

-- a file is read where its description stands
abbrev pub file_read_reply : ℕ → ℕ → ℕ → List Range → Scene → Reply
file_read_reply fd n offset ranges s =
    let bytes = file_bytes_from s n offset ranges in received_reply s fd offset (length bytes) (scattered_pages s.space ranges bytes)

-- the input is read where its description stands
abbrev pub input_read_reply : ℕ → ℕ → List Range → Scene → Reply
input_read_reply fd offset ranges s =
    let bytes = take (total_len ranges) (drop offset s.input) in received_reply s fd offset (length bytes) (scattered_pages s.space ranges bytes)

-- so many random bytes came, and their words are used up: EFAULT where one of them could not be put into its buffer, and then
-- no word is
abbrev pub drawn_reply : Scene → ℕ → Result (List PageView) Miss → Reply
drawn_reply s count (Err miss) = refused_reply s BadAddress
drawn_reply s count (Ok pages) = value_reply (record s { rand = rest_after s.rand count; space = pages }) count

-- a device is read: no bytes, zeros, or the next bytes of the seed's words, as getrandom(2) draws them for all ranges together
abbrev pub bytes_of_device_reply : Option base.Device → List Range → Scene → Reply
bytes_of_device_reply None ranges s = value_reply s 0
bytes_of_device_reply (Some Null) ranges s = value_reply s 0
bytes_of_device_reply (Some Zero) ranges s =
    let count = total_len ranges in filled_reply s count (scattered_pages s.space ranges (replicate count 0))
bytes_of_device_reply (Some Random) ranges s =
    let count = total_len ranges in drawn_reply s count (scattered_pages s.space ranges (next_bytes s.rand count))

abbrev pub device_read_reply : ℕ → List Range → Scene → Reply
device_read_reply n ranges s = bytes_of_device_reply (device_at s.tree.shape n) ranges s

-- bytes came from a pipe: EFAULT where one of them could not be put into its buffer, and then nothing is read
abbrev pub pipe_fill_reply : Scene → FilesAnswer Flow → Result (List PageView) Miss → Reply
pipe_fill_reply s o (Err miss) = refused_reply s BadAddress
pipe_fill_reply s o (Ok pages) = flow_reply (record s { space = pages }) o

-- a pipe is read, and with no room for bytes nothing is done
unfoldable pub pipe_read_reply : ℕ → List Range → Scene → Reply
pipe_read_reply fd ranges s =
    let most = total_len ranges in
    let p = s.caller.vpid in
    if most == 0 then value_reply s 0
    else pipe_fill_reply s (pipe_read_call p fd most (holding s)) (scattered_pages s.space ranges (bytes_read p fd most (holding s)))

-- a read by what the descriptor refers to
unfoldable pub read_reply_by_kind : ℕ → List Range → DescKind → ℕ → Scene → Reply
read_reply_by_kind fd ranges (File n) offset s = file_read_reply fd n offset ranges s
read_reply_by_kind fd ranges (Dir n) offset s = refused_reply s IsDir
read_reply_by_kind fd ranges (Device n) offset s = device_read_reply n ranges s
read_reply_by_kind fd ranges (PipeRead q) offset s = pipe_read_reply fd ranges s
read_reply_by_kind fd ranges (PipeWrite q) offset s = refused_reply s BadF
read_reply_by_kind fd ranges Input offset s = input_read_reply fd offset ranges s
read_reply_by_kind fd ranges (Stream stream) offset s = refused_reply s BadF

-- a read at the offset of a description that is open for reading
abbrev pub read_reply : ℕ → List Range → Desc → Scene → Reply
read_reply fd ranges desc s =
    if not (is_readable desc) then refused_reply s BadF else read_reply_by_kind fd ranges desc.kind (offset_of desc.spot) s

-- fills a buffer from where the description of a descriptor stands (read(2))
unfoldable pub read_row : List ℕ → Scene → Reply
read_row args s =
    let fd = low_word (argument args 0) in
    on_description s (description_of s fd)
    (λ desc. read_reply fd (one_range (argument args 1) (byte_count (argument args 2))) desc s)

-- readv(2): the list of ranges is looked at before the descriptor
unfoldable pub readv_row : List ℕ → Scene → Reply
readv_row args s =
    let fd = low_word (argument args 0) in
    on_ranges s (ranges_at s.space (argument args 1) (low_word (argument args 2)))
    (λ ranges. on_description s (description_of s fd) (λ desc. read_reply fd ranges desc s))

-- a read at an offset by what the descriptor refers to: a device looks at none; pipes, the input and the
-- streams have none
abbrev pub read_at_reply_by_kind : ℕ → List Range → DescKind → Scene → Reply
read_at_reply_by_kind offset ranges (File n) s = file_read_at_reply n offset ranges s
read_at_reply_by_kind offset ranges (Dir n) s = refused_reply s IsDir
read_at_reply_by_kind offset ranges (Device n) s = device_read_reply n ranges s
read_at_reply_by_kind offset ranges (PipeRead q) s = refused_reply s SPipe
read_at_reply_by_kind offset ranges (PipeWrite q) s = refused_reply s SPipe
read_at_reply_by_kind offset ranges Input s = refused_reply s SPipe
read_at_reply_by_kind offset ranges (Stream stream) s = refused_reply s SPipe

-- a read at an offset of a description that is open for reading
abbrev pub read_at_reply : ℕ → List Range → Desc → Scene → Reply
read_at_reply offset ranges desc s =
    if not (is_readable desc) then refused_reply s BadF else read_at_reply_by_kind offset ranges desc.kind s

-- pread64(2): EINVAL for a negative offset comes first
unfoldable pub pread64_row : List ℕ → Scene → Reply
pread64_row args s =
    if nat_le (2 ^ 63) (argument args 3) then refused_reply s Inval
    else on_description s (description_of s (low_word (argument args 0)))
    (λ desc. read_at_reply (argument args 3) (one_range (argument args 1) (byte_count (argument args 2))) desc s)
