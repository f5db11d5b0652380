-- The call that moves the offset of a description: lseek(2).
use Rattle.std.specs.Prelude.{ℕ, ◌+◌, ◌-◌, ◌^◌, ◌==◌, ◌&&◌, ◌||◌, List, length, Option, None, Some, nat_le, nat_lt, if◌then◌else◌}
use Rattle.dt_base.specs.Abi.{low_word}
use Rattle.dt_base.specs.declared.abi.TheConstants.{SEEK_SET, SEEK_CUR, SEEK_END}
use Rattle.dt_base.specs.declared.errno.Errno.TheVariants.{Inval, SPipe}
use Rattle.dt_base.specs.declared.limits.TheConstants.{OFFSET_LIMIT}
use Rattle.dt_fds.specs.declared.desc.DescKind.{DescKind}
use Rattle.dt_fds.specs.declared.desc.DescKind.TheVariants.{File, Dir, Device, PipeRead, PipeWrite, Input, Stream}
use Rattle.dt_fds.specs.declared.desc.Spot.{Spot}
use Rattle.dt_fds.specs.declared.desc.Spot.TheVariants.{At, After}
use Rattle.dt_host.specs.World.{content}
use Rattle.dt_iocalls.specs.Offsets.{offset_of, with_spot}
use Rattle.dt_callbase.specs.Arguments.{argument}
use Rattle.dt_callbase.specs.Scene.{Scene, Reply, value_reply, refused_reply, description_of, on_description}
use Rattle.dt_tree.specs.FileTree.{FileTree}

-- an offset within its limit
abbrev pub offset_in_limit : ℕ → Option ℕ
offset_in_limit offset = if nat_le offset OFFSET_LIMIT then Some offset else None

-- an offset moved by a number that is read as a signed one of 64 bits: none below 0 or past the limit
unfoldable pub shifted_offset : ℕ → ℕ → Option ℕ
shifted_offset base by =
    if nat_lt by (2 ^ 63) then offset_in_limit (base + by)
    else if nat_le (2 ^ 64) (base + by) then offset_in_limit (base + by - 2 ^ 64)
    else None

-- the offset of a file that a seek leads to: from its start, from where its description stands, or from its end
unfoldable pub seek_offset : FileTree → ℕ → ℕ → ℕ → ℕ → Option ℕ
seek_offset t n offset by whence =
    if whence == SEEK_SET then shifted_offset 0 by
    else if whence == SEEK_CUR then shifted_offset offset by
    else if whence == SEEK_END then shifted_offset (length (content t.shape n)) by
    else None

-- the description goes on at that offset, which is the answer
abbrev pub seek_to_reply : ℕ → Scene → Option ℕ → Reply
seek_to_reply fd s None = refused_reply s Inval
seek_to_reply fd s (Some offset) = value_reply (with_spot s fd (At offset)) offset

-- a listing can only start again
abbrev pub rewind_reply : ℕ → ℕ → ℕ → Scene → Reply
rewind_reply fd by whence s =
    if (by == 0) && (whence == SEEK_SET) then value_reply (with_spot s fd (After None)) 0 else refused_reply s Inval

-- a device has no offset to move
abbrev pub device_seek_reply : ℕ → Scene → Reply
device_seek_reply whence s =
    if (whence == SEEK_SET) || (whence == SEEK_CUR) || (whence == SEEK_END) then value_reply s 0 else refused_reply s Inval

-- a seek by what the descriptor refers to
abbrev pub seek_reply : ℕ → ℕ → ℕ → DescKind → Spot → Scene → Reply
seek_reply fd by whence (File n) spot s = seek_to_reply fd s (seek_offset s.tree n (offset_of spot) by whence)
seek_reply fd by whence (Dir n) spot s = rewind_reply fd by whence s
seek_reply fd by whence (Device n) spot s = device_seek_reply whence s
seek_reply fd by whence (PipeRead q) spot s = refused_reply s SPipe
seek_reply fd by whence (PipeWrite q) spot s = refused_reply s SPipe
seek_reply fd by whence Input spot s = refused_reply s SPipe
seek_reply fd by whence (Stream stream) spot s = refused_reply s SPipe

-- moves the offset at which a description goes on, and answers it (lseek(2))
unfoldable pub lseek_row : List ℕ → Scene → Reply
lseek_row args s =
    let fd = low_word (argument args 0) in
    on_description s (description_of s fd)
    (λ desc. seek_reply fd (argument args 1) (low_word (argument args 2)) desc.kind desc.spot s)
