-- The bytes of a status: `struct stat` of 64-bit RISC-V (asm-generic/stat.h, stat(2), inode(7)).
use Rattle.std.specs.Prelude.{ℕ, ◌+◌, ◌-◌, ◌/◌, ◌%◌, ◌==◌, Option, None, Some, List, replicate, bit_or, if◌then◌else◌}
use Rattle.dt_base.specs.Fields.{with_field}
use Rattle.dt_base.specs.declared.abi.TheConstants.{DT_DIR, DT_REG, DT_LNK, DT_CHR, S_IFDIR, S_IFREG, S_IFLNK, S_IFCHR}
use Rattle.dt_base.specs.declared.image.Device.{Device}
use Rattle.dt_base.specs.declared.image.Device.TheVariants.{Null, Zero, Random}
use Rattle.dt_tree.specs.declared.meta.Meta.{Meta}
use Rattle.dt_fcalls.specs.declared.stat.TheConstants.{STAT_LEN, ST_DEV, ST_INO, ST_MODE, ST_NLINK, ST_RDEV, ST_SIZE, ST_BLKSIZE, ST_BLOCKS, ST_ATIME, ST_MTIME, ST_CTIME, DEVICE, NULL_DEVICE, ZERO_DEVICE, RANDOM_DEVICE, BLOCK_SIZE, SECTOR_SIZE, STREAM_INODE, STREAM_MODE, PIPE_MODE}
use Rattle.dt_fcalls.specs.declared.stat.Status.{Status}
use Rattle.dt_callbase.specs.declared.wall_time.TheConstants.{FIRST_SECOND, SECOND_TICKS, NANOSECONDS}

-- the bits of a mode that tell the type of a node
abbrev pub type_bits : ℕ → ℕ
type_bits kind = if kind == DT_DIR then S_IFDIR else if kind == DT_LNK then S_IFLNK else if kind == DT_CHR then S_IFCHR else S_IFREG

-- the number of a device; 0 of what is none
abbrev pub device_number : Option Device → ℕ
device_number None = 0
device_number (Some Null) = NULL_DEVICE
device_number (Some Zero) = ZERO_DEVICE
device_number (Some Random) = RANDOM_DEVICE

-- st_blocks: the sectors of a file's bytes, the last one counted whole; no other node has any
abbrev pub st_blocks : Meta → ℕ
st_blocks meta = if meta.kind == DT_REG then (meta.size + (SECTOR_SIZE - 1)) / SECTOR_SIZE else 0

-- the status of what is in the tree, by its inode, what is told of it, and which device it is, if it is one
abbrev pub node_status : ℕ → Meta → Option Device → Status
node_status n meta device = record {
  inode = n;
  mode = bit_or (type_bits meta.kind) meta.mode;
  nlink = meta.nlink;
  device = device_number device;
  size = meta.size;
  blocks = st_blocks meta;
  stamp = meta.stamp;
}

-- the status of what is outside the tree, which nothing changes
abbrev pub outer_status : ℕ → ℕ → Status
outer_status inode mode = record { inode = inode; mode = mode; nlink = 1; device = 0; size = 0; blocks = 0; stamp = 0 }

-- the status of the input and of the output streams: a character device
abbrev pub stream_status : Status
stream_status = outer_status STREAM_INODE STREAM_MODE

-- the status of either end of the pipe of this number
abbrev pub pipe_status : ℕ → Status
pipe_status q = outer_status (STREAM_INODE + q) PIPE_MODE

-- what tells which node it is
abbrev pub with_identity : Status → List ℕ → List ℕ
with_identity status bytes =
    with_field 8 (with_field 4 (with_field 4 (with_field 8 (with_field 8 bytes ST_DEV DEVICE) ST_INO status.inode)
    ST_MODE status.mode) ST_NLINK status.nlink) ST_RDEV status.device

-- what tells its size
abbrev pub with_size_fields : Status → List ℕ → List ℕ
with_size_fields status bytes =
    with_field 8 (with_field 4 (with_field 8 bytes ST_SIZE status.size) ST_BLKSIZE BLOCK_SIZE) ST_BLOCKS status.blocks

-- a time: the second, and the nanosecond in it
abbrev pub with_time : ℕ → ℕ → List ℕ → List ℕ
with_time at stamp bytes =
    with_field 8 (with_field 8 bytes at (FIRST_SECOND + stamp / SECOND_TICKS))
    (at + NANOSECONDS) (stamp % SECOND_TICKS)

-- the times of access, modification and change, which are one
abbrev pub with_times : ℕ → List ℕ → List ℕ
with_times stamp bytes = with_time ST_CTIME stamp (with_time ST_MTIME stamp (with_time ST_ATIME stamp bytes))

-- the bytes of a status; what no field covers is 0
unfoldable pub stat_bytes : Status → List ℕ
stat_bytes status =
    with_times status.stamp (with_size_fields status (with_identity status (replicate STAT_LEN 0)))

-- the bytes of a node's status
abbrev pub stat_of : ℕ → Meta → Option Device → List ℕ
stat_of n meta device = stat_bytes (node_status n meta device)

-- the bytes of the status of the input and of the output streams
abbrev pub stream_stat : List ℕ
stream_stat = stat_bytes stream_status

-- the bytes of the status of either end of a pipe
abbrev pub pipe_stat : ℕ → List ℕ
pipe_stat q = stat_bytes (pipe_status q)
