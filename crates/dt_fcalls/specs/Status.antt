-- The calls that tell of a node or a path: getcwd(2), readlinkat(2), fstat(2), newfstatat(2).
use Rattle.std.specs.Prelude.{ℕ, Bool, true, false, not, ◌&&◌, List, [], ◌∷◌, ◌++◌, length, take, Option, None, Some, Result, Ok, Err, nat_lt, int_le, pos, if◌then◌else◌}
use Rattle.std.specs.Ordering.{int_eq}
use Rattle.dt_base.specs.Abi.{has_flag, low_word, signed_word}
use Rattle.dt_base.specs.declared.abi.TheConstants.{AT_FDCWD, AT_EMPTY_PATH, AT_SYMLINK_NOFOLLOW}
use Rattle.dt_base.specs.declared.errno.Errno.{Errno}
use Rattle.dt_base.specs.declared.errno.Errno.TheVariants.{NoEnt, Inval, Range}
use Rattle.dt_fds.specs.declared.desc.DescKind.{DescKind}
use Rattle.dt_fds.specs.declared.desc.DescKind.TheVariants.{File, Dir, Device, PipeRead, PipeWrite, Input, Stream}
use Rattle.dt_host.specs.World.{target_at, device_at}
use Rattle.dt_space.specs.Space.{PageView}
use Rattle.dt_tree.specs.Above.{path_of}
use Rattle.dt_tree.specs.declared.meta.Meta.{Meta}
use Rattle.dt_tree.specs.Meta.{meta_of}
use Rattle.dt_callbase.specs.declared.places.LastLink.{LastLink}
use Rattle.dt_callbase.specs.declared.places.LastLink.TheVariants.{Follow, KeepWithoutSlash}
use Rattle.dt_fcalls.specs.declared.stat.TheConstants.{STAT_FLAGS}
use Rattle.dt_callbase.specs.Arguments.{argument, has_only}
use Rattle.dt_space.specs.Argument.{text_argument}
use Rattle.dt_callbase.specs.Places.{on_path}
use Rattle.dt_callbase.specs.Scene.{Scene, Reply, refused_reply, description_of, on_description}
use Rattle.dt_fcalls.specs.Stat.{stat_of, stream_stat, pipe_stat}
use Rattle.dt_callbase.specs.Filling.{fill_reply, whole_fill_reply}

-- a text goes to a buffer, its NUL included: ERANGE where the buffer is too short
abbrev pub text_reply : Scene → ℕ → ℕ → List ℕ → Reply
text_reply s buffer size text = if nat_lt size (length text) then refused_reply s Range else whole_fill_reply s buffer text

-- the path of a directory is told, with a NUL behind it: ENOENT where the directory is removed
abbrev pub path_reply : Scene → ℕ → ℕ → Option (List ℕ) → Reply
path_reply s buffer size None = refused_reply s NoEnt
path_reply s buffer size (Some path) = text_reply s buffer size (path ++ (0 ∷ []))

-- puts the path of the working directory into a buffer (getcwd(2))
unfoldable pub getcwd_row : List ℕ → Scene → Reply
getcwd_row args s = path_reply s (argument args 0) (argument args 1) (path_of s.tree.shape s.caller.cwd)

-- the target of a link goes to a buffer, cut to its size and without a NUL: EINVAL where the node is no link
abbrev pub target_fill_reply : Scene → ℕ → ℕ → Option (List ℕ) → Reply
target_fill_reply s buffer size None = refused_reply s Inval
target_fill_reply s buffer size (Some target) = whole_fill_reply s buffer (take size target)

-- the target of a node is told
abbrev pub target_reply : ℕ → ℕ → ℕ → Scene → Reply
target_reply buffer size n s = target_fill_reply s buffer size (target_at s.tree.shape n)

-- puts the target of a link into a buffer; EINVAL for a buffer's size below 1 (readlinkat(2))
unfoldable pub readlinkat_row : List ℕ → Scene → Reply
readlinkat_row args s =
    if int_le (signed_word (argument args 3)) (pos 0) then refused_reply s Inval
    else on_path s (argument args 0) (argument args 1) KeepWithoutSlash
    (λ n. target_reply (argument args 2) (low_word (argument args 3)) n s)

-- the status of a node goes to a buffer: ENOENT where there is none
abbrev pub status_fill_reply : Scene → ℕ → ℕ → Option Meta → Reply
status_fill_reply s buffer n None = refused_reply s NoEnt
status_fill_reply s buffer n (Some meta) = fill_reply s buffer (stat_of n meta (device_at s.tree.shape n)) 0

-- the status of a node is told
abbrev pub status_reply : ℕ → ℕ → Scene → Reply
status_reply buffer n s = status_fill_reply s buffer n (meta_of s.tree n)

-- the status of what a description is of is told
abbrev pub status_reply_by_kind : ℕ → DescKind → Scene → Reply
status_reply_by_kind buffer (File n) s = status_reply buffer n s
status_reply_by_kind buffer (Dir n) s = status_reply buffer n s
status_reply_by_kind buffer (Device n) s = status_reply buffer n s
status_reply_by_kind buffer (PipeRead q) s = fill_reply s buffer (pipe_stat q) 0
status_reply_by_kind buffer (PipeWrite q) s = fill_reply s buffer (pipe_stat q) 0
status_reply_by_kind buffer Input s = fill_reply s buffer stream_stat 0
status_reply_by_kind buffer (Stream stream) s = fill_reply s buffer stream_stat 0

-- the status of what a descriptor refers to is told
unfoldable pub descriptor_status_reply : ℕ → ℕ → Scene → Reply
descriptor_status_reply fd buffer s = on_description s (description_of s fd) (λ desc. status_reply_by_kind buffer desc.kind s)

-- puts the status of what a descriptor refers to into a buffer (fstat(2))
unfoldable pub fstat_row : List ℕ → Scene → Reply
fstat_row args s = descriptor_status_reply (low_word (argument args 0)) (argument args 1) s

-- the status of what a dirfd stands for: the working directory, or what an open descriptor refers to
abbrev pub dirfd_status_reply : Scene → ℕ → ℕ → Reply
dirfd_status_reply s dirfd buffer =
    if int_eq (signed_word dirfd) AT_FDCWD then status_reply buffer s.caller.cwd s
    else descriptor_status_reply (low_word dirfd) buffer s

-- the text is there, and empty
abbrev pub is_empty_text : Result (List ℕ) Errno → Bool
is_empty_text (Err errno) = false
is_empty_text (Ok []) = true
is_empty_text (Ok (byte ∷ bytes)) = false

-- the path is empty, and the flags say that it then stands for the dirfd
abbrev pub is_of_dirfd : List PageView → ℕ → ℕ → Bool
is_of_dirfd pages address flags = has_flag flags AT_EMPTY_PATH && is_empty_text (text_argument pages address)

-- what becomes of a link that is the last name
abbrev pub status_rule : ℕ → LastLink
status_rule flags = if has_flag flags AT_SYMLINK_NOFOLLOW then KeepWithoutSlash else Follow

-- puts the status of what a path leads to, or of what its dirfd stands for, into a buffer (newfstatat(2))
unfoldable pub newfstatat_row : List ℕ → Scene → Reply
newfstatat_row args s =
    let flags = low_word (argument args 3) in
    if not (has_only flags STAT_FLAGS) then refused_reply s Inval
    else if is_of_dirfd s.space (argument args 1) flags then dirfd_status_reply s (argument args 0) (argument args 2)
    else on_path s (argument args 0) (argument args 1) (status_rule flags) (λ n. status_reply (argument args 2) n s)
