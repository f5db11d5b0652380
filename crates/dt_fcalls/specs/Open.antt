-- The call that opens files and directories: openat(2).
use Rattle.std.specs.Prelude.{ℕ, ◌==◌, ◌&&◌, ◌||◌, Bool, not, List, [], Option, None, Some, Result, Ok, Err, bit_and, if◌then◌else◌}
use Rattle.std.specs.Option.{is_none}
use Rattle.dt_base.specs.Abi.{has_flag, low_word}
use Rattle.dt_base.specs.declared.abi.TheConstants.{O_RDONLY, O_ACCMODE, O_CREAT, O_EXCL, O_TRUNC, O_APPEND, O_NONBLOCK, O_DIRECTORY, O_NOFOLLOW, O_CLOEXEC}
use Rattle.dt_base.specs.declared.errno.Errno.{Errno}
use Rattle.dt_base.specs.declared.errno.Errno.TheVariants.{NoEnt, Exist, NotDir, IsDir, Inval, MFile, Loop}
use Rattle.dt_base.specs.declared.image.What.TheVariants as what
use Rattle.dt_base.specs.declared.limits.TheConstants.{MODE_LIMIT}
use Rattle.dt_fds.specs.declared.desc.Desc.{Desc}
use Rattle.dt_fds.specs.declared.desc.DescKind.{DescKind}
use Rattle.dt_fds.specs.declared.desc.DescKind.TheVariants.{File, Dir, Device}
use Rattle.dt_fds.specs.declared.desc.Spot.{Spot}
use Rattle.dt_fds.specs.declared.desc.Spot.TheVariants.{At, After}
use Rattle.dt_fds.specs.Descriptions.{table_at, lowest_free}
use Rattle.dt_fds.specs.Holding.{add_call}
use Rattle.dt_host.specs.World.{Forest}
use Rattle.dt_tree.specs.Calls.{TreeAnswer, make_node_of, cut_of}
use Rattle.dt_tree.specs.FileTree.{FileTree}
use Rattle.dt_tree.specs.Shape.{is_dir, is_link, is_device}
use Rattle.dt_walk.specs.declared.place.Place.{Place}
use Rattle.dt_fcalls.specs.declared.open.TheConstants.{OPEN_FLAGS}
use Rattle.dt_callbase.specs.declared.places.LastLink.{LastLink}
use Rattle.dt_callbase.specs.declared.places.LastLink.TheVariants.{Follow, Keep, KeepWithoutSlash}
use Rattle.dt_space.specs.Argument.{path_argument}
use Rattle.dt_callbase.specs.Arguments.{argument, has_only}
use Rattle.dt_callbase.specs.Modes.{masked_mode}
use Rattle.dt_callbase.specs.Places.{place_from, on_place}
use Rattle.dt_callbase.specs.Start.{start_of}
use Rattle.dt_callbase.specs.Scene.{Scene, Reply, refused_reply, unless_refused, on_text, unsupported_reply, stamp, with_changed_tree, holding, files_call_reply}

-- the access mode: to read (O_RDONLY), to write (O_WRONLY) or both (O_RDWR)
abbrev pub access_of : ℕ → ℕ
access_of flags = bit_and flags O_ACCMODE

-- only a new file is opened
abbrev pub is_exclusive : ℕ → Bool
is_exclusive flags = has_flag flags O_CREAT && has_flag flags O_EXCL

-- whether a link that is the last name is followed
abbrev pub open_rule : ℕ → LastLink
open_rule flags = if is_exclusive flags then Keep else if has_flag flags O_NOFOLLOW then KeepWithoutSlash else Follow

-- a description as these flags ask for it
abbrev pub desc_of : DescKind → Spot → ℕ → Desc
desc_of kind spot flags = record {
  kind = kind;
  spot = spot;
  access = access_of flags;
  append = has_flag flags O_APPEND;
  nonblock = has_flag flags O_NONBLOCK;
}

-- a file is opened at its start
abbrev pub file_desc : ℕ → ℕ → Desc
file_desc flags n = desc_of (File n) (At 0) flags

-- a directory is opened at the start of its listing
abbrev pub dir_desc : ℕ → ℕ → Desc
dir_desc flags n = desc_of (Dir n) (After None) flags

-- a device is opened, at an offset that nothing asks for
abbrev pub device_desc : ℕ → ℕ → Desc
device_desc flags n = desc_of (Device n) (At 0) flags

-- a description is opened under the lowest free descriptor, which is the answer
abbrev pub open_reply : ℕ → Desc → Scene → Reply
open_reply flags desc s = files_call_reply (λ fd. fd) s (add_call s.caller.vpid desc (has_flag flags O_CLOEXEC) (holding s))

-- what follows on a call of the tree that is done, once its time has passed
abbrev pub reply_after_change : {A : Type 0} → Scene → Result A Errno → FileTree → (A → Scene → Reply) → Reply
reply_after_change s (Err errno) t row = refused_reply s errno
reply_after_change s (Ok value) t row = row value (with_changed_tree t s)

-- the same, of what that call answers and leaves
abbrev pub on_done : {A : Type 0} → Scene → TreeAnswer A → (A → Scene → Reply) → Reply
on_done s d row = reply_after_change s d.answer d.tree row

-- a file is made at a place, with this mode
abbrev pub file_creation : ℕ → Place → Scene → TreeAnswer ℕ
file_creation mode place s = make_node_of s.tree place.parent place.name (what.File []) mode (stamp s)

-- a file is made at a place, and opened
abbrev pub create_reply : ℕ → ℕ → Place → Scene → Reply
create_reply flags mode place s =
    on_done s (file_creation (masked_mode (bit_and mode MODE_LIMIT) s.caller.umask) place s)
    (λ n next. open_reply flags (file_desc flags n) next)

-- nothing is there: ENOENT without O_CREAT, EISDIR where the path ends in a slash, or that of a link at its end does
abbrev pub open_missing_reply : ℕ → ℕ → Place → Scene → Reply
open_missing_reply flags mode place s =
    if not (has_flag flags O_CREAT) then refused_reply s NoEnt
    else if place.slash then refused_reply s IsDir
    else create_reply flags mode place s

-- why a node is not opened, if so: EEXIST where only a new file is; ELOOP for a link; EISDIR for a directory that is to be
-- written, made or cut; ENOTDIR for a file or a device where only a directory is
abbrev pub open_refusal : Forest → ℕ → ℕ → Option Errno
open_refusal v flags n =
    if is_exclusive flags then Some Exist
    else if is_link v n then Some Loop
    else if is_dir v n && (not (access_of flags == O_RDONLY) || has_flag flags O_CREAT || has_flag flags O_TRUNC) then Some IsDir
    else if not (is_dir v n) && has_flag flags O_DIRECTORY then Some NotDir
    else None

-- a file is cut to no bytes
abbrev pub file_truncation : ℕ → Scene → TreeAnswer (Unit {0})
file_truncation n s = cut_of s.tree n 0 (stamp s)

-- a file is cut to no bytes, and opened
abbrev pub truncate_reply : ℕ → ℕ → Scene → Reply
truncate_reply flags n s = on_done s (file_truncation n s) (λ done next. open_reply flags (file_desc flags n) next)

-- a node that may be opened is: O_TRUNC has no effect on a device
abbrev pub open_node_reply : ℕ → ℕ → Scene → Reply
open_node_reply flags n s =
    if is_dir s.tree.shape n then open_reply flags (dir_desc flags n) s
    else if is_device s.tree.shape n then open_reply flags (device_desc flags n) s
    else if has_flag flags O_TRUNC then truncate_reply flags n s
    else open_reply flags (file_desc flags n) s

-- a node is opened, unless there is a reason not to
abbrev pub open_found_reply : ℕ → ℕ → Scene → Reply
open_found_reply flags n s = unless_refused s (open_refusal s.tree.shape flags n) (open_node_reply flags n s)

-- what stands at a place is opened, or made
abbrev pub open_at_reply : ℕ → ℕ → Place → Option ℕ → Scene → Reply
open_at_reply flags mode place None s = open_missing_reply flags mode place s
open_at_reply flags mode place (Some n) s = open_found_reply flags n s

-- no descriptor is free
abbrev pub is_full : Scene → Bool
is_full s = is_none (lowest_free (table_at s.files s.caller.vpid) 0)

-- the place of a path that is to be opened
unfoldable pub place_of_path : Scene → ℕ → ℕ → List ℕ → Result Place Errno
place_of_path s dirfd flags path = place_from s (open_rule flags) path (start_of s dirfd path)

-- a path that was read is opened: EMFILE before anything is looked up
unfoldable pub open_path_reply : ℕ → ℕ → ℕ → List ℕ → Scene → Reply
open_path_reply dirfd flags mode path s =
    if is_full s then refused_reply s MFile
    else on_place s (place_of_path s dirfd flags path) (λ place. open_at_reply flags mode place place.node s)

-- openat(2): flags that are not known, and an access mode of 3, are not supported
unfoldable pub openat_row : List ℕ → Scene → Reply
openat_row args s =
    let flags = low_word (argument args 2) in
    if not (has_only flags OPEN_FLAGS) || (access_of flags == O_ACCMODE) then unsupported_reply s
    else if has_flag flags O_CREAT && has_flag flags O_DIRECTORY then refused_reply s Inval
    else on_text s (path_argument s.space (argument args 1))
    (λ path. open_path_reply (argument args 0) flags (low_word (argument args 3)) path s)
