-- No call on paths answers bytes that go out.
use Rattle.std.proofs.Common.{ℕ, List}
use Rattle.std.specs.Prelude.{Option, None, Some, Result, Ok, Err}
use Rattle.dt_base.specs.Abi.{low_word, has_flag}
use Rattle.dt_base.specs.declared.abi.TheConstants.{O_TRUNC}
use Rattle.dt_base.specs.declared.errno.Errno.{Errno}
use Rattle.dt_fds.specs.declared.desc.DescKind.{DescKind}
use Rattle.dt_fds.specs.declared.desc.DescKind.TheVariants.{File, Dir, Device, PipeRead, PipeWrite, Input, Stream}
use Rattle.dt_host.specs.World.{device_at}
use Rattle.dt_tree.specs.Shape.{is_dir, is_device}
use Rattle.dt_tree.specs.declared.meta.Meta.{Meta}
use Rattle.dt_tree.specs.Meta.{meta_of}
use Rattle.dt_tree.specs.FileTree.{FileTree}
use Rattle.dt_walk.specs.declared.place.Place.{Place}
use Rattle.dt_callbase.specs.Arguments.{argument}
use Rattle.dt_callbase.specs.Scene.{Scene, Reply, with_changed_tree}
use Rattle.dt_fcalls.specs.Calls.{file_row}
use Rattle.dt_fcalls.specs.Nodes as nodes
use Rattle.dt_fcalls.specs.Open as opens
use Rattle.dt_fcalls.specs.Status as status
use Rattle.dt_fcalls.specs.Stat.{stat_of, stream_stat, pipe_stat}
use Rattle.dt_runlaws.proofs.FewReplies.{short_rows, Short, either, refused-short, fill-short}

umask-short : (args : List ℕ) (s : Scene) → Short (nodes.umask_row args s)
unfolding nodes.umask_row
umask-short args s = record { short = tt }

access-short : (args : List ℕ) (s : Scene) → Short (nodes.faccessat_row args s)
unfolding nodes.faccessat_row
access-short args s = search short_rows

mode-short : (args : List ℕ) (s : Scene) → Short (nodes.fchmodat_row args s)
unfolding nodes.fchmodat_row
mode-short args s = search short_rows

enter-short : (n : ℕ) (s : Scene) → Short (nodes.enter_dir_reply n s)
enter-short n s = search short_rows

chdir-short : (args : List ℕ) (s : Scene) → Short (nodes.chdir_row args s)
unfolding nodes.chdir_row
chdir-short args s = search (short_rows, enter-short)

done-short : {A : Type 0} (s : Scene) (answer : Result A Errno) (t : FileTree) (row : A → Scene → Reply) → ((value : A) (next : Scene) → Short (row value next)) → Short (opens.reply_after_change s answer t row)
done-short s (Err errno) t row short = refused-short s errno
done-short s (Ok value) t row short = short value (with_changed_tree t s)

create-short : (flags mode : ℕ) (place : Place) (s : Scene) → Short (opens.create_reply flags mode place s)
create-short flags mode place s = search (short_rows, done-short)

missing-short : (flags mode : ℕ) (place : Place) (s : Scene) → Short (opens.open_missing_reply flags mode place s)
missing-short flags mode place s = search (short_rows, create-short)

truncated-short : (flags n : ℕ) (s : Scene) → Short (opens.truncate_reply flags n s)
truncated-short flags n s = search (short_rows, done-short)

opened-short : (flags n : ℕ) (s : Scene) → Short (opens.open_node_reply flags n s)
opened-short flags n s =
    either (is_dir s.tree.shape n) _ _ (search short_rows)
    (either (is_device s.tree.shape n) _ _ (search short_rows)
    (either (has_flag flags O_TRUNC) _ _ (truncated-short flags n s) (search short_rows)))

open_at-short : (flags mode : ℕ) (place : Place) (found : Option ℕ) (s : Scene) → Short (opens.open_at_reply flags mode place found s)
open_at-short flags mode place None s = missing-short flags mode place s
open_at-short flags mode place (Some n) s = search (short_rows, opened-short)

open_path-short : (dirfd flags mode : ℕ) (path : List ℕ) (s : Scene) → Short (opens.open_path_reply dirfd flags mode path s)
unfolding opens.open_path_reply
open_path-short dirfd flags mode path s = search (short_rows, open_at-short)

openat-short : (args : List ℕ) (s : Scene) → Short (opens.openat_row args s)
unfolding opens.openat_row
openat-short args s = search (short_rows, open_path-short)

path_told-short : (s : Scene) (buffer size : ℕ) (path : Option (List ℕ)) → Short (status.path_reply s buffer size path)
path_told-short s buffer size None = search short_rows
path_told-short s buffer size (Some path) = search short_rows

getcwd-short : (args : List ℕ) (s : Scene) → Short (status.getcwd_row args s)
unfolding status.getcwd_row
getcwd-short args s = search (short_rows, path_told-short)

target-short : (s : Scene) (buffer size : ℕ) (target : Option (List ℕ)) → Short (status.target_fill_reply s buffer size target)
target-short s buffer size None = search short_rows
target-short s buffer size (Some target) = search short_rows

readlink-short : (args : List ℕ) (s : Scene) → Short (status.readlinkat_row args s)
unfolding status.readlinkat_row
readlink-short args s = search (short_rows, target-short)

status_fill-short : (s : Scene) (buffer n : ℕ) (meta : Option Meta) → Short (status.status_fill_reply s buffer n meta)
status_fill-short s buffer n None = search short_rows
status_fill-short s buffer n (Some meta) = fill-short s buffer (stat_of n meta (device_at s.tree.shape n)) 0

status-short : (buffer n : ℕ) (s : Scene) → Short (status.status_reply buffer n s)
status-short buffer n s = status_fill-short s buffer n (meta_of s.tree n)

kind-short : (buffer : ℕ) (kind : DescKind) (s : Scene) → Short (status.status_reply_by_kind buffer kind s)
kind-short buffer (File n) s = status-short buffer n s
kind-short buffer (Dir n) s = status-short buffer n s
kind-short buffer (Device n) s = status-short buffer n s
kind-short buffer (PipeRead q) s = fill-short s buffer (pipe_stat q) 0
kind-short buffer (PipeWrite q) s = fill-short s buffer (pipe_stat q) 0
kind-short buffer Input s = fill-short s buffer stream_stat 0
kind-short buffer (Stream stream) s = fill-short s buffer stream_stat 0

descriptor-short : (fd buffer : ℕ) (s : Scene) → Short (status.descriptor_status_reply fd buffer s)
unfolding status.descriptor_status_reply
descriptor-short fd buffer s = search (short_rows, kind-short)

fstat-short : (args : List ℕ) (s : Scene) → Short (status.fstat_row args s)
unfolding status.fstat_row
fstat-short args s = descriptor-short (low_word (argument args 0)) (argument args 1) s

newfstatat-short : (args : List ℕ) (s : Scene) → Short (status.newfstatat_row args s)
unfolding status.newfstatat_row
newfstatat-short args s = search (short_rows, status-short, descriptor-short)

-- a call on paths
pub file-short : (number : ℕ) (args : List ℕ) (s : Scene) → Short (file_row number args s)
unfolding file_row
file-short number args s = search (short_rows, getcwd-short, access-short, chdir-short, mode-short, openat-short, readlink-short, newfstatat-short, fstat-short, umask-short) depth 12
