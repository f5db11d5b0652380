-- Each call on paths leaves the version that the file tree keeps, and the standard input.
use Rattle.std.proofs.Common.{◌≡◌, ℕ, List, [], refl, ◌∙◌}
use Rattle.std.specs.Prelude.{bit_and, Option, None, Some, Result, Ok, Err}
use Rattle.dt_base.specs.Abi.{low_word, has_flag}
use Rattle.dt_base.specs.declared.abi.TheConstants.{O_CLOEXEC, O_TRUNC}
use Rattle.dt_base.specs.declared.errno.Errno.{Errno}
use Rattle.dt_base.specs.declared.image.What.TheVariants as what
use Rattle.dt_base.specs.declared.limits.TheConstants.{MODE_LIMIT}
use Rattle.dt_fds.specs.declared.desc.Desc.{Desc}
use Rattle.dt_fds.specs.declared.desc.DescKind.{DescKind}
use Rattle.dt_fds.specs.declared.desc.DescKind.TheVariants.{File, Dir, Device, PipeRead, PipeWrite, Input, Stream}
use Rattle.dt_tree.specs.declared.meta.Meta.{Meta}
use Rattle.dt_tree.specs.Changes.{tree_after_hold}
use Rattle.dt_tree.specs.Meta.{meta_of}
use Rattle.dt_tree.specs.Shape.{is_dir, is_device}
use Rattle.dt_tree.specs.Calls.{TreeAnswer}
use Rattle.dt_walk.specs.declared.place.Place.{Place}
use Rattle.dt_callbase.specs.Arguments.{argument}
use Rattle.dt_callbase.specs.Modes.{masked_mode}
use Rattle.dt_callbase.specs.Scene.{Scene, Reply, holding, stamp, with_changed_tree}
use Rattle.dt_fcalls.specs.Calls.{file_row}
use Rattle.dt_fcalls.specs.Nodes as nodes
use Rattle.dt_fcalls.specs.Open as opens
use Rattle.dt_fcalls.specs.Status as status
use Rattle.dt_fcalls.specs.Stat.{stream_stat, pipe_stat}
use Rattle.dt_runlaws.proofs.VersionReplies.{kept_rows, Kept, either, refused-kept, fill-kept, files-kept}
use Rattle.dt_runlaws.proofs.VersionTrees.{mode-version, held-version, released-version, add-version, make-version, cut-version}

umask-kept : (args : List ℕ) (s : Scene) → Kept s (nodes.umask_row args s)
unfolding nodes.umask_row
umask-kept args s = record { version = refl; input = refl }

access-kept : (args : List ℕ) (s : Scene) → Kept s (nodes.faccessat_row args s)
unfolding nodes.faccessat_row
access-kept args s = search kept_rows

changed-kept : (mode n : ℕ) (s : Scene) → Kept s (nodes.chmod_reply mode n s)
changed-kept mode n s = record { version = mode-version s.tree n mode; input = refl }

mode-kept : (args : List ℕ) (s : Scene) → Kept s (nodes.fchmodat_row args s)
unfolding nodes.fchmodat_row
mode-kept args s = search (kept_rows, changed-kept)

cwd-kept : (n : ℕ) (s : Scene) → Kept s (nodes.cwd_reply n s)
cwd-kept n s = record { version = released-version (tree_after_hold s.tree n) s.caller.cwd ∙ held-version s.tree n; input = refl }

enter-kept : (n : ℕ) (s : Scene) → Kept s (nodes.enter_dir_reply n s)
enter-kept n s = search (kept_rows, cwd-kept)

chdir-kept : (args : List ℕ) (s : Scene) → Kept s (nodes.chdir_row args s)
unfolding nodes.chdir_row
chdir-kept args s = search (kept_rows, enter-kept)

add-kept : (flags : ℕ) (desc : Desc) (s : Scene) → Kept s (opens.open_reply flags desc s)
add-kept flags desc s =
    files-kept (λ fd. fd) s _ (add-version s.caller.vpid desc (has_flag flags O_CLOEXEC) (holding s))

done-kept : {A : Type 0} (s : Scene) (d : TreeAnswer A) (row : A → Scene → Reply) → d.tree.version ≡ s.tree.version → ((value : A) (next : Scene) → Kept next (row value next)) → Kept s (opens.on_done s d row)
done-kept {A} s d row same kept = by_answer d.answer
  where
    by_answer : (answer : Result A Errno) → Kept s (opens.reply_after_change s answer d.tree row)
    by_answer (Err errno) = refused-kept s errno
    by_answer (Ok value) = let k = kept value (with_changed_tree d.tree s) in record { version = k.version ∙ same; input = k.input }

create-kept : (flags mode : ℕ) (place : Place) (s : Scene) → Kept s (opens.create_reply flags mode place s)
create-kept flags mode place s =
    let masked = masked_mode (bit_and mode MODE_LIMIT) s.caller.umask in
    done-kept s (opens.file_creation masked place s) (λ n next. opens.open_reply flags (opens.file_desc flags n) next)
    (make-version s.tree place.parent place.name (what.File []) masked (stamp s)) (λ n next. add-kept flags (opens.file_desc flags n) next)

missing-kept : (flags mode : ℕ) (place : Place) (s : Scene) → Kept s (opens.open_missing_reply flags mode place s)
missing-kept flags mode place s = search (kept_rows, create-kept)

cut-kept : (flags n : ℕ) (s : Scene) → Kept s (opens.truncate_reply flags n s)
cut-kept flags n s = done-kept s (opens.file_truncation n s) (λ done next. opens.open_reply flags (opens.file_desc flags n) next) (cut-version s.tree n 0 (stamp s)) (λ done next. add-kept flags (opens.file_desc flags n) next)

opened-kept : (flags n : ℕ) (s : Scene) → Kept s (opens.open_node_reply flags n s)
opened-kept flags n s =
    either s (is_dir s.tree.shape n) _ _ (add-kept flags (opens.dir_desc flags n) s)
    (either s (is_device s.tree.shape n) _ _ (add-kept flags (opens.device_desc flags n) s)
    (either s (has_flag flags O_TRUNC) _ _ (cut-kept flags n s) (add-kept flags (opens.file_desc flags n) s)))

open_at-kept : (flags mode : ℕ) (place : Place) (found : Option ℕ) (s : Scene) → Kept s (opens.open_at_reply flags mode place found s)
open_at-kept flags mode place None s = missing-kept flags mode place s
open_at-kept flags mode place (Some n) s = search (kept_rows, opened-kept)

open_path-kept : (dirfd flags mode : ℕ) (path : List ℕ) (s : Scene) → Kept s (opens.open_path_reply dirfd flags mode path s)
unfolding opens.open_path_reply
open_path-kept dirfd flags mode path s = search (kept_rows, open_at-kept)

openat-kept : (args : List ℕ) (s : Scene) → Kept s (opens.openat_row args s)
unfolding opens.openat_row
openat-kept args s = search (kept_rows, open_path-kept)

path_told-kept : (s : Scene) (buffer size : ℕ) (path : Option (List ℕ)) → Kept s (status.path_reply s buffer size path)
path_told-kept s buffer size None = search kept_rows
path_told-kept s buffer size (Some path) = search kept_rows

getcwd-kept : (args : List ℕ) (s : Scene) → Kept s (status.getcwd_row args s)
unfolding status.getcwd_row
getcwd-kept args s = search (kept_rows, path_told-kept)

target-kept : (s : Scene) (buffer size : ℕ) (target : Option (List ℕ)) → Kept s (status.target_fill_reply s buffer size target)
target-kept s buffer size None = search kept_rows
target-kept s buffer size (Some target) = search kept_rows

readlink-kept : (args : List ℕ) (s : Scene) → Kept s (status.readlinkat_row args s)
unfolding status.readlinkat_row
readlink-kept args s = search (kept_rows, target-kept)

status_fill-kept : (s : Scene) (buffer n : ℕ) (meta : Option Meta) → Kept s (status.status_fill_reply s buffer n meta)
status_fill-kept s buffer n None = search kept_rows
status_fill-kept s buffer n (Some meta) = fill-kept s buffer _ 0

status-kept : (buffer n : ℕ) (s : Scene) → Kept s (status.status_reply buffer n s)
status-kept buffer n s = status_fill-kept s buffer n (meta_of s.tree n)

kind-kept : (buffer : ℕ) (kind : DescKind) (s : Scene) → Kept s (status.status_reply_by_kind buffer kind s)
kind-kept buffer (File n) s = status-kept buffer n s
kind-kept buffer (Dir n) s = status-kept buffer n s
kind-kept buffer (Device n) s = status-kept buffer n s
kind-kept buffer (PipeRead q) s = fill-kept s buffer (pipe_stat q) 0
kind-kept buffer (PipeWrite q) s = fill-kept s buffer (pipe_stat q) 0
kind-kept buffer Input s = fill-kept s buffer stream_stat 0
kind-kept buffer (Stream stream) s = fill-kept s buffer stream_stat 0

descriptor-kept : (fd buffer : ℕ) (s : Scene) → Kept s (status.descriptor_status_reply fd buffer s)
unfolding status.descriptor_status_reply
descriptor-kept fd buffer s = search (kept_rows, kind-kept)

fstat-kept : (args : List ℕ) (s : Scene) → Kept s (status.fstat_row args s)
unfolding status.fstat_row
fstat-kept args s = descriptor-kept (low_word (argument args 0)) (argument args 1) s

newfstatat-kept : (args : List ℕ) (s : Scene) → Kept s (status.newfstatat_row args s)
unfolding status.newfstatat_row
newfstatat-kept args s = search (kept_rows, status-kept, descriptor-kept)

-- a call on paths
pub file-kept : (number : ℕ) (args : List ℕ) (s : Scene) → Kept s (file_row number args s)
unfolding file_row
file-kept number args s = search (kept_rows, getcwd-kept, access-kept, chdir-kept, mode-kept, openat-kept, readlink-kept, newfstatat-kept, fstat-kept, umask-kept) depth 12
