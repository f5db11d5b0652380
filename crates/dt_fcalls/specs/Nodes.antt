-- The calls that look at a node, or change what is kept of one: chdir(2), umask(2), faccessat(2), fchmodat(2).
use Rattle.std.specs.Prelude.{ℕ, List, nat_lt, bit_and, if◌then◌else◌}
use Rattle.dt_base.specs.Abi.{low_word}
use Rattle.dt_base.specs.declared.abi.TheConstants.{ACCESS_ALL, CWD_DIRFD}
use Rattle.dt_base.specs.declared.answer.Answer.TheVariants.{Value}
use Rattle.dt_base.specs.declared.errno.Errno.TheVariants.{NotDir, Inval}
use Rattle.dt_base.specs.declared.limits.TheConstants.{MODE_LIMIT}
use Rattle.dt_tree.specs.Changes.{tree_after_chmod, tree_after_hold, tree_after_release}
use Rattle.dt_tree.specs.Shape.{is_dir}
use Rattle.dt_fcalls.specs.declared.modes.TheConstants.{PERMISSIONS}
use Rattle.dt_callbase.specs.declared.places.LastLink.TheVariants.{Follow}
use Rattle.dt_callbase.specs.Arguments.{argument}
use Rattle.dt_callbase.specs.Places.{on_path}
use Rattle.dt_callbase.specs.Scene.{Scene, Reply, refused_reply, value_reply}

-- umask(2): the old mask is the answer
unfoldable pub umask_row : List ℕ → Scene → Reply
umask_row args s = record {
  next = record s { caller = record s.caller { umask = bit_and (low_word (argument args 0)) PERMISSIONS } };
  answer = Value s.caller.umask;
}

-- faccessat(2): what is there may be accessed in every way
unfoldable pub faccessat_row : List ℕ → Scene → Reply
faccessat_row args s =
    if nat_lt ACCESS_ALL (low_word (argument args 2)) then refused_reply s Inval
    else on_path s (argument args 0) (argument args 1) Follow (λ n. value_reply s 0)

-- a node gets another mode, which takes no time
abbrev pub chmod_reply : ℕ → ℕ → Scene → Reply
chmod_reply mode n s = value_reply (record s { tree = tree_after_chmod s.tree n mode }) 0

-- gives what a path leads to another mode (fchmodat(2))
unfoldable pub fchmodat_row : List ℕ → Scene → Reply
fchmodat_row args s = on_path s (argument args 0) (argument args 1) Follow
    (λ n. chmod_reply (bit_and (low_word (argument args 2)) MODE_LIMIT) n s)

-- the working directory is that one, which is held, and then the old one is let go
abbrev pub cwd_reply : ℕ → Scene → Reply
cwd_reply n s = value_reply
    (record s { tree = tree_after_release (tree_after_hold s.tree n) s.caller.cwd; caller = record s.caller { cwd = n } }) 0

-- a node becomes the working directory: ENOTDIR where it is no directory
abbrev pub enter_dir_reply : ℕ → Scene → Reply
enter_dir_reply n s = if is_dir s.tree.shape n then cwd_reply n s else refused_reply s NotDir

-- chdir(2), by a path from the working directory
unfoldable pub chdir_row : List ℕ → Scene → Reply
chdir_row args s = on_path s CWD_DIRFD (argument args 0) Follow (λ n. enter_dir_reply n s)
