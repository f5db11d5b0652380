-- The calls on paths, by their numbers (syscall(2), riscv64).
use Rattle.std.specs.Prelude.{ℕ, ◌==◌, List, if◌then◌else◌}
use Rattle.dt_base.specs.declared.abi.TheConstants.{GETCWD, FACCESSAT, CHDIR, FCHMODAT, READLINKAT, NEWFSTATAT, UMASK, OPENAT, FSTAT}
use Rattle.dt_fcalls.specs.Nodes.{umask_row, faccessat_row, fchmodat_row, chdir_row}
use Rattle.dt_fcalls.specs.Open.{openat_row}
use Rattle.dt_callbase.specs.Scene.{Scene, Reply, unsupported_reply}
use Rattle.dt_fcalls.specs.Status.{getcwd_row, readlinkat_row, newfstatat_row, fstat_row}

-- the row of the call of a number; any other number is not supported
unfoldable pub file_row : ℕ → List ℕ → Scene → Reply
file_row number args s =
    if number == GETCWD then getcwd_row args s
    else if number == FACCESSAT then faccessat_row args s
    else if number == CHDIR then chdir_row args s
    else if number == FCHMODAT then fchmodat_row args s
    else if number == OPENAT then openat_row args s
    else if number == READLINKAT then readlinkat_row args s
    else if number == NEWFSTATAT then newfstatat_row args s
    else if number == FSTAT then fstat_row args s
    else if number == UMASK then umask_row args s
    else unsupported_reply s
