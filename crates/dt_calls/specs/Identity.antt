-- The system calls that tell a process who and where it is, and those that do nothing: getpid(2) and its kin, uname(2),
-- sched_yield(2), set_tid_address(2), set_robust_list(2).
use Rattle.std.specs.Prelude.{ℕ, ◌-◌, ◌==◌, List, ◌++◌, length, replicate, codes, Result, Ok, Err, unwrap_or, if◌then◌else◌}
use Rattle.dt_base.specs.declared.abi.TheConstants.{A0, A1, ROBUST_LIST_SIZE}
use Rattle.dt_base.specs.declared.errno.Errno.TheVariants.{Inval, Fault as BadAddress}
use Rattle.dt_rv64.specs.declared.machine.Machine.{Machine}
use Rattle.dt_rv64.specs.Effects.{register}
use Rattle.dt_space.specs.declared.access.Miss.{Miss}
use Rattle.dt_space.specs.Space.{PageView}
use Rattle.dt_space.specs.Write.{pages_after_store}
use Rattle.dt_procs.specs.Members.{parent_pid}
use Rattle.dt_calls.specs.declared.numbers.TheConstants.{UTSNAME_FIELD}
use Rattle.dt_calls.specs.Container.{Shared}
use Rattle.dt_calls.specs.Effect.{Effect, done_effect, refused_effect}

-- getpid(2), gettid(2), set_tid_address(2): the pid; a process has one thread, whose number is the process's
unfoldable pub getpid_call : Shared → ℕ → Machine → Effect
getpid_call c p m = done_effect c m p

-- getppid(2): the parent's pid; 0 for the first process
unfoldable pub getppid_call : Shared → ℕ → Machine → Effect
getppid_call c p m = done_effect c m (unwrap_or (parent_pid c.members p) 0)

-- set_robust_list(2): the list is not looked at, since a process has one thread; EINVAL where its size is another
unfoldable pub set_robust_list_call : Shared → Machine → Effect
set_robust_list_call c m = if register m A1 == ROBUST_LIST_SIZE then done_effect c m 0 else refused_effect c m Inval

-- a field of a `struct utsname`: a text, padded with zeros to the field's width
abbrev pub padded_field : List ℕ → List ℕ
padded_field text = text ++ replicate (UTSNAME_FIELD - length text) 0

-- a `struct utsname`: system, node, release, version, machine, domain
abbrev pub utsname : List ℕ
utsname =
    padded_field (codes "Linux") ++ (padded_field (codes "dettrace") ++ (padded_field (codes "6.1.0")
    ++ (padded_field (codes "#1") ++ (padded_field (codes "riscv64") ++ padded_field (codes "(none)")))))

-- 0 with these pages, in which a buffer has been filled; EFAULT where it could not be
abbrev pub done_with_pages : Shared → Machine → Result (List PageView) Miss → Effect
done_with_pages c m (Err miss) = refused_effect c m BadAddress
done_with_pages c m (Ok pages) = done_effect c (record m { space = pages }) 0

-- uname(2): EFAULT where a byte of the buffer can't be written
unfoldable pub uname_call : Shared → Machine → Effect
uname_call c m = done_with_pages c m (pages_after_store m.space (register m A0) utsname)
