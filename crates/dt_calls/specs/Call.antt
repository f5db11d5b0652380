-- What a stop of a process asks for, and the system calls by their numbers (syscall(2), riscv64).
use Rattle.std.specs.Prelude.{ℕ, Bool, ◌||◌, ◌==◌, if◌then◌else◌}
use Rattle.dt_base.specs.declared.abi.TheConstants.{A0, A7, EXIT, EXIT_GROUP, BRK, MUNMAP, MMAP, MPROTECT, SET_TID_ADDRESS, SET_ROBUST_LIST, SCHED_YIELD, UNAME, GETPID, GETPPID, GETUID, GETEUID, GETGID, GETEGID, GETTID, MREMAP, CLONE, EXECVE, MADVISE, WAIT4, PRLIMIT64, STATX, RSEQ, KILL, TKILL, TGKILL, RT_SIGACTION, RT_SIGPROCMASK, RT_SIGRETURN}
use Rattle.dt_base.specs.Abi.{exit_code}
use Rattle.dt_base.specs.declared.errno.Errno.TheVariants.{NoSys}
use Rattle.dt_base.specs.declared.event.End.TheVariants.{Code}
use Rattle.dt_rv64.specs.declared.machine.Machine.{Machine}
use Rattle.dt_rv64.specs.declared.segments.Stop.{Stop}
use Rattle.dt_rv64.specs.declared.segments.Stop.TheVariants.{Call, Counter, Slice, Fault}
use Rattle.dt_rv64.specs.Effects.{register}
use Rattle.dt_calls.specs.declared.container.Served.TheVariants.{Done}
use Rattle.dt_calls.specs.Container.{Shared}
use Rattle.dt_calls.specs.Effect.{Effect, quiet_effect, done_effect, refused_effect, counter_effect}
use Rattle.dt_calls.specs.MemoryCalls.{brk_call, munmap_call, mmap_call, mprotect_call}
use Rattle.dt_calls.specs.Identity.{getpid_call, getppid_call, set_robust_list_call, uname_call}
use Rattle.dt_calls.specs.Clone.{clone_call}
use Rattle.dt_calls.specs.Ends.{with_end}
use Rattle.dt_calls.specs.Execve.{execve_call}
use Rattle.dt_calls.specs.Wait.{wait4_call}
use Rattle.dt_calls.specs.Kill.{kill_call, tkill_call, tgkill_call}
use Rattle.dt_calls.specs.SignalCalls.{sigaction_call, sigprocmask_call, sigreturn_call}
use Rattle.dt_calls.specs.LateCalls.{late_call}

-- exit(2) and exit_group(2): the process ends with a code
unfoldable pub exit_call : Shared → ℕ → Machine → Effect
exit_call c p m = with_end p (Code (exit_code (register m A0))) (quiet_effect c m Done)

-- a call of one of these numbers is done and answers 0: sched_yield(2), and getuid(2) and its kin, since all is root's
abbrev pub is_zero_call : ℕ → Bool
is_zero_call number =
    (number == SCHED_YIELD) || (number == GETUID) || (number == GETEUID) || (number == GETGID) || (number == GETEGID)

-- a call of one of these numbers is refused with ENOSYS, so that a C library goes another way
abbrev pub is_missing_call : ℕ → Bool
is_missing_call number =
    (number == MREMAP) || (number == MADVISE) || (number == PRLIMIT64) || (number == STATX) || (number == RSEQ)

-- the calls on signals; any other is one that looks ahead in time, or one on files, time or random bytes
unfoldable pub signal_call : ℕ → Shared → ℕ → Machine → Effect
signal_call number c p m =
    if number == KILL then kill_call c m
    else if number == TKILL then tkill_call c m
    else if number == TGKILL then tgkill_call c m
    else if number == RT_SIGACTION then sigaction_call c p m
    else if number == RT_SIGPROCMASK then sigprocmask_call c p m
    else if number == RT_SIGRETURN then sigreturn_call c p m
    else late_call number c p m

-- the calls that tell a process who it is, and those that do nothing; any other is one on signals or one of those above
unfoldable pub identity_call : ℕ → Shared → ℕ → Machine → Effect
identity_call number c p m =
    if (number == GETPID) || (number == GETTID) || (number == SET_TID_ADDRESS) then getpid_call c p m
    else if number == GETPPID then getppid_call c p m
    else if number == SET_ROBUST_LIST then set_robust_list_call c m
    else if number == UNAME then uname_call c m
    else if is_zero_call number then done_effect c m 0
    else if is_missing_call number then refused_effect c m NoSys
    else signal_call number c p m

-- the calls on memory; any other is one of those above
unfoldable pub memory_call : ℕ → Shared → ℕ → Machine → Effect
memory_call number c p m =
    if number == BRK then brk_call c p m
    else if number == MUNMAP then munmap_call c m
    else if number == MMAP then mmap_call c m
    else if number == MPROTECT then mprotect_call c m
    else identity_call number c p m

-- what the call of a number does; it is handed the pid that a child gets
unfoldable pub call_of : ℕ → Shared → ℕ → ℕ → Machine → Effect
call_of number c next p m =
    if (number == EXIT) || (number == EXIT_GROUP) then exit_call c p m
    else if number == CLONE then clone_call c next p m
    else if number == EXECVE then execve_call c p m
    else if number == WAIT4 then wait4_call c p m
    else memory_call number c p m

-- a call is served by its number, and a counter is read; at the end of a slice the process goes on, and at a fault it stays
-- for the delivery of the fault's signal
unfoldable pub effect_of_stop : Shared → ℕ → ℕ → Machine → Stop → Effect
effect_of_stop c next p m Call = call_of (register m A7) c next p m
effect_of_stop c next p m (Counter rd) = counter_effect c m rd
effect_of_stop c next p m (Fault signal) = quiet_effect c m Done
effect_of_stop c next p m Slice = quiet_effect c m Done
