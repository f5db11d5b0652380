-- wait4(2): a child that has ended is reaped.
use Rattle.std.specs.Prelude.{ℕ, ◌*◌, ◌==◌, ◌||◌, ◌&&◌, nat_lt, not, Bool, List, replicate, Option, None, Some, if◌then◌else◌}
use Rattle.dt_base.specs.declared.abi.TheConstants.{A0, A1, A2, A3, WAIT4, WNOHANG, WAIT_OPTIONS, GREATEST_PID, ANY_CHILD}
use Rattle.dt_base.specs.Abi.{low_word}
use Rattle.dt_base.specs.declared.errno.Errno.TheVariants.{Inval, Child, Fault as BadAddress}
use Rattle.dt_base.specs.declared.event.End.{End}
use Rattle.dt_base.specs.declared.event.End.TheVariants.{Code, Signal}
use Rattle.dt_base.specs.Fields.{low_bytes}
use Rattle.dt_procs.specs.declared.member.Reaped.{Reaped}
use Rattle.dt_procs.specs.declared.member.Reaped.TheVariants.{Got, NoneReady, NoChild}
use Rattle.dt_procs.specs.Members.{look_for, without_member}
use Rattle.dt_rv64.specs.declared.machine.Machine.{Machine}
use Rattle.dt_rv64.specs.Effects.{register}
use Rattle.dt_space.specs.Argument.{is_writable_or_null, with_bytes_unless_null}
use Rattle.dt_callbase.specs.Arguments.{has_only}
use Rattle.dt_base.specs.Abi.{has_flag}
use Rattle.dt_calls.specs.declared.container.Served.TheVariants.{Blocked, Unsupported}
use Rattle.dt_calls.specs.declared.numbers.TheConstants.{RUSAGE_SIZE}
use Rattle.dt_calls.specs.Container.{Shared}
use Rattle.dt_calls.specs.Effect.{Effect, quiet_effect, done_effect, refused_effect}

-- the low 32 bits as a signed number are below -1
abbrev pub is_group : ℕ → Bool
is_group pid = nat_lt GREATEST_PID pid && nat_lt pid ANY_CHILD

-- the child that is waited for: any where the pid is 0 or -1
abbrev pub which_child : ℕ → Option ℕ
which_child pid = if (pid == 0) || (pid == ANY_CHILD) then None else Some pid

-- the status word of an end: an exit code is its second byte, a signal its first
abbrev pub status_of : End → ℕ
status_of (Code code) = code * 256
status_of (Signal signal) = signal

-- the bytes of a status word
abbrev pub status_bytes : End → List ℕ
status_bytes end = low_bytes 4 (status_of end)

-- the bytes of the use of resources, which is told as none
abbrev pub usage_bytes : List ℕ
usage_bytes = replicate RUSAGE_SIZE 0

-- a zombie is reaped, and its pid is the answer; EFAULT where its status or the use of resources can't be written
abbrev pub reap_effect : Shared → Machine → ℕ → ℕ → ℕ → End → Effect
reap_effect c m status usage vpid end =
    if is_writable_or_null m.space status 4 && is_writable_or_null m.space usage RUSAGE_SIZE
    then done_effect (record c { members = without_member c.members vpid })
    (record m { space = with_bytes_unless_null (with_bytes_unless_null m.space status (status_bytes end)) usage usage_bytes }) vpid
    else refused_effect c m BadAddress

-- by what there is: with WNOHANG the answer is 0 where no child has ended, and else the process waits
abbrev pub effect_of_reaped : Shared → Machine → Reaped → Effect
effect_of_reaped c m (Got vpid end) = reap_effect c m (register m A1) (register m A3) vpid end
effect_of_reaped c m NoneReady = if has_flag (low_word (register m A2)) WNOHANG then done_effect c m 0 else quiet_effect c m Blocked
effect_of_reaped c m NoChild = refused_effect c m Child

-- reaps a child that has ended, or waits for one; for a group of processes it isn't supported (wait4(2))
unfoldable pub wait4_call : Shared → ℕ → Machine → Effect
wait4_call c p m =
    if is_group (low_word (register m A0)) then quiet_effect c m (Unsupported WAIT4)
    else if not (has_only (low_word (register m A2)) WAIT_OPTIONS) then refused_effect c m Inval
    else effect_of_reaped c m (look_for c.members p (which_child (low_word (register m A0))))
