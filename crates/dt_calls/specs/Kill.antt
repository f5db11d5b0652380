-- Signals that a process sends: kill(2), tkill(2), tgkill(2). A process has one thread, whose number is the process's.
use Rattle.std.specs.Prelude.{ℕ, ◌==◌, ◌||◌, ◌&&◌, not, nat_lt, nat_le, Bool, is_some, if◌then◌else◌}
use Rattle.dt_base.specs.declared.abi.TheConstants.{A0, A1, A2, KILL, TKILL, TGKILL, GREATEST_PID, SIGCHLD, SIGNAL_LIMIT}
use Rattle.dt_base.specs.Abi.{low_word}
use Rattle.dt_base.specs.declared.errno.Errno.TheVariants.{Inval, Srch}
use Rattle.dt_procs.specs.Members.{parent_pid}
use Rattle.dt_rv64.specs.declared.machine.Machine.{Machine}
use Rattle.dt_rv64.specs.Effects.{register}
use Rattle.dt_calls.specs.declared.container.Served.TheVariants.{Unsupported}
use Rattle.dt_calls.specs.Container.{Shared, tasks_after_raise}
use Rattle.dt_calls.specs.Effect.{Effect, quiet_effect, done_effect, refused_effect}

-- the low 32 bits as a signed number are below 1: no process has this pid
abbrev pub is_below_one : ℕ → Bool
is_below_one pid = (pid == 0) || nat_lt GREATEST_PID pid

-- a signal with which these calls are not supported: SIGCHLD is the last that can be sent
abbrev pub is_unsupported_signal : ℕ → Bool
is_unsupported_signal signal = nat_lt SIGCHLD signal && nat_le signal SIGNAL_LIMIT

-- a process of this pid is there, a zombie included
abbrev pub has_member : Shared → ℕ → Bool
has_member c pid = is_some (parent_pid c.members pid)

-- a signal is pending at a process that lives; signal 0 asks whether it is there
abbrev pub send_effect : Shared → Machine → ℕ → ℕ → Effect
send_effect c m pid signal =
    if signal == 0 then done_effect c m 0 else done_effect (record c { tasks = tasks_after_raise pid signal c.tasks }) m 0

-- a signal is sent: EINVAL where there is none of this number, ESRCH where no such process is there
abbrev pub send_effect_to : Shared → Machine → ℕ → ℕ → Effect
send_effect_to c m pid signal =
    if nat_lt SIGNAL_LIMIT signal then refused_effect c m Inval
    else if not (has_member c pid) then refused_effect c m Srch
    else send_effect c m pid signal

-- kill(2) of one process; to a group of processes it isn't supported
unfoldable pub kill_call : Shared → Machine → Effect
kill_call c m =
    let pid = low_word (register m A0) in
    let signal = low_word (register m A1) in
    if is_below_one pid || is_unsupported_signal signal then quiet_effect c m (Unsupported KILL)
    else send_effect_to c m pid signal

-- sends a signal to a process by the id of its one thread; EINVAL for an id below 1 (tkill(2))
unfoldable pub tkill_call : Shared → Machine → Effect
tkill_call c m =
    let tid = low_word (register m A0) in
    let signal = low_word (register m A1) in
    if is_unsupported_signal signal then quiet_effect c m (Unsupported TKILL)
    else if is_below_one tid then refused_effect c m Inval
    else send_effect_to c m tid signal

-- tgkill(2): ESRCH also where the thread is of another process
unfoldable pub tgkill_call : Shared → Machine → Effect
tgkill_call c m =
    let tgid = low_word (register m A0) in
    let tid = low_word (register m A1) in
    let signal = low_word (register m A2) in
    if is_unsupported_signal signal then quiet_effect c m (Unsupported TGKILL)
    else if is_below_one tgid || is_below_one tid || nat_lt SIGNAL_LIMIT signal then refused_effect c m Inval
    else if not (tgid == tid) then refused_effect c m Srch
    else send_effect_to c m tid signal
