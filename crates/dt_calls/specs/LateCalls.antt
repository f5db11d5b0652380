-- The calls that look ahead in time: setitimer(2), getitimer(2), ppoll(2).
use Rattle.std.specs.Prelude.{ℕ, ◌==◌, if◌then◌else◌}
use Rattle.dt_base.specs.declared.abi.TheConstants.{A0, A1, A2}
use Rattle.dt_fds.specs.Ready.{ready_events}
use Rattle.dt_late.specs.declared.numbers.TheConstants.{SETITIMER, GETITIMER, PPOLL}
use Rattle.dt_late.specs.declared.poll.Polling.{Polling}
use Rattle.dt_late.specs.Itimer.{setitimer_of, getitimer_of}
use Rattle.dt_late.specs.Poll.{PollResult, ppoll_of}
use Rattle.dt_rv64.specs.declared.machine.Machine.{Machine}
use Rattle.dt_rv64.specs.Effects.{register}
use Rattle.dt_calls.specs.declared.task.Task.{Task}
use Rattle.dt_calls.specs.Container.{Shared, task_at, with_task}
use Rattle.dt_calls.specs.Effect.{Effect, effect_of_answer}
use Rattle.dt_calls.specs.FileCalls.{arguments, file_call}
use Rattle.dt_calls.specs.SignalCalls.{effect_of_signal_call}

-- tells the process's timer, and puts another one in its place (setitimer(2))
unfoldable pub setitimer_call : Shared → ℕ → Machine → Effect
setitimer_call c p m = effect_of_signal_call c p m SETITIMER
    (setitimer_of (task_at c p).signals m.space c.clock (register m A0) (register m A1) (register m A2))

-- tells the process's timer (getitimer(2))
unfoldable pub getitimer_call : Shared → ℕ → Machine → Effect
getitimer_call c p m = effect_of_signal_call c p m GETITIMER
    (getitimer_of (task_at c p).signals m.space c.clock (register m A0) (register m A1))

-- a task with this of a call of ppoll(2)
abbrev pub with_polling : Task → Polling → Task
with_polling t polling = record t { polling = polling }

-- which events there are at a descriptor of a process of which these are asked for
abbrev pub events_of : Shared → ℕ → ℕ → ℕ → ℕ
events_of c p fd asked = ready_events p fd asked c.files c.pipes

-- a try of ppoll(2) leaves the process so, and gives its answer
abbrev pub effect_of_poll : Shared → ℕ → Machine → PollResult → Effect
effect_of_poll c p m r =
    effect_of_answer (with_task c p (with_polling (task_at c p) r.polling)) (record m { space = r.pages }) PPOLL r.answer

-- looks for events at descriptors, and may wait for them (ppoll(2))
unfoldable pub ppoll_call : Shared → ℕ → Machine → Effect
ppoll_call c p m = effect_of_poll c p m (ppoll_of (events_of c p) c.clock (task_at c p).polling m.space (arguments m))

-- the calls that look ahead in time; any other is one on files, time or random bytes
unfoldable pub late_call : ℕ → Shared → ℕ → Machine → Effect
late_call number c p m =
    if number == SETITIMER then setitimer_call c p m
    else if number == GETITIMER then getitimer_call c p m
    else if number == PPOLL then ppoll_call c p m
    else file_call number c p m
