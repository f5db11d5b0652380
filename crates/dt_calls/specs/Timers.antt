-- What live processes wait for in time: their timers, and calls of ppoll(2); and the timers that fire.
use Rattle.std.specs.Prelude.{ℕ, min, List, [], ◌∷◌, Option, None, Some}
use Rattle.std.specs.FinMap.{get, insert}
use Rattle.dt_late.specs.Poll.{polling_due}
use Rattle.dt_procs.specs.Members.{vpids_of}
use Rattle.dt_procs.specs.Table.{members_of}
use Rattle.dt_signals.specs.Timer.{signals_at, timer_due}
use Rattle.dt_virt.specs.Clock.{ticks_reaching}
use Rattle.dt_calls.specs.declared.shared.Shared.{Shared as SharedInCode}
use Rattle.dt_calls.specs.declared.task.Task.{Task}
use Rattle.dt_calls.specs.Container.{Shared, Tasks, with_signals}
use Rattle.dt_calls.specs.Effect.{Effect}

-- the sooner of two points of time, where there are such
abbrev pub sooner : Option ℕ → Option ℕ → Option ℕ
sooner None due = due
sooner (Some first) None = Some first
sooner (Some first) (Some second) = Some (min first second)

-- the point of time that a process waits for, if it does: its timer is due then, or a ppoll(2) of it is over
abbrev pub task_due : Task → Option ℕ
task_due t = sooner (timer_due t.signals) (polling_due t.polling)

-- that of a process, if it lives
abbrev pub due_in : Option Task → Option ℕ
due_in None = None
due_in (Some t) = task_due t

-- the earliest of such a point and of those of these processes
unfoldable pub earliest_after : Option ℕ → List ℕ → Tasks → Option ℕ
earliest_after due [] tasks = due
earliest_after due (p ∷ ps) tasks = earliest_after (sooner due (due_in (get tasks p))) ps tasks

-- the earliest point of time that a live process waits for, if one does
abbrev pub earliest_of : Shared → Option ℕ
earliest_of c = earliest_after None (vpids_of c.members) c.tasks

-- the same of what is shared in code
abbrev pub earliest_in : SharedInCode → Option ℕ
earliest_in c = earliest_after None (vpids_of (members_of c.pids)) c.tasks

-- a process at these ticks: its timer fires where it is due
abbrev pub task_at_ticks : ℕ → Task → Task
task_at_ticks ticks t = with_signals t (signals_at ticks t.signals)

-- the timer of a process fires, if it lives
abbrev pub tasks_after_timer_in : ℕ → ℕ → Tasks → Option Task → Tasks
tasks_after_timer_in ticks p tasks None = tasks
tasks_after_timer_in ticks p tasks (Some t) = insert tasks p (task_at_ticks ticks t)

-- the same by the process's pid
abbrev pub tasks_after_timer : ℕ → ℕ → Tasks → Tasks
tasks_after_timer ticks p tasks = tasks_after_timer_in ticks p tasks (get tasks p)

-- the timers of these processes fire, one after the other
unfoldable pub tasks_after_timers : ℕ → List ℕ → Tasks → Tasks
tasks_after_timers ticks [] tasks = tasks
tasks_after_timers ticks (p ∷ ps) tasks = tasks_after_timers ticks ps (tasks_after_timer ticks p tasks)

-- the timers fire that are due, in the order of their processes' pids
unfoldable pub shared_after_timers : Shared → Shared
shared_after_timers c = record c { tasks = tasks_after_timers c.clock (vpids_of c.members) c.tasks }

-- the time comes to a point, and the timers fire that are due then
unfoldable pub shared_after_jump : ℕ → Shared → Shared
shared_after_jump due c = shared_after_timers (record c { clock = ticks_reaching c.clock due })

-- the timers fire after a stop was served
abbrev pub effect_after_timers : Effect → Effect
effect_after_timers r = record r { shared = shared_after_timers r.shared }
