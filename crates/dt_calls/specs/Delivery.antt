-- The end of a turn: a signal is delivered to the process whose stop was served (signal(7)).
use Rattle.std.specs.Prelude.{ℕ, Bool, true, false, Option, None, Some, if◌then◌else◌}
use Rattle.dt_base.specs.declared.event.End.TheVariants.{Signal}
use Rattle.dt_rv64.specs.declared.segments.Stop.{Stop}
use Rattle.dt_rv64.specs.declared.segments.Stop.TheVariants.{Call, Counter, Slice, Fault}
use Rattle.dt_late.specs.declared.poll.Polling.{Polling}
use Rattle.dt_late.specs.declared.poll.Polling.TheVariants.{Idle, Until, Forever}
use Rattle.dt_signals.specs.declared.delivery.CallState.{CallState}
use Rattle.dt_signals.specs.declared.delivery.CallState.TheVariants.{Plain, Waits, Polls}
use Rattle.dt_signals.specs.declared.delivery.Delivery.{Delivery}
use Rattle.dt_signals.specs.declared.delivery.Delivery.TheVariants as delivery
use Rattle.dt_signals.specs.Delivery.{DeliveryResult, delivery_of}
use Rattle.dt_calls.specs.declared.container.Served.{Served}
use Rattle.dt_calls.specs.declared.container.Served.TheVariants.{Done, Child, LastChild, Blocked, Progress, Ended, Unsupported}
use Rattle.dt_calls.specs.declared.task.Task.{Task}
use Rattle.dt_calls.specs.Container.{task_at, with_task, with_signals}
use Rattle.dt_calls.specs.Effect.{Effect}
use Rattle.dt_calls.specs.Ends.{with_end}

-- the signal that a stop forces: a fault's
abbrev pub forced_signal : Stop → Option ℕ
forced_signal Call = None
forced_signal (Counter rd) = None
forced_signal Slice = None
forced_signal (Fault signal) = Some signal

-- a signal may be delivered: the process has not ended, and does not stay at a call that isn't supported
abbrev pub takes_signals : Served → Bool
takes_signals Done = true
takes_signals (Child v) = true
takes_signals (LastChild v) = false
takes_signals Blocked = true
takes_signals Progress = true
takes_signals Ended = false
takes_signals (Unsupported number) = false

-- a call that waits, as delivery sees it: it has moved so many bytes, or is a ppoll(2)
abbrev pub waiting_state : Polling → ℕ → CallState
waiting_state Idle done = Waits done
waiting_state (Until due) done = Polls
waiting_state Forever done = Polls

-- a process's call, as delivery sees it: one that goes on has moved so many bytes
abbrev pub call_state : Task → Served → CallState
call_state t Done = Plain
call_state t (Child v) = Plain
call_state t (LastChild v) = Plain
call_state t Blocked = waiting_state t.polling t.caller.done
call_state t Progress = Waits t.caller.done
call_state t Ended = Plain
call_state t (Unsupported number) = Plain

-- a task after a delivery: where a handler is to be run, no call waits or goes on, and the count of its bytes is 0
abbrev pub task_after_delivery : Delivery → Task → Task
task_after_delivery delivery.Nothing t = t
task_after_delivery delivery.Handler t = record t { caller = record t.caller { done = 0 }; polling = Idle }
task_after_delivery (delivery.Ends signal) t = t

-- what became of a process whose handler is to be run: a call that waited is over
abbrev pub served_at_handler : Served → Served
served_at_handler Done = Done
served_at_handler (Child v) = Child v
served_at_handler (LastChild v) = LastChild v
served_at_handler Blocked = Done
served_at_handler Progress = Done
served_at_handler Ended = Ended
served_at_handler (Unsupported number) = Unsupported number

-- after a delivery: a handler is there to be run, also where a call waited; or the process ends by the signal
abbrev pub with_delivery : ℕ → Effect → Delivery → Effect
with_delivery p r delivery.Nothing = r
with_delivery p r delivery.Handler = record r { served = served_at_handler r.served }
with_delivery p r (delivery.Ends signal) = with_end p (Signal signal) r

-- the same, with the task and the machine that delivery leaves
abbrev pub with_delivered : ℕ → Effect → DeliveryResult → Effect
with_delivered p r d =
    let t = task_after_delivery d.delivery (with_signals (task_at r.shared p) d.signals) in
    with_delivery p (record r { shared = with_task r.shared p t; machine = d.machine }) d.delivery

-- a signal is delivered after a stop of a process was served: that of a fault, or a pending one
unfoldable pub effect_after_delivery : Option ℕ → ℕ → Effect → Effect
effect_after_delivery forced p r =
    let t = task_at r.shared p in
    if takes_signals r.served then with_delivered p r (delivery_of forced (call_state t r.served) t.signals r.machine) else r
