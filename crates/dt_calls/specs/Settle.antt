-- What becomes of a process whose stop was served, and of its container.
use Rattle.std.specs.Prelude.{ℕ, ◌+◌, ◌==◌, Bool, false, List, Option, Some, None, option_map, if◌then◌else◌}
use Rattle.std.specs.Ordering.{nat_cmp}
use Rattle.std.specs.FinMap.{FinMap, empty, get, insert, remove}
use Rattle.dt_base.specs.declared.event.Event.{Event}
use Rattle.dt_base.specs.declared.limits.TheConstants.{FIRST_PID}
use Rattle.dt_rv64.specs.declared.machine.Machine.{Machine}
use Rattle.dt_rv64.specs.declared.segments.Stop.{Stop}
use Rattle.dt_rv64.specs.declared.segments.Stop.TheVariants.{Slice, Call, Counter, Fault}
use Rattle.dt_rv64.specs.Atomics.{with_reserved}
use Rattle.dt_calls.specs.declared.container.Served.{Served}
use Rattle.dt_calls.specs.declared.container.Served.TheVariants.{Done, Child, LastChild, Blocked, Progress, Ended, Unsupported}
use Rattle.dt_calls.specs.Container.{Shared, Container, Machines}
use Rattle.dt_calls.specs.Effect.{Effect}
use Rattle.dt_calls.specs.Ends.{has_ended}
use Rattle.dt_calls.specs.Call.{effect_of_stop}
use Rattle.dt_calls.specs.Timers.{earliest_of, shared_after_jump, effect_after_timers}
use Rattle.dt_calls.specs.Delivery.{effect_after_delivery, forced_signal}

-- what is shared after a turn of a process, its machine if it lives on, the machine of a child that it made, what the turn
-- showed, and what became of the process
pub record ProcessTurn : Type 0 where
  pub shared : Shared
  pub own : Option Machine
  pub child : Option Machine
  pub events : List Event
  pub served : Served

-- the machine of a process, unless it has ended
abbrev pub machine_after : Served → Machine → Option Machine
machine_after served m = if has_ended served then None else Some m

-- what a turn comes to that did this
abbrev pub process_turn : Effect → ProcessTurn
process_turn r = record {
  shared = r.shared;
  own = machine_after r.served r.machine;
  child = r.child;
  events = r.events;
  served = r.served;
}

-- the machine whose stop is served: only a slice leaves what its load reserved
abbrev pub machine_to_serve : Stop → Machine → Machine
machine_to_serve Slice m = m
machine_to_serve Call m = with_reserved None m
machine_to_serve (Counter reg) m = with_reserved None m
machine_to_serve (Fault signal) m = with_reserved None m

-- a stop is served with this machine, the timers fire that are due, and then a signal is delivered to the process, if one is to be
abbrev pub served_effect : Shared → ℕ → ℕ → Machine → Stop → Effect
served_effect c next p m stop =
    effect_after_delivery (forced_signal stop) p (effect_after_timers (effect_of_stop c next p m stop))

-- what a turn of a process with this machine comes to
abbrev pub effect_of_turn : Shared → ℕ → ℕ → Machine → Stop → Effect
effect_of_turn c next p m stop = served_effect c next p (machine_to_serve stop m) stop

-- a turn of a process with this machine; a call that waits or goes on is served again
unfoldable pub turn_of_machine : Shared → ℕ → ℕ → Stop → Machine → ProcessTurn
turn_of_machine c next p stop m = process_turn (effect_of_turn c next p m stop)

-- whether all processes have ended
abbrev pub is_end_of_all : ℕ → Served → Bool
is_end_of_all p Done = false
is_end_of_all p (Child v) = false
is_end_of_all p (LastChild v) = p == FIRST_PID
is_end_of_all p Blocked = false
is_end_of_all p Progress = false
is_end_of_all p Ended = p == FIRST_PID
is_end_of_all p (Unsupported number) = false

-- with what is a process's own, or without it where there is nothing
abbrev pub with_own : {X : Type 0} → FinMap nat_cmp X → ℕ → Option X → FinMap nat_cmp X
with_own owned p None = remove owned p
with_own owned p (Some own) = insert owned p own

-- with the machine of a child, if there is one
abbrev pub with_child_machine : Machines → ℕ → Option Machine → Machines
with_child_machine machines next None = machines
with_child_machine machines next (Some m) = insert machines next m

-- the machines after a turn: the process's own, that of a child, and the others' as they were; at the end of all none
abbrev pub machines_after_turn : Machines → ℕ → ℕ → ProcessTurn → Machines
machines_after_turn machines next p s =
    if is_end_of_all p s.served then empty else with_child_machine (with_own machines p s.own) next s.child

-- the pid that the next child gets
abbrev pub next_after : ℕ → Option Machine → ℕ
next_after next None = next
next_after next (Some m) = next + 1

-- a container after a turn, and what became of the process
pub record ContainerTurn : Type 0 where
  pub container : Container
  pub served : Served

-- a container after a turn of a process
abbrev pub with_process_turn : Container → ℕ → ProcessTurn → ContainerTurn
with_process_turn c p s = record {
  container = record {
    shared = s.shared;
    machines = machines_after_turn c.machines c.next p s;
    next = next_after c.next s.child;
    events = s.events;
  };
  served = s.served;
}

-- what is shared, with the time at the earliest point that a live process waits for, if one does
abbrev pub shared_after_waiting : Shared → Option ℕ → Shared
shared_after_waiting c None = c
shared_after_waiting c (Some due) = shared_after_jump due c

-- a container after the time has come to that point
abbrev pub container_after_jump : Container → Container
container_after_jump c = record c { shared = shared_after_waiting c.shared (earliest_of c.shared) }

-- a stop is served of a process whose machine is at home
unfoldable pub turn_of_container : Container → ℕ → Stop → Option ContainerTurn
turn_of_container c p stop = option_map (λ m. with_process_turn c p (turn_of_machine c.shared c.next p stop m)) (get c.machines p)
