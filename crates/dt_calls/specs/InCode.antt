-- What the code has in hand, as the definitions see it with what its host keeps.
use Rattle.std.specs.Prelude.{◌≡◌, ℕ, Bool, if◌then◌else◌, List, [], ◌∷◌, Option, None, Some, IsSome}
use Rattle.std.specs.Ordering.{nat_cmp}
use Rattle.std.specs.FinMap.{FinMap, empty, entries, get, insert, remove}
use Rattle.dt_base.specs.declared.answer.Answer.{Answer}
use Rattle.dt_base.specs.declared.event.Event.{Event}
use Rattle.dt_rv64.specs.declared.machine.Machine.{Machine}
use Rattle.dt_fds.specs.OpenFiles.{pipes_at}
use Rattle.dt_host.specs.World.{World}
use Rattle.dt_late.specs.Poll.{PollResult}
use Rattle.dt_mcalls.specs.Brk.{BrkResult}
use Rattle.dt_procs.specs.Table.{members_of}
use Rattle.dt_signals.specs.Called.{SignalCallResult}
use Rattle.dt_signals.specs.declared.delivery.Delivery.{Delivery}
use Rattle.dt_signals.specs.Delivery.{DeliveryResult}
use Rattle.dt_tree.specs.Table.{tree_of}
use Rattle.dt_calls.specs.declared.call.effect.Effect.{Effect as EffectInCode}
use Rattle.dt_calls.specs.declared.container.Launch.{Launch}
use Rattle.dt_calls.specs.declared.container.Served.{Served}
use Rattle.dt_calls.specs.declared.shared.Shared.{Shared as SharedInCode}
use Rattle.dt_calls.specs.Container.{Shared, Container, Machines, Tasks, task_in, with_signals}
use Rattle.dt_calls.specs.Effect.{Effect}
use Rattle.dt_calls.specs.Delivery.{task_after_delivery}
use Rattle.dt_calls.specs.Ends.{has_ended}
use Rattle.dt_calls.specs.LateCalls.{with_polling}
use Rattle.dt_calls.specs.SignalCalls.{AfterSigreturn}
use Rattle.dt_calls.specs.Launch.{ContainerLaunch}
use Rattle.dt_calls.specs.Settle.{ContainerTurn, is_end_of_all, with_own}

-- a container in code: its tables of inodes, pipes and pids stand for a tree, for pipes and for processes where what the host keeps is known;
-- each live process has a place for its machine, which is empty where the machine is away
pub record ContainerView : Type 0 where
  pub shared : SharedInCode
  pub places : FinMap nat_cmp (Option Machine)
  pub events : List Event

-- what is shared
abbrev pub shared_of : SharedInCode → World → Shared
shared_of c w = record {
  tree = tree_of c.fs.tree w.forest;
  files = c.fs.files.descriptors;
  pipes = pipes_at c.fs.files w.pipes;
  clock = c.fs.clock;
  rand = c.fs.rand;
  input = c.fs.input;
  members = members_of c.pids;
  tasks = c.tasks;
}

-- the machines in these places
abbrev pub machines_in : List (ℕ × Option Machine) → Machines
machines_in [] = empty
machines_in (e ∷ es) = with_own (machines_in es) e.0 e.1

-- the machines at home
unfoldable pub machines_at_home : FinMap nat_cmp (Option Machine) → Machines
machines_at_home places = machines_in (entries places)

-- the places with that of a child, if there is one
abbrev pub with_child_place : FinMap nat_cmp (Option Machine) → ℕ → Option Machine → FinMap nat_cmp (Option Machine)
with_child_place places next None = places
with_child_place places next (Some m) = insert places next (Some m)

-- the places after a turn of p: its own goes where it has ended, and a child gets one; at the end of all none are left
abbrev pub places_after_turn : FinMap nat_cmp (Option Machine) → ℕ → ℕ → Served → Option Machine → FinMap nat_cmp (Option Machine)
places_after_turn places next p served child =
    if is_end_of_all p served then empty
    else with_child_place (if has_ended served then remove places p else places) next child

-- what a run sees of a container
abbrev pub container_of : ContainerView → World → Container
container_of c w = record {
  shared = shared_of c.shared w;
  machines = machines_at_home c.places;
  next = c.shared.pids.next;
  events = c.events;
}

-- a process lives, and has a place for its machine
pub record Lives (c : ContainerView) (p : ℕ) : Type 0 where
  pub task : IsSome (get c.shared.tasks p)
  pub place : IsSome (get c.places p)

-- what serving a stop did
abbrev pub effect_as : Shared → Machine → EffectInCode → Effect
effect_as c m r = record { shared = c; machine = m; child = r.child; events = r.events.items; served = r.served }

-- a call left the signal state of a process and its machine so, and gave its answer
pub record CalledAt (r : SignalCallResult) (p : ℕ) (before after : Tasks) (old new : Machine) (given : Answer) : Type 0 where
  pub tasks : after ≡ insert before p (with_signals (task_in before p) r.signals)
  pub machine : new ≡ record old { space = r.pages }
  pub answer : given ≡ r.answer

-- a try of ppoll(2) left the task of a process and its machine so, and gave its answer
pub record PolledAt (r : PollResult) (p : ℕ) (before after : Tasks) (old new : Machine) (given : Answer) : Type 0 where
  pub tasks : after ≡ insert before p (with_polling (task_in before p) r.polling)
  pub machine : new ≡ record old { space = r.pages }
  pub answer : given ≡ r.answer

-- a move of the break left the task of a process and its machine so, and answers where the break is
pub record BreakAt (r : BrkResult) (p : ℕ) (before after : Tasks) (old new : Machine) (answer : ℕ) : Type 0 where
  pub tasks : after ≡ insert before p (record (task_in before p) { program_break = r.program_break })
  pub machine : new ≡ record old { space = r.pages }
  pub told : answer ≡ r.program_break.end

-- likewise a return from a handler, which says whether the frame could be read
pub record SigreturnAt (b : AfterSigreturn) (p : ℕ) (before after : Tasks) (new : Machine) (was_read : Bool) : Type 0 where
  pub tasks : after ≡ insert before p (with_signals (task_in before p) b.signals)
  pub machine : new ≡ b.machine
  pub is_read : was_read ≡ b.is_read

-- likewise a delivery, which says what it came to
pub record DeliveredAt (d : DeliveryResult) (p : ℕ) (before after : Tasks) (new : Machine) (came : Delivery) : Type 0 where
  pub tasks : after ≡ insert before p (task_after_delivery d.delivery (with_signals (task_in before p) d.signals))
  pub machine : new ≡ d.machine
  pub delivery : came ≡ d.delivery

-- what launching came to
abbrev pub container_launch_as : Container → Launch → ContainerLaunch
container_launch_as c l = record { container = c; launch = l }

-- what a turn came to
abbrev pub container_turn_as : Container → Served → ContainerTurn
container_turn_as c s = record { container = c; served = s }
