-- How much one turn shows at most: 65 events, at most one of them an output, of at most 0x7ffff000 bytes, as many as
-- one call moves.
use Rattle.std.specs.Prelude.{◌≡◌, ℕ, ◌+◌, ◌<◌, ◌≤◌, true, List, length, Option, None, Some, IsSome}
use Rattle.std.specs.List.{All, filter_map}
use Rattle.std.specs.FinMap.{get}
use Rattle.dt_base.specs.declared.abi.TheConstants.{TRANSFER_LIMIT}
use Rattle.dt_base.specs.declared.event.Event.{Event}
use Rattle.dt_base.specs.declared.event.Event.TheVariants.{Out, Exit}
use Rattle.dt_base.specs.declared.limits.TheConstants.{FIRST_PID}
use Rattle.dt_base.specs.Command.{Words}
use Rattle.dt_host.specs.World.{World}
use Rattle.dt_procs.specs.declared.member.Member.{Member}
use Rattle.dt_procs.specs.declared.member.TheConstants.{PROCESS_LIMIT}
use Rattle.dt_procs.specs.Members.{has_live}
use Rattle.dt_procs.specs.Table.{IsRising}
use Rattle.dt_rv64.specs.declared.machine.Machine.{Machine}
use Rattle.dt_rv64.specs.declared.segments.Stop.{Stop}
use Rattle.dt_tree.specs.FileTree.{FileTree}
use Rattle.dt_calls.specs.Container.{Shared, Container, first_container}
use Rattle.dt_calls.specs.declared.container.Served.{Served}
use Rattle.dt_calls.specs.InCode.{ContainerView, machines_at_home, container_of, container_turn_as}
use Rattle.dt_calls.specs.Launch.{launch}
use Rattle.dt_calls.specs.Settle.{next_after, turn_of_machine, turn_of_container}
use Rattle.dt_calls.specs.Sound.{IsSoundContainer}

-- the bytes that an event puts out, if it is an output
abbrev pub output_of : Event → Option (List ℕ)
output_of (Out stream bytes) = Some bytes
output_of (Exit vpid end) = None

-- the bytes of each output among events, in order
abbrev pub outputs : List Event → List (List ℕ)
outputs events = filter_map output_of events

-- at most 65 events, one more than there may be processes, and at most one of them an output, of no more bytes than one
-- call moves
pub record ShowsFew (shown : List Event) : Type 0 where
  pub events : length shown ≤ PROCESS_LIMIT + 1
  pub output : length (outputs shown) ≤ 1
  pub bytes : All (λ bytes. length bytes ≤ TRANSFER_LIMIT) (outputs shown)

-- at most 64 processes, zombies included, in the order of their pids, each below the pid that the next child gets
pub record AreMembers (members : List Member) (next : ℕ) : Type 0 where
  pub rising : IsRising members
  pub given : All (λ m. m.vpid < next) members
  pub few : length members ≤ PROCESS_LIMIT

-- the processes of a container are few, and each task is that of one that lives
pub record HasFewProcesses (c : Shared) (next : ℕ) : Type 0 where
  pub members : AreMembers c.members next
  pub lives : (p : ℕ) → IsSome (get c.tasks p) → has_live c.members p ≡ true

-- a turn shows few events, and leaves few processes
pub record LeavesFew (events : List Event) (c : Shared) (next : ℕ) : Type 0 where
  pub shown : ShowsFew events
  pub processes : HasFewProcesses c next

-- a turn of a process that has a task does so, where there are few processes before it
abbrev pub ProcessTurnsShowFew : Type 0
ProcessTurnsShowFew =
    (c : Shared) (next p : ℕ) (stop : Stop) (m : Machine) → HasFewProcesses c next → IsSome (get c.tasks p)
    → let t = turn_of_machine c next p stop m in LeavesFew t.events t.shared (next_after next t.child)

-- a container has few processes
abbrev pub HasFew : Container → Type 0
HasFew c = HasFewProcesses c.shared c.next

-- a container has few processes at first, whichever its tree and its seed
abbrev pub ContainersBeginFew : Type 0
ContainersBeginFew = (t : FileTree) (seed : ℕ) → HasFew (first_container t seed)

-- a launch of a program leaves few processes of a container that had few, and in which process 1 has a task
abbrev pub LaunchesLeaveFew : Type 0
LaunchesLeaveFew =
    (c : Container) (words : Words) → IsSome (get c.shared.tasks FIRST_PID) → HasFew c
    → let l = launch c words in HasFew l.container

-- the last turn of a container showed few events, and the container has few processes
pub record LastTurnShowsFew (c : Container) : Type 0 where
  pub shown : ShowsFew c.events
  pub few : HasFew c

-- after a stop that `serve` or `retry` served the container's last turn showed few events and it has few processes, if
-- it had few before
abbrev pub ContainersShowFew : Type 0
ContainersShowFew =
    (old new : ContainerView) (v w : World) (p : ℕ) (stop : Stop) (served : Served) → IsSoundContainer old v
    → IsSome (get (machines_at_home old.places) p)
    → turn_of_container (container_of old v) p stop ≡ Some (container_turn_as (container_of new w) served)
    → HasFew (container_of old v) → LastTurnShowsFew (container_of new w)
