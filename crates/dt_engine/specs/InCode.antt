-- What the code has in hand of a run, as the definitions see it with what its host keeps.
use Rattle.std.specs.Prelude.{ℕ, ◌==◌, List, [], ◌∷◌, map, Option, None, Some, if◌then◌else◌}
use Rattle.std.specs.Ordering.{nat_cmp}
use Rattle.std.specs.FinMap.{FinMap, entries, from_entries, get}
use Rattle.dt_host.specs.World.{World}
use Rattle.dt_rv64.specs.declared.machine.Machine.{Machine}
use Rattle.dt_sched.specs.Core.{CoreView}
use Rattle.dt_sched.specs.declared.process.Process.{Process}
use Rattle.dt_sched.specs.declared.process.Phase.{Phase}
use Rattle.dt_sched.specs.declared.process.Phase.TheVariants.{Owes, Ran, Waits}
use Rattle.dt_sched.specs.Order.{Schedule}
use Rattle.dt_rv64.specs.declared.segments.Seg.{Seg}
use Rattle.dt_rv64.specs.declared.segments.Stop.{Stop}
use Rattle.dt_rv64.specs.declared.segments.Stop.TheVariants.{Slice}
use Rattle.dt_calls.specs.Container.{Machines}
use Rattle.dt_calls.specs.InCode.{shared_of, machines_at_home}
use Rattle.dt_engine.specs.declared.state.State.{State as StateInCode}
use Rattle.dt_engine.specs.Work.{Work, Works}
use Rattle.dt_engine.specs.Turn.{State}

-- the stop of the last segment that each process has run
abbrev pub Stops : Type 0
Stops = FinMap nat_cmp Stop

-- where the process of a pid stands in a queue; one that isn't there owes
abbrev pub phase_at : ℕ → List Process → Phase ℕ
phase_at p [] = Owes
phase_at p (x ∷ xs) = if x.vpid == p then x.phase else phase_at p xs

-- the stop that is noted of a process
abbrev pub noted_stop : Option Stop → Stop
noted_stop None = Slice
noted_stop (Some stop) = stop

-- where a process stands, with the stop of its segment where it has run one
abbrev pub with_stop : Phase ℕ → Stop → Phase Seg
with_stop Owes stop = Owes
with_stop (Ran count) stop = Ran (record { count = count; stop = stop })
with_stop Waits stop = Waits

-- where a process stands, by the queue and by the stop that is noted
abbrev pub phase_in : List Process → Stops → ℕ → Phase Seg
phase_in queue stops p = with_stop (phase_at p queue) (noted_stop (get stops p))

-- the work of a process whose machine is at home
abbrev pub work_in : Phase Seg → Machine → Work
work_in phase m = record { machine = m; phase = phase }

-- the works at home: each machine with where its process stands
unfoldable pub works_in : Machines → (ℕ → Phase Seg) → Works
works_in machines phases = from_entries (map (λ e. (e.0, work_in (phases e.0) e.1)) (entries machines))

-- what a queue decides by
abbrev pub schedule_of : CoreView → Schedule
schedule_of core = record { order = map (λ (p : Process). p.vpid) core.queue; blocked = core.blocked; left = core.left }

-- a run between two turns
abbrev pub state_of : StateInCode → World → State
state_of s w = record {
  shared = shared_of s.container.shared w;
  works = works_in (machines_at_home s.container.places) (phase_in s.core.queue s.stops);
  schedule = schedule_of s.core;
  next = s.container.shared.pids.next;
}
