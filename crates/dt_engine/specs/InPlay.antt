-- A run in play in code, as the definitions see it with what its host keeps, and what holds of it between two calls.
use Rattle.std.specs.Prelude.{◌≡◌, ℕ, ◌+◌, ◌*◌, ◌<◌, Bool, false, not, List, Option, None, IsSome, length}
use Rattle.std.specs.List.{AllByRecursion, filter}
use Rattle.std.specs.FinMap.{get}
use Rattle.dt_base.specs.declared.event.Verdict.{Verdict}
use Rattle.dt_host.specs.World.{World}
use Rattle.dt_sched.specs.Core.{CoreView, is_owing, owing_vpids}
use Rattle.dt_sched.specs.declared.process.Process.{Process}
use Rattle.dt_calls.specs.AtHome.{Places}
use Rattle.dt_calls.specs.InCode.{machines_at_home}
use Rattle.dt_engine.specs.declared.state.State.{State as StateInCode}
use Rattle.dt_engine.specs.Work.{Works}
use Rattle.dt_engine.specs.Turn.{State}
use Rattle.dt_engine.specs.InCode.{Stops, phase_in, works_in, state_of}
use Rattle.dt_engine.specs.Playing.{Playing}
use Rattle.dt_engine.specs.Admission.{is_ready_work}

-- its parts: the state, the verdict once one stands, and whether the report was finished
pub record EngineView : Type 0 where
  pub state : StateInCode
  pub verdict : Option Verdict
  pub finished : Bool

-- the run that an engine has in hand
abbrev pub playing_of : EngineView → World → Playing
playing_of e w = record { state = state_of e.state w; verdict = e.verdict }

-- the works at home
abbrev pub works_of : EngineView → Works
works_of e = works_in (machines_at_home e.state.container.places) (phase_in e.state.core.queue e.state.stops)

-- an engine with other places for machines
abbrev pub with_places : EngineView → Places → EngineView
with_places e places = record e { state = record e.state { container = record e.state.container { places = places } } }

-- the processes that owe a segment, or whose machines are away, in the order of their turns
abbrev pub owing_of : State → List ℕ
owing_of s = filter (λ p. not (is_ready_work (get s.works p))) s.schedule.order

-- each live process's machine is at home
abbrev pub IsFull : State → Type 0
IsFull s = AllByRecursion (λ p. IsSome (get s.works p)) s.schedule.order

-- a process of the queue has a place for its machine, in which that is unless the process owes a segment; a stop is noted of it,
-- and its pid was given
pub record IsKeptProcess (places : Places) (stops : Stops) (next : ℕ) (p : Process) : Type 0 where
  pub place : IsSome (get places p.vpid)
  pub home : is_owing p.phase ≡ false → IsSome (get (machines_at_home places) p.vpid)
  pub noted : IsSome (get stops p.vpid)
  pub given : p.vpid < next

-- so it is with a process of a run
abbrev pub IsKeptIn : StateInCode → Process → Type 0
IsKeptIn s p = IsKeptProcess s.container.places s.stops s.container.shared.pids.next p

-- so it is with each process of the queue
pub record IsKept (s : StateInCode) : Type 0 where
  pub kept : AllByRecursion (IsKeptIn s) s.core.queue

-- unless a verdict stands some process does not wait: fewer turns in a row were blocked than there are live processes
abbrev pub IsAwake : CoreView → Type 0
IsAwake core = core.verdict ≡ None → core.blocked < length core.queue

-- likewise of an engine, in which a verdict that a turn gave stands, and else not all processes wait
pub record IsInPlay (e : EngineView) : Type 0 where
  pub kept : IsKept e.state
  pub running : e.verdict ≡ None → e.state.core.verdict ≡ None
  pub awake : IsAwake e.state.core

-- how far a run is from its end, at most: each turn takes one from the budget, after which as many processes may owe as
-- the queue holds, at most 64
abbrev pub steps_left : CoreView → ℕ
steps_left core = core.left * 100 + length (owing_vpids core.queue)
