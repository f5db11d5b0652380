-- Inner words: what holds of a run between two turns in code.
use Rattle.std.specs.Prelude.{ℕ, ◌<◌, IsSome}
use Rattle.std.specs.List.{AllByRecursion}
use Rattle.std.specs.FinMap.{get}
use Rattle.dt_sched.specs.declared.process.Process.{Process}
use Rattle.dt_calls.specs.Container.{Machines}
use Rattle.dt_calls.specs.InCode.{machines_at_home}
use Rattle.dt_engine.specs.declared.state.State.{State}
use Rattle.dt_engine.specs.inner.InCode.{Stops}
pub use Rattle.dt_engine.specs.InPlay.{steps_left}

-- the machine of a process of the queue is at home, a stop is noted of it, and its pid was given
pub record IsPlaced (machines : Machines) (stops : Stops) (next : ℕ) (p : Process) : Type 0 where
  pub home : IsSome (get machines p.vpid)
  pub noted : IsSome (get stops p.vpid)
  pub given : p.vpid < next

-- so it is with a process of a run
abbrev pub IsPlacedIn : State → Process → Type 0
IsPlacedIn s p = IsPlaced (machines_at_home s.container.places) s.stops s.container.shared.pids.next p

-- so it is with each process of the queue
pub record IsGood (s : State) : Type 0 where
  pub placed : AllByRecursion (IsPlacedIn s) s.core.queue
