-- Inner words: a machine that comes home.
use Rattle.std.specs.Prelude.{ℕ, Some}
use Rattle.std.specs.FinMap.{insert}
use Rattle.dt_rv64.specs.declared.machine.Machine.{Machine}
use Rattle.dt_rv64.specs.declared.segments.Seg.{Seg}
use Rattle.dt_sched.specs.Core.{core_after_arrival}
use Rattle.dt_engine.specs.declared.state.State.{State}

-- a run after a process's machine came home from its segment, which arrives
abbrev pub with_arrival : State → ℕ → Machine → Seg → State
with_arrival s vpid machine seg = record {
  container = record s.container { places = insert s.container.places vpid (Some machine) };
  core = core_after_arrival vpid seg.count s.core;
  stops = insert s.stops vpid seg.stop;
}
