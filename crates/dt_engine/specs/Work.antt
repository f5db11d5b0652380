-- A live process's work, which nothing but its own turns sees.
use Rattle.std.specs.Prelude.{ℕ, max}
use Rattle.std.specs.Ordering.{nat_cmp}
use Rattle.std.specs.FinMap.{FinMap}
use Rattle.dt_rv64.specs.declared.machine.Machine.{Machine}
use Rattle.dt_rv64.specs.declared.segments.Seg.{Seg}
use Rattle.dt_rv64.specs.declared.segments.Stop.{Stop}
use Rattle.dt_rv64.specs.declared.segments.Stop.TheVariants.{Call}
use Rattle.dt_rv64.specs.Segment.{SegmentRun, segment_of}
use Rattle.dt_sched.specs.declared.process.Phase.{Phase}
use Rattle.dt_sched.specs.declared.process.Phase.TheVariants.{Owes, Ran, Waits}

-- its machine, and where it stands: of a segment that was run its count and its stop are known
pub record Work : Type 0 where
  pub machine : Machine
  pub phase : Phase Seg

-- the works at home, by pid: a live process that has none here owes a segment, and its machine is away
abbrev pub Works : Type 0
Works = FinMap nat_cmp Work

-- a process that owes a segment
abbrev pub owing_work : Machine → Work
owing_work m = record { machine = m; phase = Owes }

-- a process whose machine has just run a segment
abbrev pub work_after_segment : SegmentRun → Work
work_after_segment r = record { machine = r.machine; phase = Ran (record { count = r.count; stop = r.stop }) }

-- a process that is prepared for its turn: its work, with the segment run that it owed, the stop that is to be served, and what
-- the turn costs
pub record Prepared : Type 0 where
  pub work : Work
  pub stop : Stop
  pub cost : ℕ

-- once a segment was run its stop is to be served, and its steps are the cost. They are at least 1, so that `max` changes no
-- cost of a run
abbrev pub prepared_by : Work → Seg → Prepared
prepared_by w seg = record { work = w; stop = seg.stop; cost = max 1 seg.count }

-- by where the process stands: a segment that is owed is run; a call that waits is tried again, which costs 1
abbrev pub prepared_in : Work → Phase Seg → Prepared
prepared_in w Owes =
    let r = segment_of w.machine in prepared_by (work_after_segment r) (record { count = r.count; stop = r.stop })
prepared_in w (Ran seg) = prepared_by w seg
prepared_in w Waits = record { work = w; stop = Call; cost = 1 }

-- a process prepared for its turn
unfoldable pub prepared_of : Work → Prepared
prepared_of w = prepared_in w w.phase

-- a process with its segment run, where it owes one
unfoldable pub with_segment : Work → Work
with_segment w = let d = prepared_of w in d.work
