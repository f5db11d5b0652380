-- A segment leaves the machine of a job well formed, also one that was cut short.
use Rattle.std.proofs.Common.{◌≡◌, Option, None, Some, Result, Ok, Err, is_some, true, true≢false, sym, subst}
use Rattle.dt_base.specs.declared.memory.NoMemory.{NoMemory}
use Rattle.dt_rv64.specs.declared.machine.Machine.{Machine}
use Rattle.dt_rv64.specs.declared.segments.Seg.{Seg}
use Rattle.dt_rv64.specs.Segment.{SegmentRun}
use Rattle.dt_rv64.specs.Valid.{IsMachine}
use Rattle.dt_rv64.proofs.Kept.{segment-keeps, cut-keeps}
use Rattle.dt_board.specs.Job.{IsJob}

pub job-keeps : (start machine : Machine) (outcome : Option (Result Seg NoMemory)) → IsJob start machine outcome → is_some outcome ≡ true → IsMachine start → IsMachine machine
job-keeps start machine None job ran is = absurd (true≢false (sym ran))
job-keeps start machine (Some (Ok seg)) job ran is = subst (λ (run : SegmentRun). IsMachine run.machine) job (segment-keeps start is)
job-keeps start machine (Some (Err wanting)) job ran is = cut-keeps start machine job is
