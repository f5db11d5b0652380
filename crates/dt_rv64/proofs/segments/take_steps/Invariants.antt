use Rattle.std.proofs.Common.{◌-◌, ◌≡◌}
use Rattle.dt_base.specs.declared.limits.TheConstants.{SEGMENT_LIMIT}
use Rattle.dt_rv64.specs.Segment.{segment_of, bounded_segment}
use Rattle.dt_rv64.specs.inner.Registers.{HasZero}
use Rattle.dt_rv64.proofs.Runs.{HasRun}
use Rattle.dt_rv64.proofs.segments.take_steps.Given as goal

abbrev pub invariant-loop-made : goal.invariant-loop-made
invariant-loop-made l = record {
  whole : segment_of l.fn.machine ≡ bounded_segment (SEGMENT_LIMIT - l.made) l.made l.machine;
  run : HasRun l.fn.machine l.machine l.made;
  zero : HasZero l.machine;
}
