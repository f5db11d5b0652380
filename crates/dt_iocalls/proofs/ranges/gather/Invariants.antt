use Rattle.std.proofs.Common.{◌≡◌, drop}
use Rattle.dt_iocalls.specs.Ranges.{gathered_bytes}
use Rattle.dt_iocalls.proofs.Vectors.{after}
use Rattle.dt_iocalls.proofs.ranges.gather.Given as goal

abbrev pub invariant-loop-range : goal.invariant-loop-range
invariant-loop-range l = gathered_bytes l.space l.ranges ≡ after l.bytes.items (gathered_bytes l.space (drop l.range-index l.ranges))
