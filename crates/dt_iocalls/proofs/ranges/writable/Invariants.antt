use Rattle.std.proofs.Common.{◌≡◌, drop}
use Rattle.dt_iocalls.proofs.Scattering.{filled}
use Rattle.dt_iocalls.proofs.ranges.writable.Given as goal

abbrev pub invariant-loop-range : goal.invariant-loop-range
invariant-loop-range l = filled l.space l.ranges ≡ filled l.space (drop l.range-index l.ranges)
