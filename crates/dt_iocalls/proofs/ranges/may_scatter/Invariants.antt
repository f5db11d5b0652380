use Rattle.std.proofs.Common.{◌≡◌, drop}
use Rattle.dt_iocalls.proofs.Scattering.{looked}
use Rattle.dt_iocalls.proofs.ranges.may_scatter.Given as goal

abbrev pub invariant-loop-range : goal.invariant-loop-range
invariant-loop-range l = looked l.space l.ranges l.bytes ≡ looked l.space (drop l.range-index l.ranges) l.left
