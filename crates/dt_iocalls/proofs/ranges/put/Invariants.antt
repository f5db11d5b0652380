use Rattle.std.proofs.Common.{◌≡◌, drop}
use Rattle.dt_iocalls.specs.Ranges.{scattered_pages}
use Rattle.dt_iocalls.proofs.ranges.put.Given as goal

abbrev pub invariant-loop-range : goal.invariant-loop-range
invariant-loop-range l = scattered_pages l.fn.space l.ranges l.bytes ≡ scattered_pages l.space (drop l.range-index l.ranges) l.left
