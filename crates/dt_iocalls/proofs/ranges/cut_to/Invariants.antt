use Rattle.std.proofs.Common.{◌≡◌, ◌++◌, take, drop}
use Rattle.dt_iocalls.specs.Ranges.{cut_to}
use Rattle.dt_iocalls.proofs.ranges.cut_to.Given as goal

abbrev pub invariant-loop-range : goal.invariant-loop-range
invariant-loop-range l = cut_to l.limit l.fn.ranges ≡ take l.range-index l.ranges ++ cut_to l.left (drop l.range-index l.ranges)
