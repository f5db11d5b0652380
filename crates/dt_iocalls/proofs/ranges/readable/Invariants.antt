use Rattle.std.proofs.Common.{drop}
use Rattle.dt_iocalls.proofs.Pieces.{FollowsRest}
use Rattle.dt_iocalls.proofs.ranges.readable.Given as goal

abbrev pub invariant-loop-range : goal.invariant-loop-range
invariant-loop-range l = FollowsRest l.space l.ranges (drop l.range-index l.ranges)
