use Rattle.std.proofs.Common.{◌≡◌, ◌-◌}
use Rattle.dt_iocalls.specs.Ranges.{iovecs_at}
use Rattle.dt_iocalls.proofs.Vectors.{after}
use Rattle.dt_iocalls.proofs.ranges.iovecs_at.Given as goal

abbrev pub invariant-loop-index : goal.invariant-loop-index
invariant-loop-index l = iovecs_at l.space l.at l.count ≡ after l.ranges.items (iovecs_at l.space l.next (l.count - l._index))
