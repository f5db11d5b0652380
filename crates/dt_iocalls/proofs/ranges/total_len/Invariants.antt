use Rattle.std.proofs.Common.{◌≡◌, ◌-◌, ◌^◌, take, min}
use Rattle.dt_iocalls.specs.Ranges.{total_len}
use Rattle.dt_iocalls.proofs.ranges.total_len.Given as goal

abbrev pub invariant-loop-range : goal.invariant-loop-range
invariant-loop-range l = l.total ≡ min (total_len (take l.range-index l.ranges)) (2 ^ 64 - 1)
