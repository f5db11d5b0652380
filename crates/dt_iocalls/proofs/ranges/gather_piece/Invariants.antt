use Rattle.std.proofs.Common.{drop}
use Rattle.dt_iocalls.proofs.Pieces.{IsPartly}
use Rattle.dt_iocalls.proofs.ranges.gather_piece.Given as goal

abbrev pub invariant-loop-range : goal.invariant-loop-range
invariant-loop-range l = IsPartly l.space l.ranges (drop l.range-index l.ranges) l.offset l.count l.skip l.left l.piece.items
