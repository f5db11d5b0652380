use Rattle.dt_iocalls.proofs.Pieces.{readable-more, readable-missed, readable-end}
use Rattle.dt_iocalls.proofs.ranges.readable.Goals as goal

pub returns-in-Err : goal.returns-in-Err
returns-in-Err c =
    readable-missed c.args.space.now c.args.ranges.now c.loop-range.range-index _ c.loop-range-test.true c.loop-range.invariant c.in-Err.miss c.in-Err.ensures

pub loop-range-preserved : goal.loop-range-preserved
loop-range-preserved c =
    readable-more c.args.space.now c.args.ranges.now c.loop-range.range-index _ c.loop-range-test.true c.loop-range.invariant c.in_default.ensures

pub returns : goal.returns
returns c = readable-end c.args.space.now c.args.ranges.now c.loop-range.range-index c.loop-range-test.false c.loop-range.invariant
