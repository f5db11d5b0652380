use Rattle.dt_iocalls.proofs.Scattering.{filled-more, filled-missed, filled-end}
use Rattle.dt_iocalls.proofs.ranges.writable.Goals as goal

pub returns-in-Err : goal.returns-in-Err
returns-in-Err c =
    filled-missed c.args.space.now c.args.ranges.now c.loop-range.range-index _ c.in-Err.miss c.loop-range-test.true c.in-Err.ensures c.loop-range.invariant

pub loop-range-preserved : goal.loop-range-preserved
loop-range-preserved c =
    filled-more c.args.space.now _ c.args.ranges.now c.loop-range.range-index _ c.loop-range-test.true c.in_default.ensures c.loop-range.invariant

pub returns : goal.returns
returns c = filled-end c.args.space.now c.args.ranges.now c.loop-range.range-index c.loop-range-test.false c.loop-range.invariant
