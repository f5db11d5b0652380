use Rattle.dt_iocalls.proofs.Scattering.{looked-more, looked-missed, looked-end}
use Rattle.dt_iocalls.proofs.ranges.may_scatter.Goals as goal

pub returns-in-Err : goal.returns-in-Err
returns-in-Err c =
    looked-missed c.args.space.now c.args.ranges.now c.loop-range.range-index _ c.args.bytes.now c.loop-range.left.now c.divided.result.0.now c.in-Err.miss
    c.loop-range-test.true c.divided.ensures.first c.in-Err.ensures c.loop-range.invariant

pub loop-range-preserved : goal.loop-range-preserved
loop-range-preserved c =
    looked-more c.args.space.now _ c.args.ranges.now c.loop-range.range-index _ c.loop-range.left.now c.divided.result.0.now c.divided.result.1.now
    c.loop-range-test.true c.divided.ensures.first c.divided.ensures.rest c.in_default.ensures c.loop-range.invariant

pub returns : goal.returns
returns c = looked-end c.args.space.now c.args.ranges.now c.loop-range.range-index c.args.bytes.now c.loop-range.left.now c.loop-range-test.false c.loop-range.invariant
