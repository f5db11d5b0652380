use Rattle.dt_iocalls.proofs.Scattering.{scattered-more, scattered-missed, scattered-end}
use Rattle.dt_iocalls.proofs.ranges.put.Goals as goal

pub unreachable-requires : goal.unreachable-requires
unreachable-requires c =
    let stored = c.in-Err-Miss.ensures.stored in
    let missed = rw c.in-Err-Miss.field-0-is at stored in
    scattered-missed c.loop-range.space _ c.args.ranges.now c.loop-range.range-index _ c.loop-range.left.now c.divided.result.0.now c.in-Err-Miss.field-0-0
    c.loop-range-test.true c.divided.ensures.first missed c.loop-range.invariant c.requires

pub loop-range-preserved : goal.loop-range-preserved
loop-range-preserved c =
    scattered-more c.loop-range.space c.write_bytes.new.self _ c.args.ranges.now c.loop-range.range-index _ c.loop-range.left.now c.divided.result.0.now c.divided.result.1.now
    c.loop-range-test.true c.divided.ensures.first c.divided.ensures.rest c.in-Ok.ensures.stored c.loop-range.invariant

pub returns : goal.returns
returns c = scattered-end c.loop-range.space _ c.args.ranges.now c.loop-range.range-index c.loop-range.left.now c.loop-range-test.false c.loop-range.invariant
