use Rattle.std.proofs.Common.{arith, ◌++◌, ap, ◌∙◌}
use Rattle.dt_iocalls.proofs.Pieces.{partly-more, partly-missed, partly-end}
use Rattle.dt_iocalls.proofs.ranges.gather_piece.Goals as goal

pub unreachable-requires : goal.unreachable-requires
unreachable-requires c =
    let error = c.in-Err-Miss.ensures.error in
    let missed = rw c.in-Err-Miss.field-0-is at error in
    partly-missed c.args.space.now c.args.ranges.now c.loop-range.range-index _ c.args.offset c.args.count c.loop-range.skip c.loop-range.left c.min-skipped.result c.min-len.result c.loop-range.piece.items
    c.loop-range-test.true (omega arith) c.min-skipped.ensures c.min-len.ensures c.loop-range.invariant c.in-Err-Miss.field-0-0 missed

pub loop-range-preserved : goal.loop-range-preserved
loop-range-preserved c =
    partly-more c.args.space.now c.args.ranges.now c.loop-range.range-index _ c.args.offset c.args.count c.loop-range.skip c.loop-range.left c.min-skipped.result c.min-len.result c.loop-range.piece.items
    c.loop-range-test.true (omega arith) c.min-skipped.ensures c.min-len.ensures c.loop-range.invariant c.in-Ok.bytes.items _ c.in-Ok.ensures.bytes
    (c.in_ok-extend_from_slice-in-Ok.ensures.items ∙ ap (λ bytes. c.loop-range.piece.items ++ bytes) c.deref.ensures.value)

pub returns : goal.returns
returns c = partly-end c.args.space.now c.args.ranges.now c.loop-range.range-index c.args.offset c.args.count c.loop-range.skip c.loop-range.left c.loop-range.piece.items c.loop-range-test.false c.loop-range.invariant
