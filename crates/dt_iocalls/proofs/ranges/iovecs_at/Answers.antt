use Rattle.std.proofs.Common.{sym, ◌∙◌}
use Rattle.dt_iocalls.proofs.Vectors.{iovecs-more, iovecs-refused}
use Rattle.dt_iocalls.proofs.ranges.iovecs_at.Goals as goal

pub returns-in-Err : goal.returns-in-Err
returns-in-Err c =
    iovecs-refused c.args.space.now _ c.loop-index.next c.args.count c.loop-index._index c.loop-index.ranges.items c.in-Err.errno
    c.loop-index-test.true (sym c.iovec_at.ensures ∙ c.in-Err.is) c.loop-index.invariant

pub loop-index-preserved : goal.loop-index-preserved
loop-index-preserved c =
    iovecs-more c.args.space.now _ c.loop-index.next c.args.count c.loop-index._index c.loop-index.ranges.items _ c.in-Ok.range
    c.loop-index-test.true (sym c.iovec_at.ensures ∙ c.in-Ok.is) c.in_ok-push-in-Ok.ensures.items c.loop-index.invariant
