use Rattle.std.proofs.Common.{◌≤◌, sym, subst}
use Rattle.dt_base.specs.declared.abi.TheConstants.{TRANSFER_LIMIT}
use Rattle.dt_iocalls.specs.Ranges.{total_len}
use Rattle.dt_iocalls.proofs.Vectors.{few_at}
use Rattle.dt_iocalls.proofs.reading.readv.Goals as goal

pub read_descriptor-requires-clause-few : goal.read_descriptor-requires-clause-few
read_descriptor-requires-clause-few g c =
    let found = rw c.in-Ok.is at c.in_ok-ranges.ensures in
    subst (λ ranges. total_len ranges ≤ TRANSFER_LIMIT) (sym c.deref.ensures.value) (few_at c.args.space.now _ _ c.in-Ok.ranges.items found)
