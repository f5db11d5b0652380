use Rattle.std.proofs.Common.{◌<◌, Err, length, ap, arith}
use Rattle.dt_image.proofs.Sorting.{no_entry}
use Rattle.dt_host.proofs.Asking.{passed_on}
use Rattle.dt_image.proofs.Measures.{missing_at}
use Rattle.dt_image.proofs.blobs.measure.Goals as goal

pub returns-in_err-measure_one-clause-refused : goal.returns-in_err-measure_one-clause-refused
returns-in_err-measure_one-clause-refused g c = λ r is.
    let within : c.loop-entry.entry-index < length c.args.order.now = omega arith in
    let lacks = c.in_err-measure_one.ensures.refused r (ap Err (passed_on _ _ _ c.from_residual.ensures.1 is)) in
    (lacks.0, missing_at _ _ c.args.folder.now c.args.order.now c.loop-entry.entry-index no_entry within c.loop-entry.invariant.stays lacks.1)
