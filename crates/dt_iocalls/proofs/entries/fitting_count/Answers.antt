use Rattle.std.proofs.Common.{◌≡◌, ap, ◌∙◌, arith}
use Rattle.dt_iocalls.specs.Entries.{record_len, fitting_entries}
use Rattle.dt_iocalls.proofs.Records.{fitting-on, fitting-stop, fitting-end}
use Rattle.dt_iocalls.proofs.entries.fitting_count.Goals as goal

pub returns-then-len-left : goal.returns-then-len-left
returns-then-len-left c =
    let len : c.record_len-len.result ≡ record_len c.index-entries-count.result.name = c.record_len-len.ensures.value ∙ ap record_len c.as_slice.ensures in
    fitting-stop (fitting_entries c.args.room c.args.entries.now) c.args.entries.now c.loop-count.count c.loop-count.left c.index-entries-count.result c.loop-count-test.true c.index-entries-count.is (omega arith) c.loop-count.invariant

pub loop-count-preserved : goal.loop-count-preserved
loop-count-preserved c =
    let len : c.record_len-len.result ≡ record_len c.index-entries-count.result.name = c.record_len-len.ensures.value ∙ ap record_len c.as_slice.ensures in
    rw len (fitting-on (fitting_entries c.args.room c.args.entries.now) c.args.entries.now c.loop-count.count c.loop-count.left c.index-entries-count.result c.loop-count-test.true c.index-entries-count.is (omega arith) c.loop-count.invariant)

pub returns : goal.returns
returns c = fitting-end (fitting_entries c.args.room c.args.entries.now) c.args.entries.now c.loop-count.count c.loop-count.left c.loop-count-test.false c.loop-count.invariant
