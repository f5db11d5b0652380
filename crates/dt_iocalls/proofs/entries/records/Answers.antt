use Rattle.std.proofs.Common.{◌∙◌, sym}
use Rattle.dt_iocalls.proofs.Records.{dirents-on, dirents-end}
use Rattle.dt_iocalls.proofs.entries.records.Goals as goal

pub loop-entry-preserved : goal.loop-entry-preserved
loop-entry-preserved c =
    rw (c.in_ok-add_record.ensures) (dirents-on c.args.entries.now c.loop-entry.entry-index c.entry-item.result c.loop-entry.bytes.items c.loop-entry-test.true c.entry-item.is ∙ c.loop-entry.invariant)

pub returns : goal.returns
returns c = sym (dirents-end c.args.entries.now c.loop-entry.entry-index c.loop-entry.bytes.items c.loop-entry-test.false) ∙ c.loop-entry.invariant
