use Rattle.dt_space.proofs.Numbers.{le-eight}
use Rattle.dt_iocalls.proofs.Records.{record-parts}
use Rattle.dt_iocalls.proofs.entries.add_record.Goals as goal

pub returns : goal.returns
returns c =
    rw (c.in_ok-extend_from_slice-5.ensures.items, c.in_ok-extend_from_slice-4.ensures.items, c.in_ok-push.ensures.items, c.in_ok-extend_from_slice-3.ensures.items, c.in_ok-extend_from_slice-2.ensures.items, c.in_ok-extend_from_slice.ensures.items, c.to_le_bytes.ensures, c.to_le_bytes-2.ensures, le-eight)
    (record-parts c.args.bytes.now.items c.as_slice-name.result.now c.args.entry.now c.record_len-len.result c.as_slice-name.ensures c.record_len-len.ensures.value)
