use Rattle.std.proofs.Common.{◌-◌, arith}
use Rattle.dt_elf.proofs.Segments.{table-end, table-next}
use Rattle.dt_elf.proofs.elf.table_address.Goals as goal

pub loop-index-init : goal.loop-index-init
loop-index-init c = (omega arith, table-end c.args.bytes.now c.args.segments.now)

pub loop-index-preserved : goal.loop-index-preserved
loop-index-preserved c = (omega arith, table-next c.args.bytes.now c.args.segments.now c.loop-index.index (c.loop-index.index - 1) c.loop-index.address c.table_address_or-address.result _ (omega arith) c.loop-index.invariant.0 c.loop-index.invariant.1 c.table_address_or-address.ensures)
