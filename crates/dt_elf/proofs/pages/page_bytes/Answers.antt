use Rattle.std.proofs.Common.{◌*◌, ◌-◌, arith}
use Rattle.dt_base.specs.declared.limits.TheConstants.{PAGE_SIZE}
use Rattle.dt_elf.proofs.Touched.{bytes-end, bytes-more}
use Rattle.dt_elf.proofs.pages.page_bytes.Goals as goal

pub loop-index-init : goal.loop-index-init
loop-index-init c = (omega arith, bytes-end c.args.segments.now c.args.bytes.now (PAGE_SIZE * c.args.number) PAGE_SIZE)

pub loop-index-preserved : goal.loop-index-preserved
loop-index-preserved c = (omega arith, bytes-more c.args.segments.now c.args.bytes.now c.loop-index.page c.put_in.new.page (PAGE_SIZE * c.args.number) PAGE_SIZE c.loop-index.index (c.loop-index.index - 1) _ (omega arith) c.loop-index.invariant.0 c.put_in.array_long c.loop-index.invariant.1 c.put_in.ensures)
