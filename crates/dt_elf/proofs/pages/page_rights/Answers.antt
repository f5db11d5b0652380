use Rattle.std.proofs.Common.{◌-◌, arith}
use Rattle.dt_elf.proofs.Touched.{rights-end, rights-more}
use Rattle.dt_elf.proofs.pages.page_rights.Goals as goal

pub loop-index-init : goal.loop-index-init
loop-index-init c = (omega arith, rights-end c.args.segments.now c.args.number)

pub loop-index-preserved : goal.loop-index-preserved
loop-index-preserved c = (omega arith, rights-more c.args.segments.now c.args.number c.loop-index.index (c.loop-index.index - 1) c.loop-index.rights c.rights_with-rights.result _ (omega arith) c.loop-index.invariant.0 c.loop-index.invariant.1 c.rights_with-rights.ensures)
