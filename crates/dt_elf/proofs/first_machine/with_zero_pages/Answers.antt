use Rattle.std.proofs.Common.{◌∙◌, ◌+◌}
use Rattle.dt_space.specs.declared.access.TheConstants.{READ, WRITE}
use Rattle.dt_elf.proofs.ZeroPages.{mapped-above}
use Rattle.dt_elf.proofs.first_machine.with_zero_pages.Goals as goal

pub returns-in-Ok : goal.returns-in-Ok
returns-in-Ok c = c.in-Ok.ensures.mapped ∙ mapped-above c.args.space c.args.first c.args.count (READ + WRITE) c.requires.above
