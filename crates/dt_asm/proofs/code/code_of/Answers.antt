use Rattle.dt_asm.proofs.Codes.{spells_all}
use Rattle.dt_asm.proofs.code.code_of.Goals as goal

pub returns-clause-spelled : goal.returns-clause-spelled
returns-clause-spelled c = spells_all _ _ _ _ c.loop-item-test.false c.loop-item.invariant.spelled
