use Rattle.std.proofs.Common.{arith, subst, sym}
use Rattle.std.proofs.lemmas.Grind.{common_steps}
use Rattle.dt_rv64.specs.inner.Registers.{HasRegisters}
use Rattle.dt_rv64.proofs.Registers.{instr-within}
use Rattle.dt_rv64.proofs.memo.Memo.instruction.Goals as goal

pub returns-clause-is : goal.returns-clause-is
returns-clause-is c = grind (arith, common_steps)

-- so the registers are those of a decoded word
pub returns-clause-registers : goal.returns-clause-registers
returns-clause-registers c = subst HasRegisters (sym (returns-clause-is c)) (instr-within _)
