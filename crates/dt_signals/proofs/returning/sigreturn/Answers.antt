use Rattle.dt_signals.proofs.Kept.{AreRegisters, read-keeps}
use Rattle.dt_signals.proofs.returning.sigreturn.Goals as goal

pub returns-clause-sound : goal.returns-clause-sound
returns-clause-sound c =
    λ is.
    let are : AreRegisters c.registers_in-machine.result = read-keeps _ _ c.registers_in-machine.ensures.registers c.registers_in-machine.ensures.words in
    record { registers = are.registers; words = are.words; zero = are.zero; counter = c.word_in-machine.type_inv; space = is.space; pair = tt }
