use Rattle.std.proofs.Common.{arith}
use Rattle.dt_elf.specs.declared.layout.TheConstants.{TRAMPOLINE}
use Rattle.dt_space.specs.Space.{IsSpace}
use Rattle.dt_signals.proofs.Kept.{registers-of, set-keeps}
use Rattle.dt_signals.proofs.Stored.{Stores-space}
use Rattle.dt_signals.proofs.delivery.enter.Goals as goal

pub returns-clause-sound : goal.returns-clause-sound
returns-clause-sound c =
    λ is.
    let m = c.args.machine.now in
    let sp = set-keeps m.regs c.from.result c.frame_address-at.result (omega arith) (omega arith) (registers-of m is) in
    let ra = set-keeps _ c.from-2.result TRAMPOLINE (omega arith) (omega arith) sp in
    let a0 = set-keeps _ c.from-4.result c.from-3.result (omega arith) (omega arith) ra in
    let a1 = set-keeps _ c.from-5.result c.frame_address-at.result (omega arith) (omega arith) a0 in
    let a2 = set-keeps _ c.from-6.result 0 (omega arith) (omega arith) a1 in
    let sound : IsSpace c.write_bytes.new.self = Stores-space _ _ _ _ _ c.frame_of-frame.ensures.bytes is.space c.write_bytes.ensures.stored c.write_bytes.ensures.kept in
    record { registers = a2.registers; words = a2.words; zero = a2.zero; counter = omega arith; space = sound; pair = tt }
