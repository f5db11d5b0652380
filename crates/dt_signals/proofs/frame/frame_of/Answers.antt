use Rattle.std.proofs.Common.{◌≡◌, ◌+◌, ◌∙◌, length, drop, arith}
use Rattle.dt_signals.specs.declared.numbers.TheConstants.{FRAME_SIZE, FRAME_PC, FRAME_REGISTERS, FRAME_MASK, SIGNO_SIZE}
use Rattle.dt_elf.specs.Stack.{word_bytes}
use Rattle.dt_signals.proofs.Frames.{frame-written, IsBytes-frame}
use Rattle.dt_signals.proofs.frame.frame_of.Goals as goal

pub returns-clause-frame : goal.returns-clause-frame
returns-clause-frame c =
    let registers = word_bytes (drop 1 c.args.machine.now.regs) in
    let long : FRAME_REGISTERS + length registers ≡ FRAME_MASK = c.put_registers.ensures.up_to_mask in
    c.put64-2.ensures ∙ rw (c.put_registers.ensures.put, c.put64.ensures, c.put32.ensures, c.from.ensures) (frame-written c.args.signal c.args.machine.now.pc c.args.mask SIGNO_SIZE FRAME_PC FRAME_REGISTERS FRAME_MASK FRAME_SIZE registers (omega arith) (omega arith) long (omega arith))

pub returns-clause-bytes : goal.returns-clause-bytes
returns-clause-bytes c = rw (returns-clause-frame c) (IsBytes-frame c.args.signal c.args.mask c.args.machine.now)
