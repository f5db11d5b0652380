use Rattle.std.proofs.Common.{◌≡◌, ◌-◌, take, drop}
use Rattle.dt_base.specs.Bytes.{with_bytes_at}
use Rattle.dt_signals.specs.declared.numbers.TheConstants.{FRAME_REGISTERS}
use Rattle.dt_elf.specs.Stack.{word_bytes}
use Rattle.dt_signals.proofs.frame.put_registers.Given as goal

abbrev pub invariant-loop-index : goal.invariant-loop-index
invariant-loop-index l = l.frame ≡ with_bytes_at l.fn.frame FRAME_REGISTERS (word_bytes (take (l.index - 1) (drop 1 l.registers)))
