-- Registers that were written are a machine's.
use Rattle.std.proofs.Common.{◌≡◌, ℕ, suc, ◌<◌, ◌≤◌, ◌^◌, List, ◌∷◌, length, get_or, set, ap, ◌∙◌, arith}
use Rattle.std.proofs.lemmas.List.{length-set, get_or-set_other}
use Rattle.dt_rv64.specs.declared.machine.Machine.{Machine}
use Rattle.dt_rv64.specs.Valid.{IsMachine}
use Rattle.dt_rv64.proofs.Kept.{words-set}
use Rattle.dt_signals.specs.declared.numbers.TheConstants.{FRAME_REGISTERS}
use Rattle.dt_signals.specs.Frame.{words_in}
use Rattle.dt_signals.proofs.Frames.{length-words_in}

-- 32 registers below 2^64, the first 0
pub record AreRegisters (regs : List ℕ) : Type 0 where
  pub registers : length regs ≡ 32
  pub words : (i : ℕ) → get_or regs i 0 < 2 ^ 64
  pub zero : get_or regs 0 0 ≡ 0

pub registers-of : (m : Machine) → IsMachine m → AreRegisters m.regs
registers-of m is = record { registers = is.registers; words = is.words; zero = is.zero }

pub set-keeps : (regs : List ℕ) (index value : ℕ) → 1 ≤ index → value < 2 ^ 64 → AreRegisters regs → AreRegisters (set regs index value)
set-keeps regs index value some fits are = record {
  registers = length-set regs index value ∙ are.registers;
  words = λ i. words-set regs index value i are.words fits;
  zero = get_or-set_other regs index 0 value 0 (λ same. omega (arith, same)) ∙ are.zero;
}

pub read-keeps : (regs frame : List ℕ) → regs ≡ 0 ∷ words_in frame FRAME_REGISTERS 31 → ((i : ℕ) → get_or regs i 0 < 2 ^ 64) → AreRegisters regs
read-keeps regs frame is words = record {
  registers = ap length is ∙ ap suc (length-words_in frame 31 FRAME_REGISTERS);
  words = words;
  zero = ap (λ (xs : List ℕ). get_or xs 0 0) is;
}
