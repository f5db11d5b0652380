-- Inner words: no public clause cites these. What lets the code reach a register without a test.
use Rattle.std.specs.Prelude.{◌≡◌, ℕ, ◌<◌, ⊤, slice_index, slice_set}
use Rattle.dt_rv64.specs.declared.instruction.Instr.{Instr}
use Rattle.dt_rv64.specs.declared.instruction.Instr.TheVariants.{Lui, Auipc, Jal, Jalr, Beq, Bne, Blt, Bge, Bltu, Bgeu, Lb, Lh, Lw, Ld, Lbu, Lhu, Lwu, Sb, Sh, Sw, Sd, Addi, Slti, Sltiu, Xori, Ori, Andi, Slli, Srli, Srai, Add, Sub, Sll, Slt, Sltu, Xor, Srl, Sra, Or, And, Mul, Mulh, Mulhsu, Mulhu, Div, Divu, Rem, Remu, Addiw, Slliw, Srliw, Sraiw, Addw, Subw, Sllw, Srlw, Sraw, Mulw, Divw, Divuw, Remw, Remuw, LrW, ScW, AmoswapW, AmoaddW, AmoxorW, AmoandW, AmoorW, AmominW, AmomaxW, AmominuW, AmomaxuW, LrD, ScD, AmoswapD, AmoaddD, AmoxorD, AmoandD, AmoorD, AmominD, AmomaxD, AmominuD, AmomaxuD, Fence, Ecall, Ebreak, ReadCounter, Unknown}
use Rattle.dt_rv64.specs.declared.machine.Machine.{Machine}

-- 0 is kept for register 0, which reads as 0 whatever is kept
abbrev pub HasZero : Machine → Type 0
HasZero m = slice_index m.regs 0 ≡ 0

-- the machine with another number kept for register 0, which reads as 0 all the same
abbrev pub with_register_zero : ℕ → Machine → Machine
with_register_zero value m = record m { regs = slice_set m.regs 0 value }

-- the registers that a step of an instruction reads and writes are among the 32; a counter's is written later
abbrev pub HasRegisters : Instr → Type 0
HasRegisters (Lui rd immediate) = rd < 32
HasRegisters (Auipc rd immediate) = rd < 32
HasRegisters (Jal rd immediate) = rd < 32
HasRegisters (Jalr rd rs1 immediate) = (rd < 32) × (rs1 < 32)
HasRegisters (Beq rs1 rs2 immediate) = (rs1 < 32) × (rs2 < 32)
HasRegisters (Bne rs1 rs2 immediate) = (rs1 < 32) × (rs2 < 32)
HasRegisters (Blt rs1 rs2 immediate) = (rs1 < 32) × (rs2 < 32)
HasRegisters (Bge rs1 rs2 immediate) = (rs1 < 32) × (rs2 < 32)
HasRegisters (Bltu rs1 rs2 immediate) = (rs1 < 32) × (rs2 < 32)
HasRegisters (Bgeu rs1 rs2 immediate) = (rs1 < 32) × (rs2 < 32)
HasRegisters (Lb rd rs1 immediate) = (rd < 32) × (rs1 < 32)
HasRegisters (Lh rd rs1 immediate) = (rd < 32) × (rs1 < 32)
HasRegisters (Lw rd rs1 immediate) = (rd < 32) × (rs1 < 32)
HasRegisters (Ld rd rs1 immediate) = (rd < 32) × (rs1 < 32)
HasRegisters (Lbu rd rs1 immediate) = (rd < 32) × (rs1 < 32)
HasRegisters (Lhu rd rs1 immediate) = (rd < 32) × (rs1 < 32)
HasRegisters (Lwu rd rs1 immediate) = (rd < 32) × (rs1 < 32)
HasRegisters (Sb rs1 rs2 immediate) = (rs1 < 32) × (rs2 < 32)
HasRegisters (Sh rs1 rs2 immediate) = (rs1 < 32) × (rs2 < 32)
HasRegisters (Sw rs1 rs2 immediate) = (rs1 < 32) × (rs2 < 32)
HasRegisters (Sd rs1 rs2 immediate) = (rs1 < 32) × (rs2 < 32)
HasRegisters (Addi rd rs1 immediate) = (rd < 32) × (rs1 < 32)
HasRegisters (Slti rd rs1 immediate) = (rd < 32) × (rs1 < 32)
HasRegisters (Sltiu rd rs1 immediate) = (rd < 32) × (rs1 < 32)
HasRegisters (Xori rd rs1 immediate) = (rd < 32) × (rs1 < 32)
HasRegisters (Ori rd rs1 immediate) = (rd < 32) × (rs1 < 32)
HasRegisters (Andi rd rs1 immediate) = (rd < 32) × (rs1 < 32)
HasRegisters (Slli rd rs1 shift) = (rd < 32) × (rs1 < 32)
HasRegisters (Srli rd rs1 shift) = (rd < 32) × (rs1 < 32)
HasRegisters (Srai rd rs1 shift) = (rd < 32) × (rs1 < 32)
HasRegisters (Add rd rs1 rs2) = (rd < 32) × (rs1 < 32) × (rs2 < 32)
HasRegisters (Sub rd rs1 rs2) = (rd < 32) × (rs1 < 32) × (rs2 < 32)
HasRegisters (Sll rd rs1 rs2) = (rd < 32) × (rs1 < 32) × (rs2 < 32)
HasRegisters (Slt rd rs1 rs2) = (rd < 32) × (rs1 < 32) × (rs2 < 32)
HasRegisters (Sltu rd rs1 rs2) = (rd < 32) × (rs1 < 32) × (rs2 < 32)
HasRegisters (Xor rd rs1 rs2) = (rd < 32) × (rs1 < 32) × (rs2 < 32)
HasRegisters (Srl rd rs1 rs2) = (rd < 32) × (rs1 < 32) × (rs2 < 32)
HasRegisters (Sra rd rs1 rs2) = (rd < 32) × (rs1 < 32) × (rs2 < 32)
HasRegisters (Or rd rs1 rs2) = (rd < 32) × (rs1 < 32) × (rs2 < 32)
HasRegisters (And rd rs1 rs2) = (rd < 32) × (rs1 < 32) × (rs2 < 32)
HasRegisters (Mul rd rs1 rs2) = (rd < 32) × (rs1 < 32) × (rs2 < 32)
HasRegisters (Mulh rd rs1 rs2) = (rd < 32) × (rs1 < 32) × (rs2 < 32)
HasRegisters (Mulhsu rd rs1 rs2) = (rd < 32) × (rs1 < 32) × (rs2 < 32)
HasRegisters (Mulhu rd rs1 rs2) = (rd < 32) × (rs1 < 32) × (rs2 < 32)
HasRegisters (Div rd rs1 rs2) = (rd < 32) × (rs1 < 32) × (rs2 < 32)
HasRegisters (Divu rd rs1 rs2) = (rd < 32) × (rs1 < 32) × (rs2 < 32)
HasRegisters (Rem rd rs1 rs2) = (rd < 32) × (rs1 < 32) × (rs2 < 32)
HasRegisters (Remu rd rs1 rs2) = (rd < 32) × (rs1 < 32) × (rs2 < 32)
HasRegisters (Addiw rd rs1 immediate) = (rd < 32) × (rs1 < 32)
HasRegisters (Slliw rd rs1 shift) = (rd < 32) × (rs1 < 32)
HasRegisters (Srliw rd rs1 shift) = (rd < 32) × (rs1 < 32)
HasRegisters (Sraiw rd rs1 shift) = (rd < 32) × (rs1 < 32)
HasRegisters (Addw rd rs1 rs2) = (rd < 32) × (rs1 < 32) × (rs2 < 32)
HasRegisters (Subw rd rs1 rs2) = (rd < 32) × (rs1 < 32) × (rs2 < 32)
HasRegisters (Sllw rd rs1 rs2) = (rd < 32) × (rs1 < 32) × (rs2 < 32)
HasRegisters (Srlw rd rs1 rs2) = (rd < 32) × (rs1 < 32) × (rs2 < 32)
HasRegisters (Sraw rd rs1 rs2) = (rd < 32) × (rs1 < 32) × (rs2 < 32)
HasRegisters (Mulw rd rs1 rs2) = (rd < 32) × (rs1 < 32) × (rs2 < 32)
HasRegisters (Divw rd rs1 rs2) = (rd < 32) × (rs1 < 32) × (rs2 < 32)
HasRegisters (Divuw rd rs1 rs2) = (rd < 32) × (rs1 < 32) × (rs2 < 32)
HasRegisters (Remw rd rs1 rs2) = (rd < 32) × (rs1 < 32) × (rs2 < 32)
HasRegisters (Remuw rd rs1 rs2) = (rd < 32) × (rs1 < 32) × (rs2 < 32)
HasRegisters (LrW rd rs1) = (rd < 32) × (rs1 < 32)
HasRegisters (ScW rd rs1 rs2) = (rd < 32) × (rs1 < 32) × (rs2 < 32)
HasRegisters (AmoswapW rd rs1 rs2) = (rd < 32) × (rs1 < 32) × (rs2 < 32)
HasRegisters (AmoaddW rd rs1 rs2) = (rd < 32) × (rs1 < 32) × (rs2 < 32)
HasRegisters (AmoxorW rd rs1 rs2) = (rd < 32) × (rs1 < 32) × (rs2 < 32)
HasRegisters (AmoandW rd rs1 rs2) = (rd < 32) × (rs1 < 32) × (rs2 < 32)
HasRegisters (AmoorW rd rs1 rs2) = (rd < 32) × (rs1 < 32) × (rs2 < 32)
HasRegisters (AmominW rd rs1 rs2) = (rd < 32) × (rs1 < 32) × (rs2 < 32)
HasRegisters (AmomaxW rd rs1 rs2) = (rd < 32) × (rs1 < 32) × (rs2 < 32)
HasRegisters (AmominuW rd rs1 rs2) = (rd < 32) × (rs1 < 32) × (rs2 < 32)
HasRegisters (AmomaxuW rd rs1 rs2) = (rd < 32) × (rs1 < 32) × (rs2 < 32)
HasRegisters (LrD rd rs1) = (rd < 32) × (rs1 < 32)
HasRegisters (ScD rd rs1 rs2) = (rd < 32) × (rs1 < 32) × (rs2 < 32)
HasRegisters (AmoswapD rd rs1 rs2) = (rd < 32) × (rs1 < 32) × (rs2 < 32)
HasRegisters (AmoaddD rd rs1 rs2) = (rd < 32) × (rs1 < 32) × (rs2 < 32)
HasRegisters (AmoxorD rd rs1 rs2) = (rd < 32) × (rs1 < 32) × (rs2 < 32)
HasRegisters (AmoandD rd rs1 rs2) = (rd < 32) × (rs1 < 32) × (rs2 < 32)
HasRegisters (AmoorD rd rs1 rs2) = (rd < 32) × (rs1 < 32) × (rs2 < 32)
HasRegisters (AmominD rd rs1 rs2) = (rd < 32) × (rs1 < 32) × (rs2 < 32)
HasRegisters (AmomaxD rd rs1 rs2) = (rd < 32) × (rs1 < 32) × (rs2 < 32)
HasRegisters (AmominuD rd rs1 rs2) = (rd < 32) × (rs1 < 32) × (rs2 < 32)
HasRegisters (AmomaxuD rd rs1 rs2) = (rd < 32) × (rs1 < 32) × (rs2 < 32)
HasRegisters Fence = ⊤
HasRegisters Ecall = ⊤
HasRegisters Ebreak = ⊤
HasRegisters (ReadCounter rd counter) = ⊤
HasRegisters Unknown = ⊤
