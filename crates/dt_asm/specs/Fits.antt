-- The instructions that a word can hold: each field is in its range (RISC-V unprivileged specification, RV32I, "Base
-- Instruction Formats" and "Immediate Encoding Variants").
use Rattle.std.specs.Prelude.{ℕ, ◌-◌, ◌%◌, ◌^◌, ℤ, pos, neg_ℤ, Bool, false, true, ◌&&◌, ◌==◌, nat_lt, nat_le, int_le, int_lt, unsigned_abs}
use Rattle.dt_rv64.specs.declared.instruction.Instr.{Instr}
use Rattle.dt_rv64.specs.declared.instruction.Instr.TheVariants.{Lui, Auipc, Jal, Jalr, Beq, Bne, Blt, Bge, Bltu, Bgeu, Lb, Lh, Lw, Ld, Lbu, Lhu, Lwu, Sb, Sh, Sw, Sd, Addi, Slti, Sltiu, Xori, Ori, Andi, Slli, Srli, Srai, Add, Sub, Sll, Slt, Sltu, Xor, Srl, Sra, Or, And, Mul, Mulh, Mulhsu, Mulhu, Div, Divu, Rem, Remu, Addiw, Slliw, Srliw, Sraiw, Addw, Subw, Sllw, Srlw, Sraw, Mulw, Divw, Divuw, Remw, Remuw, LrW, ScW, AmoswapW, AmoaddW, AmoxorW, AmoandW, AmoorW, AmominW, AmomaxW, AmominuW, AmomaxuW, LrD, ScD, AmoswapD, AmoaddD, AmoxorD, AmoandD, AmoorD, AmominD, AmomaxD, AmominuD, AmomaxuD, Fence, Ecall, Ebreak, ReadCounter, Unknown}

-- a signed number of so many bits
abbrev pub is_signed : ℕ → ℤ → Bool
is_signed bits number = int_le (neg_ℤ (pos (2 ^ (bits - 1)))) number && int_lt number (pos (2 ^ (bits - 1)))

-- a multiple of a step
abbrev pub is_multiple : ℕ → ℤ → Bool
is_multiple step number = unsigned_abs number % step == 0

-- the ranges of the fields

-- the number of a register
abbrev pub is_register : ℕ → Bool
is_register number = nat_lt number 32

-- an immediate of I or S
abbrev pub is_i_immediate : ℤ → Bool
is_i_immediate immediate = is_signed 12 immediate

-- an immediate of B, whose lowest bit no word holds
abbrev pub is_b_immediate : ℤ → Bool
is_b_immediate immediate = is_signed 13 immediate && is_multiple 2 immediate

-- an immediate of U, whose lowest 12 bits no word holds
abbrev pub is_u_immediate : ℤ → Bool
is_u_immediate immediate = is_signed 32 immediate && is_multiple 4096 immediate

-- an immediate of J, whose lowest bit no word holds
abbrev pub is_j_immediate : ℤ → Bool
is_j_immediate immediate = is_signed 21 immediate && is_multiple 2 immediate

-- a counter that can be read: cycle, time or instret
abbrev pub is_counter : ℕ → Bool
is_counter number = nat_le 0xC00 number && nat_le number 0xC02

-- the fields of a format

-- R, as of ADD
abbrev pub are_r_fields : ℕ → ℕ → ℕ → Bool
are_r_fields rd rs1 rs2 = is_register rd && is_register rs1 && is_register rs2

-- I, as of ADDI and LW
abbrev pub are_i_fields : ℕ → ℕ → ℤ → Bool
are_i_fields rd rs1 immediate = is_register rd && is_register rs1 && is_i_immediate immediate

-- S, as of SW
abbrev pub are_s_fields : ℕ → ℕ → ℤ → Bool
are_s_fields rs1 rs2 immediate = is_register rs1 && is_register rs2 && is_i_immediate immediate

-- B, as of BEQ
abbrev pub are_b_fields : ℕ → ℕ → ℤ → Bool
are_b_fields rs1 rs2 immediate = is_register rs1 && is_register rs2 && is_b_immediate immediate

-- U, as of LUI
abbrev pub are_u_fields : ℕ → ℤ → Bool
are_u_fields rd immediate = is_register rd && is_u_immediate immediate

-- J, as of JAL
abbrev pub are_j_fields : ℕ → ℤ → Bool
are_j_fields rd immediate = is_register rd && is_j_immediate immediate

-- a shift of a word of so many bits by an immediate
abbrev pub are_shift_fields : ℕ → ℕ → ℕ → ℕ → Bool
are_shift_fields bits rd rs1 shift = is_register rd && is_register rs1 && nat_lt shift bits

-- each field of the instruction is in its range, and it is no unknown one
abbrev pub is_encodable : Instr → Bool
is_encodable (Lui rd u) = are_u_fields rd u
is_encodable (Auipc rd u) = are_u_fields rd u
is_encodable (Jal rd j) = are_j_fields rd j
is_encodable (Jalr rd rs1 i) = are_i_fields rd rs1 i
is_encodable (Beq rs1 rs2 b) = are_b_fields rs1 rs2 b
is_encodable (Bne rs1 rs2 b) = are_b_fields rs1 rs2 b
is_encodable (Blt rs1 rs2 b) = are_b_fields rs1 rs2 b
is_encodable (Bge rs1 rs2 b) = are_b_fields rs1 rs2 b
is_encodable (Bltu rs1 rs2 b) = are_b_fields rs1 rs2 b
is_encodable (Bgeu rs1 rs2 b) = are_b_fields rs1 rs2 b
is_encodable (Lb rd rs1 i) = are_i_fields rd rs1 i
is_encodable (Lh rd rs1 i) = are_i_fields rd rs1 i
is_encodable (Lw rd rs1 i) = are_i_fields rd rs1 i
is_encodable (Ld rd rs1 i) = are_i_fields rd rs1 i
is_encodable (Lbu rd rs1 i) = are_i_fields rd rs1 i
is_encodable (Lhu rd rs1 i) = are_i_fields rd rs1 i
is_encodable (Lwu rd rs1 i) = are_i_fields rd rs1 i
is_encodable (Sb rs1 rs2 s) = are_s_fields rs1 rs2 s
is_encodable (Sh rs1 rs2 s) = are_s_fields rs1 rs2 s
is_encodable (Sw rs1 rs2 s) = are_s_fields rs1 rs2 s
is_encodable (Sd rs1 rs2 s) = are_s_fields rs1 rs2 s
is_encodable (Addi rd rs1 i) = are_i_fields rd rs1 i
is_encodable (Slti rd rs1 i) = are_i_fields rd rs1 i
is_encodable (Sltiu rd rs1 i) = are_i_fields rd rs1 i
is_encodable (Xori rd rs1 i) = are_i_fields rd rs1 i
is_encodable (Ori rd rs1 i) = are_i_fields rd rs1 i
is_encodable (Andi rd rs1 i) = are_i_fields rd rs1 i
is_encodable (Slli rd rs1 shift) = are_shift_fields 64 rd rs1 shift
is_encodable (Srli rd rs1 shift) = are_shift_fields 64 rd rs1 shift
is_encodable (Srai rd rs1 shift) = are_shift_fields 64 rd rs1 shift
is_encodable (Add rd rs1 rs2) = are_r_fields rd rs1 rs2
is_encodable (Sub rd rs1 rs2) = are_r_fields rd rs1 rs2
is_encodable (Sll rd rs1 rs2) = are_r_fields rd rs1 rs2
is_encodable (Slt rd rs1 rs2) = are_r_fields rd rs1 rs2
is_encodable (Sltu rd rs1 rs2) = are_r_fields rd rs1 rs2
is_encodable (Xor rd rs1 rs2) = are_r_fields rd rs1 rs2
is_encodable (Srl rd rs1 rs2) = are_r_fields rd rs1 rs2
is_encodable (Sra rd rs1 rs2) = are_r_fields rd rs1 rs2
is_encodable (Or rd rs1 rs2) = are_r_fields rd rs1 rs2
is_encodable (And rd rs1 rs2) = are_r_fields rd rs1 rs2
is_encodable (Mul rd rs1 rs2) = are_r_fields rd rs1 rs2
is_encodable (Mulh rd rs1 rs2) = are_r_fields rd rs1 rs2
is_encodable (Mulhsu rd rs1 rs2) = are_r_fields rd rs1 rs2
is_encodable (Mulhu rd rs1 rs2) = are_r_fields rd rs1 rs2
is_encodable (Div rd rs1 rs2) = are_r_fields rd rs1 rs2
is_encodable (Divu rd rs1 rs2) = are_r_fields rd rs1 rs2
is_encodable (Rem rd rs1 rs2) = are_r_fields rd rs1 rs2
is_encodable (Remu rd rs1 rs2) = are_r_fields rd rs1 rs2
is_encodable (Addiw rd rs1 i) = are_i_fields rd rs1 i
is_encodable (Slliw rd rs1 shift) = are_shift_fields 32 rd rs1 shift
is_encodable (Srliw rd rs1 shift) = are_shift_fields 32 rd rs1 shift
is_encodable (Sraiw rd rs1 shift) = are_shift_fields 32 rd rs1 shift
is_encodable (Addw rd rs1 rs2) = are_r_fields rd rs1 rs2
is_encodable (Subw rd rs1 rs2) = are_r_fields rd rs1 rs2
is_encodable (Sllw rd rs1 rs2) = are_r_fields rd rs1 rs2
is_encodable (Srlw rd rs1 rs2) = are_r_fields rd rs1 rs2
is_encodable (Sraw rd rs1 rs2) = are_r_fields rd rs1 rs2
is_encodable (Mulw rd rs1 rs2) = are_r_fields rd rs1 rs2
is_encodable (Divw rd rs1 rs2) = are_r_fields rd rs1 rs2
is_encodable (Divuw rd rs1 rs2) = are_r_fields rd rs1 rs2
is_encodable (Remw rd rs1 rs2) = are_r_fields rd rs1 rs2
is_encodable (Remuw rd rs1 rs2) = are_r_fields rd rs1 rs2
is_encodable (LrW rd rs1) = are_r_fields rd rs1 0
is_encodable (ScW rd rs1 rs2) = are_r_fields rd rs1 rs2
is_encodable (AmoswapW rd rs1 rs2) = are_r_fields rd rs1 rs2
is_encodable (AmoaddW rd rs1 rs2) = are_r_fields rd rs1 rs2
is_encodable (AmoxorW rd rs1 rs2) = are_r_fields rd rs1 rs2
is_encodable (AmoandW rd rs1 rs2) = are_r_fields rd rs1 rs2
is_encodable (AmoorW rd rs1 rs2) = are_r_fields rd rs1 rs2
is_encodable (AmominW rd rs1 rs2) = are_r_fields rd rs1 rs2
is_encodable (AmomaxW rd rs1 rs2) = are_r_fields rd rs1 rs2
is_encodable (AmominuW rd rs1 rs2) = are_r_fields rd rs1 rs2
is_encodable (AmomaxuW rd rs1 rs2) = are_r_fields rd rs1 rs2
is_encodable (LrD rd rs1) = are_r_fields rd rs1 0
is_encodable (ScD rd rs1 rs2) = are_r_fields rd rs1 rs2
is_encodable (AmoswapD rd rs1 rs2) = are_r_fields rd rs1 rs2
is_encodable (AmoaddD rd rs1 rs2) = are_r_fields rd rs1 rs2
is_encodable (AmoxorD rd rs1 rs2) = are_r_fields rd rs1 rs2
is_encodable (AmoandD rd rs1 rs2) = are_r_fields rd rs1 rs2
is_encodable (AmoorD rd rs1 rs2) = are_r_fields rd rs1 rs2
is_encodable (AmominD rd rs1 rs2) = are_r_fields rd rs1 rs2
is_encodable (AmomaxD rd rs1 rs2) = are_r_fields rd rs1 rs2
is_encodable (AmominuD rd rs1 rs2) = are_r_fields rd rs1 rs2
is_encodable (AmomaxuD rd rs1 rs2) = are_r_fields rd rs1 rs2
is_encodable Fence = true
is_encodable Ecall = true
is_encodable Ebreak = true
is_encodable (ReadCounter rd number) = is_register rd && is_counter number
is_encodable Unknown = false
