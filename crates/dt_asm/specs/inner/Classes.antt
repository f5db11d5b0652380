-- The classes of instructions, each with an opcode or a few (RISC-V unprivileged specification, "RV32/64G Instruction
-- Set Listings"). No two have an instruction in common, but for the last three words, which are classes put together.
use Rattle.std.specs.Prelude.{Bool, true, false, ◌||◌}
use Rattle.dt_rv64.specs.declared.instruction.Instr.{Instr}
use Rattle.dt_rv64.specs.declared.instruction.Instr.TheVariants.{Lui, Auipc, Jal, Jalr, Beq, Bne, Blt, Bge, Bltu, Bgeu, Lb, Lh, Lw, Ld, Lbu, Lhu, Lwu, Sb, Sh, Sw, Sd, Addi, Slti, Sltiu, Xori, Ori, Andi, Slli, Srli, Srai, Add, Sll, Slt, Sltu, Xor, Srl, Or, And, Sub, Sra, Mul, Mulh, Mulhsu, Mulhu, Div, Divu, Rem, Remu, Addiw, Slliw, Srliw, Sraiw, Addw, Sllw, Srlw, Subw, Sraw, Mulw, Divw, Divuw, Remw, Remuw, LrW, ScW, AmoswapW, AmoaddW, AmoxorW, AmoandW, AmoorW, AmominW, AmomaxW, AmominuW, AmomaxuW, LrD, ScD, AmoswapD, AmoaddD, AmoxorD, AmoandD, AmoorD, AmominD, AmomaxD, AmominuD, AmomaxuD, Fence, Ecall, Ebreak, ReadCounter}

-- LUI, AUIPC, JAL and JALR
abbrev pub is_lui_auipc_or_jump : Instr → Bool
is_lui_auipc_or_jump (Lui a b) = true
is_lui_auipc_or_jump (Auipc a b) = true
is_lui_auipc_or_jump (Jal a b) = true
is_lui_auipc_or_jump (Jalr a b c) = true
is_lui_auipc_or_jump _ = false

-- BRANCH, the conditional branches
abbrev pub is_branch : Instr → Bool
is_branch (Beq a b c) = true
is_branch (Bne a b c) = true
is_branch (Blt a b c) = true
is_branch (Bge a b c) = true
is_branch (Bltu a b c) = true
is_branch (Bgeu a b c) = true
is_branch _ = false

-- LOAD, the loads
abbrev pub is_load : Instr → Bool
is_load (Lb a b c) = true
is_load (Lh a b c) = true
is_load (Lw a b c) = true
is_load (Ld a b c) = true
is_load (Lbu a b c) = true
is_load (Lhu a b c) = true
is_load (Lwu a b c) = true
is_load _ = false

-- STORE, the stores
abbrev pub is_store : Instr → Bool
is_store (Sb a b c) = true
is_store (Sh a b c) = true
is_store (Sw a b c) = true
is_store (Sd a b c) = true
is_store _ = false

-- OP-IMM, computations from a register and an immediate
abbrev pub is_op_imm : Instr → Bool
is_op_imm (Addi a b c) = true
is_op_imm (Slti a b c) = true
is_op_imm (Sltiu a b c) = true
is_op_imm (Xori a b c) = true
is_op_imm (Ori a b c) = true
is_op_imm (Andi a b c) = true
is_op_imm (Slli a b c) = true
is_op_imm (Srli a b c) = true
is_op_imm (Srai a b c) = true
is_op_imm _ = false

-- OP without the M extension, computations from two registers
abbrev pub is_op : Instr → Bool
is_op (Add a b c) = true
is_op (Sll a b c) = true
is_op (Slt a b c) = true
is_op (Sltu a b c) = true
is_op (Xor a b c) = true
is_op (Srl a b c) = true
is_op (Or a b c) = true
is_op (And a b c) = true
is_op (Sub a b c) = true
is_op (Sra a b c) = true
is_op _ = false

-- OP with funct7 1, the M extension
abbrev pub is_op_multiply : Instr → Bool
is_op_multiply (Mul a b c) = true
is_op_multiply (Mulh a b c) = true
is_op_multiply (Mulhsu a b c) = true
is_op_multiply (Mulhu a b c) = true
is_op_multiply (Div a b c) = true
is_op_multiply (Divu a b c) = true
is_op_multiply (Rem a b c) = true
is_op_multiply (Remu a b c) = true
is_op_multiply _ = false

-- OP-IMM-32, computations of 32 bits from a register and an immediate
abbrev pub is_op_imm_32 : Instr → Bool
is_op_imm_32 (Addiw a b c) = true
is_op_imm_32 (Slliw a b c) = true
is_op_imm_32 (Srliw a b c) = true
is_op_imm_32 (Sraiw a b c) = true
is_op_imm_32 _ = false

-- OP-32 without the M extension, computations of 32 bits from two registers
abbrev pub is_op_32 : Instr → Bool
is_op_32 (Addw a b c) = true
is_op_32 (Sllw a b c) = true
is_op_32 (Srlw a b c) = true
is_op_32 (Subw a b c) = true
is_op_32 (Sraw a b c) = true
is_op_32 _ = false

-- OP-32 with funct7 1, the M extension
abbrev pub is_op_32_multiply : Instr → Bool
is_op_32_multiply (Mulw a b c) = true
is_op_32_multiply (Divw a b c) = true
is_op_32_multiply (Divuw a b c) = true
is_op_32_multiply (Remw a b c) = true
is_op_32_multiply (Remuw a b c) = true
is_op_32_multiply _ = false

-- AMO with funct3 2, atomics of 32 bits
abbrev pub is_atomic_32 : Instr → Bool
is_atomic_32 (LrW a b) = true
is_atomic_32 (ScW a b c) = true
is_atomic_32 (AmoswapW a b c) = true
is_atomic_32 (AmoaddW a b c) = true
is_atomic_32 (AmoxorW a b c) = true
is_atomic_32 (AmoandW a b c) = true
is_atomic_32 (AmoorW a b c) = true
is_atomic_32 (AmominW a b c) = true
is_atomic_32 (AmomaxW a b c) = true
is_atomic_32 (AmominuW a b c) = true
is_atomic_32 (AmomaxuW a b c) = true
is_atomic_32 _ = false

-- AMO with funct3 3, atomics of 64 bits
abbrev pub is_atomic_64 : Instr → Bool
is_atomic_64 (LrD a b) = true
is_atomic_64 (ScD a b c) = true
is_atomic_64 (AmoswapD a b c) = true
is_atomic_64 (AmoaddD a b c) = true
is_atomic_64 (AmoxorD a b c) = true
is_atomic_64 (AmoandD a b c) = true
is_atomic_64 (AmoorD a b c) = true
is_atomic_64 (AmominD a b c) = true
is_atomic_64 (AmomaxD a b c) = true
is_atomic_64 (AmominuD a b c) = true
is_atomic_64 (AmomaxuD a b c) = true
is_atomic_64 _ = false

-- FENCE of MISC-MEM, and SYSTEM
abbrev pub is_fence_or_system : Instr → Bool
is_fence_or_system Fence = true
is_fence_or_system Ecall = true
is_fence_or_system Ebreak = true
is_fence_or_system (ReadCounter a b) = true
is_fence_or_system _ = false

-- computations of 32 bits
abbrev pub is_computational_32 : Instr → Bool
is_computational_32 i = is_op_imm_32 i || (is_op_32 i || is_op_32_multiply i)

-- computations, those of 32 bits among them
abbrev pub is_computational : Instr → Bool
is_computational i = is_op_imm i || (is_op i || (is_op_multiply i || is_computational_32 i))

-- computations and atomics
abbrev pub is_computational_or_atomic : Instr → Bool
is_computational_or_atomic i = is_atomic_32 i || (is_atomic_64 i || is_computational i)
