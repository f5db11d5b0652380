-- The registers that a decoded instruction names are among the 32.
use Rattle.std.proofs.Common.{ℕ, ◌<◌, Bool, true, false, cond, arith}
use Rattle.std.specs.Prelude.{◌==◌, ◌&&◌, nat_le}
use Rattle.dt_rv64.specs.declared.instruction.Instr.{Instr}
use Rattle.dt_rv64.specs.declared.instruction.Instr.TheVariants.{Lui, Auipc, Jal, Jalr, Beq, Bne, Blt, Bge, Bltu, Bgeu, Lb, Lh, Lw, Ld, Lbu, Lhu, Lwu, Sb, Sh, Sw, Sd, Addi, Slti, Sltiu, Xori, Ori, Andi, Slli, Srli, Srai, Add, Sub, Sll, Slt, Sltu, Xor, Srl, Sra, Or, And, Mul, Mulh, Mulhsu, Mulhu, Div, Divu, Rem, Remu, Addiw, Slliw, Srliw, Sraiw, Addw, Subw, Sllw, Srlw, Sraw, Mulw, Divw, Divuw, Remw, Remuw, LrW, ScW, AmoswapW, AmoaddW, AmoxorW, AmoandW, AmoorW, AmominW, AmomaxW, AmominuW, AmomaxuW, LrD, ScD, AmoswapD, AmoaddD, AmoxorD, AmoandD, AmoorD, AmominD, AmomaxD, AmominuD, AmomaxuD, Fence, Ecall, Ebreak, ReadCounter, Unknown}
use Rattle.dt_rv64.specs.Formats.{rd, rs1, rs2, opcode, funct3, funct5, funct6, funct7, shift, csr, i_immediate, s_immediate, b_immediate, u_immediate, j_immediate}
use Rattle.dt_rv64.specs.Operations.{shift_left_of, shift_right_of, op_imm_of, shift_left_32_of, shift_right_32_of, op_imm_32_of, op_base_of, op_multiply_of, op_other_of, op_of, op_32_base_of, op_32_multiply_of, op_32_other_of, op_32_of}
use Rattle.dt_rv64.specs.AtomicWords.{lr_32_of, lr_64_of, atomic_32_of, atomic_64_of, atomic_of}
use Rattle.dt_rv64.specs.Instruction.{jalr_of, branch_of, load_of, store_of, misc_mem_of, read_counter_of, system_of, instr}
use Rattle.dt_rv64.specs.inner.Registers.{HasRegisters}

rd-low : (word : ℕ) → rd word < 32
rd-low word = omega arith

rs1-low : (word : ℕ) → rs1 word < 32
rs1-low word = omega arith

rs2-low : (word : ℕ) → rs2 word < 32
rs2-low word = omega arith

-- an instruction that has them, by its name
record IsWithin (i : Instr) : Type 0 where
  has : HasRegisters i

leaf : (i : Instr) → HasRegisters i → IsWithin i
leaf i has = record { has = has }

either : {i j : Instr} (b : Bool) → IsWithin i → IsWithin j → IsWithin (cond b i j)
either true is is' = is
either false is is' = is'

shift_left-within : (word : ℕ) → IsWithin (shift_left_of word)
shift_left-within word =
    either (funct6 word == 0x00) (leaf (Slli (rd word) (rs1 word) (shift word)) (rd-low word, rs1-low word)) (leaf Unknown tt)

shift_right-within : (word : ℕ) → IsWithin (shift_right_of word)
shift_right-within word =
    either (funct6 word == 0x00) (leaf (Srli (rd word) (rs1 word) (shift word)) (rd-low word, rs1-low word))
    (either (funct6 word == 0x10) (leaf (Srai (rd word) (rs1 word) (shift word)) (rd-low word, rs1-low word)) (leaf Unknown tt))

op_imm-within : (word : ℕ) → IsWithin (op_imm_of word)
op_imm-within word =
    either (funct3 word == 0) (leaf (Addi (rd word) (rs1 word) (i_immediate word)) (rd-low word, rs1-low word))
    (either (funct3 word == 1) (shift_left-within word)
    (either (funct3 word == 2) (leaf (Slti (rd word) (rs1 word) (i_immediate word)) (rd-low word, rs1-low word))
    (either (funct3 word == 3) (leaf (Sltiu (rd word) (rs1 word) (i_immediate word)) (rd-low word, rs1-low word))
    (either (funct3 word == 4) (leaf (Xori (rd word) (rs1 word) (i_immediate word)) (rd-low word, rs1-low word))
    (either (funct3 word == 5) (shift_right-within word)
    (either (funct3 word == 6) (leaf (Ori (rd word) (rs1 word) (i_immediate word)) (rd-low word, rs1-low word)) (leaf (Andi (rd word) (rs1 word) (i_immediate word)) (rd-low word, rs1-low word))))))))

shift_left_32-within : (word : ℕ) → IsWithin (shift_left_32_of word)
shift_left_32-within word =
    either (funct7 word == 0x00) (leaf (Slliw (rd word) (rs1 word) (rs2 word)) (rd-low word, rs1-low word)) (leaf Unknown tt)

shift_right_32-within : (word : ℕ) → IsWithin (shift_right_32_of word)
shift_right_32-within word =
    either (funct7 word == 0x00) (leaf (Srliw (rd word) (rs1 word) (rs2 word)) (rd-low word, rs1-low word))
    (either (funct7 word == 0x20) (leaf (Sraiw (rd word) (rs1 word) (rs2 word)) (rd-low word, rs1-low word)) (leaf Unknown tt))

op_imm_32-within : (word : ℕ) → IsWithin (op_imm_32_of word)
op_imm_32-within word =
    either (funct3 word == 0) (leaf (Addiw (rd word) (rs1 word) (i_immediate word)) (rd-low word, rs1-low word))
    (either (funct3 word == 1) (shift_left_32-within word)
    (either (funct3 word == 5) (shift_right_32-within word) (leaf Unknown tt)))

op_base-within : (word : ℕ) → IsWithin (op_base_of word)
op_base-within word =
    either (funct3 word == 0) (leaf (Add (rd word) (rs1 word) (rs2 word)) (rd-low word, rs1-low word, rs2-low word))
    (either (funct3 word == 1) (leaf (Sll (rd word) (rs1 word) (rs2 word)) (rd-low word, rs1-low word, rs2-low word))
    (either (funct3 word == 2) (leaf (Slt (rd word) (rs1 word) (rs2 word)) (rd-low word, rs1-low word, rs2-low word))
    (either (funct3 word == 3) (leaf (Sltu (rd word) (rs1 word) (rs2 word)) (rd-low word, rs1-low word, rs2-low word))
    (either (funct3 word == 4) (leaf (Xor (rd word) (rs1 word) (rs2 word)) (rd-low word, rs1-low word, rs2-low word))
    (either (funct3 word == 5) (leaf (Srl (rd word) (rs1 word) (rs2 word)) (rd-low word, rs1-low word, rs2-low word))
    (either (funct3 word == 6) (leaf (Or (rd word) (rs1 word) (rs2 word)) (rd-low word, rs1-low word, rs2-low word)) (leaf (And (rd word) (rs1 word) (rs2 word)) (rd-low word, rs1-low word, rs2-low word))))))))

op_multiply-within : (word : ℕ) → IsWithin (op_multiply_of word)
op_multiply-within word =
    either (funct3 word == 0) (leaf (Mul (rd word) (rs1 word) (rs2 word)) (rd-low word, rs1-low word, rs2-low word))
    (either (funct3 word == 1) (leaf (Mulh (rd word) (rs1 word) (rs2 word)) (rd-low word, rs1-low word, rs2-low word))
    (either (funct3 word == 2) (leaf (Mulhsu (rd word) (rs1 word) (rs2 word)) (rd-low word, rs1-low word, rs2-low word))
    (either (funct3 word == 3) (leaf (Mulhu (rd word) (rs1 word) (rs2 word)) (rd-low word, rs1-low word, rs2-low word))
    (either (funct3 word == 4) (leaf (Div (rd word) (rs1 word) (rs2 word)) (rd-low word, rs1-low word, rs2-low word))
    (either (funct3 word == 5) (leaf (Divu (rd word) (rs1 word) (rs2 word)) (rd-low word, rs1-low word, rs2-low word))
    (either (funct3 word == 6) (leaf (Rem (rd word) (rs1 word) (rs2 word)) (rd-low word, rs1-low word, rs2-low word)) (leaf (Remu (rd word) (rs1 word) (rs2 word)) (rd-low word, rs1-low word, rs2-low word))))))))

op_other-within : (word : ℕ) → IsWithin (op_other_of word)
op_other-within word =
    either (funct3 word == 0) (leaf (Sub (rd word) (rs1 word) (rs2 word)) (rd-low word, rs1-low word, rs2-low word))
    (either (funct3 word == 5) (leaf (Sra (rd word) (rs1 word) (rs2 word)) (rd-low word, rs1-low word, rs2-low word)) (leaf Unknown tt))

op-within : (word : ℕ) → IsWithin (op_of word)
op-within word =
    either (funct7 word == 0x00) (op_base-within word)
    (either (funct7 word == 0x01) (op_multiply-within word)
    (either (funct7 word == 0x20) (op_other-within word) (leaf Unknown tt)))

op_32_base-within : (word : ℕ) → IsWithin (op_32_base_of word)
op_32_base-within word =
    either (funct3 word == 0) (leaf (Addw (rd word) (rs1 word) (rs2 word)) (rd-low word, rs1-low word, rs2-low word))
    (either (funct3 word == 1) (leaf (Sllw (rd word) (rs1 word) (rs2 word)) (rd-low word, rs1-low word, rs2-low word))
    (either (funct3 word == 5) (leaf (Srlw (rd word) (rs1 word) (rs2 word)) (rd-low word, rs1-low word, rs2-low word)) (leaf Unknown tt)))

op_32_multiply-within : (word : ℕ) → IsWithin (op_32_multiply_of word)
op_32_multiply-within word =
    either (funct3 word == 0) (leaf (Mulw (rd word) (rs1 word) (rs2 word)) (rd-low word, rs1-low word, rs2-low word))
    (either (funct3 word == 4) (leaf (Divw (rd word) (rs1 word) (rs2 word)) (rd-low word, rs1-low word, rs2-low word))
    (either (funct3 word == 5) (leaf (Divuw (rd word) (rs1 word) (rs2 word)) (rd-low word, rs1-low word, rs2-low word))
    (either (funct3 word == 6) (leaf (Remw (rd word) (rs1 word) (rs2 word)) (rd-low word, rs1-low word, rs2-low word))
    (either (funct3 word == 7) (leaf (Remuw (rd word) (rs1 word) (rs2 word)) (rd-low word, rs1-low word, rs2-low word)) (leaf Unknown tt)))))

op_32_other-within : (word : ℕ) → IsWithin (op_32_other_of word)
op_32_other-within word =
    either (funct3 word == 0) (leaf (Subw (rd word) (rs1 word) (rs2 word)) (rd-low word, rs1-low word, rs2-low word))
    (either (funct3 word == 5) (leaf (Sraw (rd word) (rs1 word) (rs2 word)) (rd-low word, rs1-low word, rs2-low word)) (leaf Unknown tt))

op_32-within : (word : ℕ) → IsWithin (op_32_of word)
op_32-within word =
    either (funct7 word == 0x00) (op_32_base-within word)
    (either (funct7 word == 0x01) (op_32_multiply-within word)
    (either (funct7 word == 0x20) (op_32_other-within word) (leaf Unknown tt)))

jalr-within : (word : ℕ) → IsWithin (jalr_of word)
jalr-within word =
    either (funct3 word == 0) (leaf (Jalr (rd word) (rs1 word) (i_immediate word)) (rd-low word, rs1-low word)) (leaf Unknown tt)

branch-within : (word : ℕ) → IsWithin (branch_of word)
branch-within word =
    either (funct3 word == 0) (leaf (Beq (rs1 word) (rs2 word) (b_immediate word)) (rs1-low word, rs2-low word))
    (either (funct3 word == 1) (leaf (Bne (rs1 word) (rs2 word) (b_immediate word)) (rs1-low word, rs2-low word))
    (either (funct3 word == 4) (leaf (Blt (rs1 word) (rs2 word) (b_immediate word)) (rs1-low word, rs2-low word))
    (either (funct3 word == 5) (leaf (Bge (rs1 word) (rs2 word) (b_immediate word)) (rs1-low word, rs2-low word))
    (either (funct3 word == 6) (leaf (Bltu (rs1 word) (rs2 word) (b_immediate word)) (rs1-low word, rs2-low word))
    (either (funct3 word == 7) (leaf (Bgeu (rs1 word) (rs2 word) (b_immediate word)) (rs1-low word, rs2-low word)) (leaf Unknown tt))))))

load-within : (word : ℕ) → IsWithin (load_of word)
load-within word =
    either (funct3 word == 0) (leaf (Lb (rd word) (rs1 word) (i_immediate word)) (rd-low word, rs1-low word))
    (either (funct3 word == 1) (leaf (Lh (rd word) (rs1 word) (i_immediate word)) (rd-low word, rs1-low word))
    (either (funct3 word == 2) (leaf (Lw (rd word) (rs1 word) (i_immediate word)) (rd-low word, rs1-low word))
    (either (funct3 word == 3) (leaf (Ld (rd word) (rs1 word) (i_immediate word)) (rd-low word, rs1-low word))
    (either (funct3 word == 4) (leaf (Lbu (rd word) (rs1 word) (i_immediate word)) (rd-low word, rs1-low word))
    (either (funct3 word == 5) (leaf (Lhu (rd word) (rs1 word) (i_immediate word)) (rd-low word, rs1-low word))
    (either (funct3 word == 6) (leaf (Lwu (rd word) (rs1 word) (i_immediate word)) (rd-low word, rs1-low word)) (leaf Unknown tt)))))))

store-within : (word : ℕ) → IsWithin (store_of word)
store-within word =
    either (funct3 word == 0) (leaf (Sb (rs1 word) (rs2 word) (s_immediate word)) (rs1-low word, rs2-low word))
    (either (funct3 word == 1) (leaf (Sh (rs1 word) (rs2 word) (s_immediate word)) (rs1-low word, rs2-low word))
    (either (funct3 word == 2) (leaf (Sw (rs1 word) (rs2 word) (s_immediate word)) (rs1-low word, rs2-low word))
    (either (funct3 word == 3) (leaf (Sd (rs1 word) (rs2 word) (s_immediate word)) (rs1-low word, rs2-low word)) (leaf Unknown tt))))

lr_32-within : (word : ℕ) → IsWithin (lr_32_of word)
lr_32-within word =
    either (rs2 word == 0) (leaf (LrW (rd word) (rs1 word)) (rd-low word, rs1-low word)) (leaf Unknown tt)

atomic_32-within : (word : ℕ) → IsWithin (atomic_32_of word)
atomic_32-within word =
    either (funct5 word == 0x02) (lr_32-within word)
    (either (funct5 word == 0x03) (leaf (ScW (rd word) (rs1 word) (rs2 word)) (rd-low word, rs1-low word, rs2-low word))
    (either (funct5 word == 0x01) (leaf (AmoswapW (rd word) (rs1 word) (rs2 word)) (rd-low word, rs1-low word, rs2-low word))
    (either (funct5 word == 0x00) (leaf (AmoaddW (rd word) (rs1 word) (rs2 word)) (rd-low word, rs1-low word, rs2-low word))
    (either (funct5 word == 0x04) (leaf (AmoxorW (rd word) (rs1 word) (rs2 word)) (rd-low word, rs1-low word, rs2-low word))
    (either (funct5 word == 0x0C) (leaf (AmoandW (rd word) (rs1 word) (rs2 word)) (rd-low word, rs1-low word, rs2-low word))
    (either (funct5 word == 0x08) (leaf (AmoorW (rd word) (rs1 word) (rs2 word)) (rd-low word, rs1-low word, rs2-low word))
    (either (funct5 word == 0x10) (leaf (AmominW (rd word) (rs1 word) (rs2 word)) (rd-low word, rs1-low word, rs2-low word))
    (either (funct5 word == 0x14) (leaf (AmomaxW (rd word) (rs1 word) (rs2 word)) (rd-low word, rs1-low word, rs2-low word))
    (either (funct5 word == 0x18) (leaf (AmominuW (rd word) (rs1 word) (rs2 word)) (rd-low word, rs1-low word, rs2-low word))
    (either (funct5 word == 0x1C) (leaf (AmomaxuW (rd word) (rs1 word) (rs2 word)) (rd-low word, rs1-low word, rs2-low word)) (leaf Unknown tt)))))))))))

lr_64-within : (word : ℕ) → IsWithin (lr_64_of word)
lr_64-within word =
    either (rs2 word == 0) (leaf (LrD (rd word) (rs1 word)) (rd-low word, rs1-low word)) (leaf Unknown tt)

atomic_64-within : (word : ℕ) → IsWithin (atomic_64_of word)
atomic_64-within word =
    either (funct5 word == 0x02) (lr_64-within word)
    (either (funct5 word == 0x03) (leaf (ScD (rd word) (rs1 word) (rs2 word)) (rd-low word, rs1-low word, rs2-low word))
    (either (funct5 word == 0x01) (leaf (AmoswapD (rd word) (rs1 word) (rs2 word)) (rd-low word, rs1-low word, rs2-low word))
    (either (funct5 word == 0x00) (leaf (AmoaddD (rd word) (rs1 word) (rs2 word)) (rd-low word, rs1-low word, rs2-low word))
    (either (funct5 word == 0x04) (leaf (AmoxorD (rd word) (rs1 word) (rs2 word)) (rd-low word, rs1-low word, rs2-low word))
    (either (funct5 word == 0x0C) (leaf (AmoandD (rd word) (rs1 word) (rs2 word)) (rd-low word, rs1-low word, rs2-low word))
    (either (funct5 word == 0x08) (leaf (AmoorD (rd word) (rs1 word) (rs2 word)) (rd-low word, rs1-low word, rs2-low word))
    (either (funct5 word == 0x10) (leaf (AmominD (rd word) (rs1 word) (rs2 word)) (rd-low word, rs1-low word, rs2-low word))
    (either (funct5 word == 0x14) (leaf (AmomaxD (rd word) (rs1 word) (rs2 word)) (rd-low word, rs1-low word, rs2-low word))
    (either (funct5 word == 0x18) (leaf (AmominuD (rd word) (rs1 word) (rs2 word)) (rd-low word, rs1-low word, rs2-low word))
    (either (funct5 word == 0x1C) (leaf (AmomaxuD (rd word) (rs1 word) (rs2 word)) (rd-low word, rs1-low word, rs2-low word)) (leaf Unknown tt)))))))))))

atomic-within : (word : ℕ) → IsWithin (atomic_of word)
atomic-within word =
    either (funct3 word == 2) (atomic_32-within word)
    (either (funct3 word == 3) (atomic_64-within word) (leaf Unknown tt))

misc_mem-within : (word : ℕ) → IsWithin (misc_mem_of word)
misc_mem-within word = either (funct3 word == 0) (leaf Fence tt) (leaf Unknown tt)

read_counter-within : (word : ℕ) → IsWithin (read_counter_of word)
read_counter-within word =
    either ((funct3 word == 2) && (rs1 word == 0) && nat_le 0xC00 (csr word) && nat_le (csr word) 0xC02) (leaf (ReadCounter (rd word) (csr word)) tt) (leaf Unknown tt)

system-within : (word : ℕ) → IsWithin (system_of word)
system-within word =
    either (word == 0x00000073) (leaf Ecall tt)
    (either (word == 0x00100073) (leaf Ebreak tt) (read_counter-within word))

decoded : (word : ℕ) → IsWithin (instr word)
unfolding instr
decoded word =
    either (opcode word == 0x37) (leaf (Lui (rd word) (u_immediate word)) (rd-low word))
    (either (opcode word == 0x17) (leaf (Auipc (rd word) (u_immediate word)) (rd-low word))
    (either (opcode word == 0x6F) (leaf (Jal (rd word) (j_immediate word)) (rd-low word))
    (either (opcode word == 0x67) (jalr-within word)
    (either (opcode word == 0x63) (branch-within word)
    (either (opcode word == 0x03) (load-within word)
    (either (opcode word == 0x23) (store-within word)
    (either (opcode word == 0x13) (op_imm-within word)
    (either (opcode word == 0x33) (op-within word)
    (either (opcode word == 0x1B) (op_imm_32-within word)
    (either (opcode word == 0x3B) (op_32-within word)
    (either (opcode word == 0x2F) (atomic-within word)
    (either (opcode word == 0x0F) (misc_mem-within word)
    (either (opcode word == 0x73) (system-within word) (leaf Unknown tt))))))))))))))

pub instr-within : (word : ℕ) → HasRegisters (instr word)
instr-within word = (decoded word).has
