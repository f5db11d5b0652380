-- The words of each format, by their fields (RISC-V unprivileged specification, RV32I, "Base Instruction Formats").
use Rattle.std.specs.Prelude.{◌≡◌, ◌<◌, ◌^◌, ℕ, ℤ}
use Rattle.dt_rv64.specs.Formats as format

-- the bits of a signed number of so many
pub record IsBits (count : ℕ) (number : ℤ) (bits : ℕ) : Type 0 where
  pub few : bits < 2 ^ count
  pub meaning : format.signed count bits ≡ number

-- R, as of ADD
pub record IsR (opcode funct3 funct7 rd rs1 rs2 word : ℕ) : Type 0 where
  pub opcode_is : format.opcode word ≡ opcode
  pub funct3_is : format.funct3 word ≡ funct3
  pub funct7_is : format.funct7 word ≡ funct7
  pub rd_is : format.rd word ≡ rd
  pub rs1_is : format.rs1 word ≡ rs1
  pub rs2_is : format.rs2 word ≡ rs2

-- R, as of the atomics
pub record IsAtomic (opcode funct3 funct5 rd rs1 rs2 word : ℕ) : Type 0 where
  pub opcode_is : format.opcode word ≡ opcode
  pub funct3_is : format.funct3 word ≡ funct3
  pub funct5_is : format.funct5 word ≡ funct5
  pub rd_is : format.rd word ≡ rd
  pub rs1_is : format.rs1 word ≡ rs1
  pub rs2_is : format.rs2 word ≡ rs2

-- I, as of ADDI and LW
pub record IsI (opcode funct3 rd rs1 : ℕ) (immediate : ℤ) (word : ℕ) : Type 0 where
  pub opcode_is : format.opcode word ≡ opcode
  pub funct3_is : format.funct3 word ≡ funct3
  pub rd_is : format.rd word ≡ rd
  pub rs1_is : format.rs1 word ≡ rs1
  pub immediate_is : format.i_immediate word ≡ immediate

-- I, with a shift of six bits
pub record IsShift (opcode funct3 funct6 rd rs1 shift word : ℕ) : Type 0 where
  pub opcode_is : format.opcode word ≡ opcode
  pub funct3_is : format.funct3 word ≡ funct3
  pub funct6_is : format.funct6 word ≡ funct6
  pub rd_is : format.rd word ≡ rd
  pub rs1_is : format.rs1 word ≡ rs1
  pub shift_is : format.shift word ≡ shift

-- I, with the number of a control and status register, and no source
pub record IsCsr (opcode funct3 rd csr word : ℕ) : Type 0 where
  pub opcode_is : format.opcode word ≡ opcode
  pub funct3_is : format.funct3 word ≡ funct3
  pub rd_is : format.rd word ≡ rd
  pub rs1_is : format.rs1 word ≡ 0
  pub csr_is : format.csr word ≡ csr

-- S, as of SW
pub record IsS (opcode funct3 rs1 rs2 : ℕ) (immediate : ℤ) (word : ℕ) : Type 0 where
  pub opcode_is : format.opcode word ≡ opcode
  pub funct3_is : format.funct3 word ≡ funct3
  pub rs1_is : format.rs1 word ≡ rs1
  pub rs2_is : format.rs2 word ≡ rs2
  pub immediate_is : format.s_immediate word ≡ immediate

-- B, as of BEQ
pub record IsB (opcode funct3 rs1 rs2 : ℕ) (immediate : ℤ) (word : ℕ) : Type 0 where
  pub opcode_is : format.opcode word ≡ opcode
  pub funct3_is : format.funct3 word ≡ funct3
  pub rs1_is : format.rs1 word ≡ rs1
  pub rs2_is : format.rs2 word ≡ rs2
  pub immediate_is : format.b_immediate word ≡ immediate

-- U, as of LUI
pub record IsU (opcode rd : ℕ) (immediate : ℤ) (word : ℕ) : Type 0 where
  pub opcode_is : format.opcode word ≡ opcode
  pub rd_is : format.rd word ≡ rd
  pub immediate_is : format.u_immediate word ≡ immediate

-- J, as of JAL
pub record IsJ (opcode rd : ℕ) (immediate : ℤ) (word : ℕ) : Type 0 where
  pub opcode_is : format.opcode word ≡ opcode
  pub rd_is : format.rd word ≡ rd
  pub immediate_is : format.j_immediate word ≡ immediate
