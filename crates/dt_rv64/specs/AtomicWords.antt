-- The atomics, by funct3 and funct5 (RISC-V unprivileged specification, "RV32/64G Instruction Set Listings": RV32A and
-- RV64A). The bits aq and rl, which order accesses between harts, are ignored.
use Rattle.std.specs.Prelude.{ℕ, ◌==◌, if◌then◌else◌}
use Rattle.dt_rv64.specs.declared.instruction.Instr.{Instr}
use Rattle.dt_rv64.specs.declared.instruction.Instr.TheVariants.{LrW, ScW, AmoswapW, AmoaddW, AmoxorW, AmoandW, AmoorW, AmominW, AmomaxW, AmominuW, AmomaxuW, LrD, ScD, AmoswapD, AmoaddD, AmoxorD, AmoandD, AmoorD, AmominD, AmomaxD, AmominuD, AmomaxuD, Unknown}
use Rattle.dt_rv64.specs.Formats.{rd, rs1, rs2, funct3, funct5}

-- LR of 32 bits, whose rs2 is 0
abbrev pub lr_32_of : ℕ → Instr
lr_32_of word = if rs2 word == 0 then LrW (rd word) (rs1 word) else Unknown

-- AMO with funct3 2, atomics of 32 bits, by funct5
abbrev pub atomic_32_of : ℕ → Instr
atomic_32_of word =
    if funct5 word == 0x02 then lr_32_of word
    else if funct5 word == 0x03 then ScW (rd word) (rs1 word) (rs2 word)
    else if funct5 word == 0x01 then AmoswapW (rd word) (rs1 word) (rs2 word)
    else if funct5 word == 0x00 then AmoaddW (rd word) (rs1 word) (rs2 word)
    else if funct5 word == 0x04 then AmoxorW (rd word) (rs1 word) (rs2 word)
    else if funct5 word == 0x0C then AmoandW (rd word) (rs1 word) (rs2 word)
    else if funct5 word == 0x08 then AmoorW (rd word) (rs1 word) (rs2 word)
    else if funct5 word == 0x10 then AmominW (rd word) (rs1 word) (rs2 word)
    else if funct5 word == 0x14 then AmomaxW (rd word) (rs1 word) (rs2 word)
    else if funct5 word == 0x18 then AmominuW (rd word) (rs1 word) (rs2 word)
    else if funct5 word == 0x1C then AmomaxuW (rd word) (rs1 word) (rs2 word)
    else Unknown

-- LR of 64 bits, whose rs2 is 0
abbrev pub lr_64_of : ℕ → Instr
lr_64_of word = if rs2 word == 0 then LrD (rd word) (rs1 word) else Unknown

-- AMO with funct3 3, atomics of 64 bits, by funct5
abbrev pub atomic_64_of : ℕ → Instr
atomic_64_of word =
    if funct5 word == 0x02 then lr_64_of word
    else if funct5 word == 0x03 then ScD (rd word) (rs1 word) (rs2 word)
    else if funct5 word == 0x01 then AmoswapD (rd word) (rs1 word) (rs2 word)
    else if funct5 word == 0x00 then AmoaddD (rd word) (rs1 word) (rs2 word)
    else if funct5 word == 0x04 then AmoxorD (rd word) (rs1 word) (rs2 word)
    else if funct5 word == 0x0C then AmoandD (rd word) (rs1 word) (rs2 word)
    else if funct5 word == 0x08 then AmoorD (rd word) (rs1 word) (rs2 word)
    else if funct5 word == 0x10 then AmominD (rd word) (rs1 word) (rs2 word)
    else if funct5 word == 0x14 then AmomaxD (rd word) (rs1 word) (rs2 word)
    else if funct5 word == 0x18 then AmominuD (rd word) (rs1 word) (rs2 word)
    else if funct5 word == 0x1C then AmomaxuD (rd word) (rs1 word) (rs2 word)
    else Unknown

-- AMO, the atomics, by funct3
abbrev pub atomic_of : ℕ → Instr
atomic_of word = if funct3 word == 2 then atomic_32_of word else if funct3 word == 3 then atomic_64_of word else Unknown
