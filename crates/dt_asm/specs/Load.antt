-- The instructions that load a number into a register.
use Rattle.std.specs.Prelude.{ℕ, zero, suc, ◌^◌, ℤ, pos, ◌-ℤ◌, List, [], ◌∷◌, ◌++◌, unsigned_abs, if◌then◌else◌}
use Rattle.std.specs.Int.{int_rem_euclid, int_div_euclid}
use Rattle.dt_rv64.specs.declared.instruction.Instr.{Instr}
use Rattle.dt_rv64.specs.declared.instruction.Instr.TheVariants.{Lui, Addi, Slli, Addiw}
use Rattle.dt_rv64.specs.Formats.{signed}
use Rattle.dt_asm.specs.Fits.{is_signed}

-- a number cut to so many low bits, sign-extended
abbrev pub signed_low : ℕ → ℤ → ℤ
signed_low bits number = signed bits (unsigned_abs (int_rem_euclid number (pos (2 ^ bits))))

-- what is left of a number above its sign-extended twelve low bits
abbrev pub without_low : ℤ → ℤ
without_low number = number -ℤ signed_low 12 number

-- its 52 bits above those, moved down by twelve
abbrev pub high_52 : ℤ → ℤ
high_52 number = int_div_euclid (without_low number) (pos 4096)

-- LUI and ADDIW, for a number of 32 bits
abbrev pub lui_addiw : ℕ → ℤ → List Instr
lui_addiw register number = Lui register (signed_low 32 (without_low number)) ∷ Addiw register register (signed_low 12 number) ∷ []

-- SLLI by 12, and ADDI of low bits
abbrev pub slli_addi : ℕ → ℤ → List Instr
slli_addi register low = Slli register register 12 ∷ Addi register register low ∷ []

-- ADDI from x0; or LUI and ADDIW; or, for a number of so many parts at most, its upper 52 bits, shifted left, and its
-- low bits added
unfoldable pub load_sequence_within : ℕ → ℕ → ℤ → List Instr
load_sequence_within zero register number = []
load_sequence_within (suc parts) register number =
    if is_signed 12 number then Addi register 0 number ∷ []
    else if is_signed 32 number then lui_addiw register number
    else load_sequence_within parts register (high_52 number) ++ slli_addi register (signed_low 12 number)

-- the instructions that load a number; one of 64 bits has at most four parts
abbrev pub load_sequence : ℕ → ℤ → List Instr
load_sequence register number = load_sequence_within 4 register number
