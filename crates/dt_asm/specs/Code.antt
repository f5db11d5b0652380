-- The bytes that spell instructions and bytes in order.
use Rattle.std.specs.Prelude.{◌≡◌, ℕ, List, [], ◌∷◌, length, take, drop}
use Rattle.dt_base.specs.Fields.{little_endian}
use Rattle.dt_rv64.specs.declared.instruction.Instr.{Instr}
use Rattle.dt_rv64.specs.declared.instruction.Instr.TheVariants.{Fence}
use Rattle.dt_rv64.specs.Instruction.{instr}
use Rattle.dt_asm.specs.Item.{Piece, word, plain}

-- bytes of an instruction: four, the lowest first, of a word that decodes to it; of the many words of FENCE, the one
-- without other fields
pub record IsWordOf (i : Instr) (bytes : List ℕ) : Type 0 where
  pub four : length bytes ≡ 4
  pub decoded : instr (little_endian bytes) ≡ i
  pub bare : i ≡ Fence → little_endian bytes ≡ 0x0000000F

-- the bytes of a piece
abbrev pub IsSpelled : Piece → List ℕ → Type 0
IsSpelled (word i) bytes = IsWordOf i bytes
IsSpelled (plain written) bytes = bytes ≡ written

-- how many bytes a piece has
abbrev pub width_of : Piece → ℕ
width_of (word i) = 4
width_of (plain written) = length written

-- the bytes are the pieces in their order
abbrev pub AreSpelled : List Piece → List ℕ → Type 0
AreSpelled [] bytes = bytes ≡ []
AreSpelled (piece ∷ pieces) bytes =
    IsSpelled piece (take (width_of piece) bytes) × AreSpelled pieces (drop (width_of piece) bytes)
