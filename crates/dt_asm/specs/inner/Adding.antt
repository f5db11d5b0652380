-- How a piece is added to code.
use Rattle.std.specs.Prelude.{◌≡◌, List, ℕ, ◌++◌, length, drop, Bool, true}
use Rattle.dt_asm.specs.declared.error.AsmErr.{AsmErr}
use Rattle.dt_asm.specs.declared.error.AsmErr.TheVariants.{BadField, NoMemory}
use Rattle.dt_asm.specs.Item.{Piece}
use Rattle.dt_asm.specs.Code.{IsSpelled}

-- the bytes after are those before, with a piece's behind them
pub record IsAdded (piece : Piece) (before after : List ℕ) : Type 0 where
  pub prefix : after ≡ before ++ drop (length before) after
  pub spelled : IsSpelled piece (drop (length before) after)

-- a field was bad, or memory ran out
abbrev pub IsFieldRefusal : Bool → AsmErr → Type 0
IsFieldRefusal bad BadField = bad ≡ true
IsFieldRefusal bad NoMemory = Unit {0}
IsFieldRefusal bad _ = ⊥
