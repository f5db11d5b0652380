-- Inner words: no public clause cites these. Words that were decoded before.
use Rattle.std.specs.Prelude.{◌≡◌, ℕ, List, slice_index_or}
use Rattle.dt_rv64.specs.declared.instruction.Instr.TheVariants.{Unknown}
use Rattle.dt_rv64.specs.declared.memo.Entry.{Entry}
use Rattle.dt_rv64.specs.Instruction.{instr}

-- each entry has the instruction of its word
abbrev pub AreDecoded : List Entry → Type 0
AreDecoded entries =
    (i : ℕ) → let e = slice_index_or entries i (record { word = 0; instruction = Unknown }) in instr e.word ≡ e.instruction

-- the word that stands at an index
abbrev pub word_at : List Entry → ℕ → ℕ
word_at entries index = let e = slice_index_or entries index (record { word = 0; instruction = Unknown }) in e.word
