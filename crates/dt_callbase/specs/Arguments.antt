-- The arguments of a call, and flags (syscall(2)).
use Rattle.std.specs.Prelude.{ℕ, List, ◌==◌, Bool, bit_or, slice_index}

-- an argument, by its index
abbrev pub argument : List ℕ → ℕ → ℕ
argument args index = slice_index args index

-- the flags have none but these
abbrev pub has_only : ℕ → ℕ → Bool
has_only flags known = bit_or flags known == known
