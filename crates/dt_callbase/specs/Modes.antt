-- The modes of new nodes (umask(2)).
use Rattle.std.specs.Prelude.{ℕ, ◌-◌, bit_and}

-- a mode without the bits of a mask
abbrev pub masked_mode : ℕ → ℕ → ℕ
masked_mode mode umask = mode - bit_and mode umask
