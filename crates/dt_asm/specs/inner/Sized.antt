-- The size that a guest keeps beside its items.
use Rattle.std.specs.Prelude.{◌≡◌, ◌<◌, ◌+◌, ◌^◌, ℕ, List}
use Rattle.dt_asm.specs.declared.item.Item.{Item}
use Rattle.dt_asm.specs.Item.{total_size}
use Rattle.dt_asm.specs.File.{file_size}

-- the size is that of the file, and a number of 63 bits
pub record IsSized (items : List Item) (size : ℕ) : Type 0 where
  pub size_is : size ≡ file_size items
  pub few : size < 2 ^ 63

-- a size with that of items
pub record IsGrown (before : ℕ) (items : List Item) (after : ℕ) : Type 0 where
  pub after_is : after ≡ before + total_size items
  pub few : after < 2 ^ 63
