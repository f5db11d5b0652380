-- The calls on names, by their numbers (syscall(2), riscv64).
use Rattle.std.specs.Prelude.{ℕ, ◌==◌, List, [], ◌∷◌, Bool, if◌then◌else◌}
use Rattle.std.specs.List.{list_any}
use Rattle.dt_base.specs.declared.abi.TheConstants.{MKDIRAT, UNLINKAT, SYMLINKAT, LINKAT, RENAMEAT2}
use Rattle.dt_namecalls.specs.Names.{mkdirat_row, symlinkat_row, linkat_row}
use Rattle.dt_namecalls.specs.Rename.{renameat2_row}
use Rattle.dt_namecalls.specs.Unlink.{unlinkat_row}
use Rattle.dt_callbase.specs.Scene.{Scene, Reply, unsupported_reply}

-- the number is that of a call on names
abbrev pub is_naming : ℕ → Bool
is_naming number = list_any (λ call. call == number) (MKDIRAT ∷ UNLINKAT ∷ SYMLINKAT ∷ LINKAT ∷ RENAMEAT2 ∷ [])

-- the row of the call of a number; any other number is not supported
unfoldable pub name_row : ℕ → List ℕ → Scene → Reply
name_row number args s =
    if number == MKDIRAT then mkdirat_row args s
    else if number == UNLINKAT then unlinkat_row args s
    else if number == SYMLINKAT then symlinkat_row args s
    else if number == LINKAT then linkat_row args s
    else if number == RENAMEAT2 then renameat2_row args s
    else unsupported_reply s
