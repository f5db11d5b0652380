-- Inner words: no public clause cites these. What matters of a list whose words count more than the limit.
use Rattle.std.specs.Prelude.{ℕ, zero, suc, ◌+◌, ◌%◌, ◌^◌, List, [], ◌∷◌, Bool, is_err, Option, Some, None, Result, Ok, Err}
use Rattle.dt_exec.specs.Arguments.{word_at}
use Rattle.dt_exec.specs.declared.limits.TheConstants.{LIST_ENTRY}
use Rattle.dt_space.specs.declared.access.Miss.{Miss}
use Rattle.dt_space.specs.declared.access.TheConstants.{READ}
use Rattle.dt_space.specs.Space.{PageView, load, loaded_number}

-- an entry before those that follow it, unless it is the 0 that ends the list
abbrev pub entry_before : Result ℕ Miss → Option (List ℕ) → Option (List ℕ)
entry_before (Err miss) rest = None
entry_before (Ok zero) rest = Some []
entry_before (Ok (suc before_it)) None = None
entry_before (Ok (suc before_it)) (Some rest) = Some (suc before_it ∷ rest)

-- the entries of a list whose 0 is one of so many; none where it can't be read that far
unfoldable pub entries_at : List PageView → ℕ → ℕ → Option (List ℕ)
entries_at pages address zero = None
entries_at pages address (suc left) =
    entry_before (loaded_number (load pages READ address LIST_ENTRY)) (entries_at pages ((address + LIST_ENTRY) % 2 ^ 64) left)

-- the word at an address can't be read
abbrev pub is_unread : List PageView → ℕ → Bool
is_unread pages address = is_err (word_at pages address)
