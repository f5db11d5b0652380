-- Inner words: no public clause cites these. What of a list is stored: nothing where it alone is past the limit.
use Rattle.std.specs.Prelude.{◌≡◌, ℕ, ◌<◌, List, Result, Ok, IsTrue}
use Rattle.std.specs.List.{list_all}
use Rattle.std.specs.Result.{IsOkAnd}
use Rattle.dt_base.specs.Path.{has_no_nul}
use Rattle.dt_base.specs.declared.errno.Errno.{Errno}
use Rattle.dt_base.specs.declared.limits.TheConstants.{ARGUMENT_LIMIT}
use Rattle.dt_elf.specs.Stack.{words_size}

-- these are the words of a list, and none has a NUL
pub record AreListed (list : Result (List (List ℕ)) Errno) (words : List (List ℕ)) : Type 0 where
  pub whole : list ≡ Ok words
  pub no_nul : IsTrue (list_all has_no_nul words)

-- the list counts more than the limit
abbrev pub IsTooBig : Result (List (List ℕ)) Errno → Type 0
IsTooBig list = IsOkAnd list (λ words. ARGUMENT_LIMIT < words_size words)
