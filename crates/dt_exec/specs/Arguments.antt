-- What execve(2) is handed in memory beside a path: two lists of words.
use Rattle.std.specs.Prelude.{ℕ, zero, suc, ◌+◌, ◌%◌, ◌^◌, ◌==◌, List, [], ◌∷◌, Result, Ok, Err, nat_lt, if◌then◌else◌}
use Rattle.dt_base.specs.Command.{Words}
use Rattle.dt_base.specs.declared.errno.Errno.{Errno}
use Rattle.dt_base.specs.declared.errno.Errno.TheVariants.{TooBig, Fault as BadAddress}
use Rattle.dt_base.specs.declared.limits.TheConstants.{ADDRESS_LIMIT, ARGUMENT_LIMIT}
use Rattle.dt_elf.specs.Stack.{words_size}
use Rattle.dt_exec.specs.declared.limits.TheConstants.{LIST_LIMIT, LIST_ENTRY}
use Rattle.dt_space.specs.declared.access.Miss.{Miss}
use Rattle.dt_space.specs.declared.access.TheConstants.{READ}
use Rattle.dt_space.specs.Argument.{text_or}
use Rattle.dt_space.specs.Space.{PageView, load, loaded_number}
use Rattle.dt_space.specs.Text.{text_at_address}

-- a word, which has no limit of its own: a NUL ends it before the first byte that can't be read, or there is EFAULT
abbrev pub word_at : List PageView → ℕ → Result (List ℕ) Errno
word_at pages address = text_or BadAddress (text_at_address pages address ADDRESS_LIMIT)

-- a word before those that follow it
abbrev pub word_before : Result (List ℕ) Errno → Result (List (List ℕ)) Errno → Result (List (List ℕ)) Errno
word_before (Err errno) rest = Err errno
word_before (Ok word) (Err errno) = Err errno
word_before (Ok word) (Ok words) = Ok (word ∷ words)

-- the words of a list that begins with this entry: the address of a word, or the 0 that ends the list
abbrev pub words_from : List PageView → Result ℕ Miss → Result (List (List ℕ)) Errno → Result (List (List ℕ)) Errno
words_from pages (Err miss) rest = Err BadAddress
words_from pages (Ok zero) rest = Ok []
words_from pages (Ok (suc before_it)) rest = word_before (word_at pages (suc before_it)) rest

-- the words of a list whose 0 is one of so many entries; else EFAULT
unfoldable pub words_at : List PageView → ℕ → ℕ → Result (List (List ℕ)) Errno
words_at pages address zero = Err BadAddress
words_at pages address (suc left) =
    words_from pages (loaded_number (load pages READ address LIST_ENTRY)) (words_at pages ((address + LIST_ENTRY) % 2 ^ 64) left)

-- a list of words, which goes as far as entries can be read; one at address 0 is empty
abbrev pub list_argument : List PageView → ℕ → Result (List (List ℕ)) Errno
list_argument pages address = if address == 0 then Ok [] else words_at pages address LIST_LIMIT

-- an empty list of arguments becomes one empty argument
abbrev pub one_at_least : List (List ℕ) → List (List ℕ)
one_at_least [] = [] ∷ []
one_at_least (word ∷ words) = word ∷ words

-- words that count no more than the limit
abbrev pub within_limit : Words → Result Words Errno
within_limit words =
    if nat_lt ARGUMENT_LIMIT (words_size words.args + words_size words.env) then Err TooBig else Ok words

-- the words of two lists, each of which is read to its end before they are counted
abbrev pub command_of : Result (List (List ℕ)) Errno → Result (List (List ℕ)) Errno → Result Words Errno
command_of (Err errno) env = Err errno
command_of (Ok args) (Err errno) = Err errno
command_of (Ok args) (Ok env) = within_limit (record { args = one_at_least args; env = env; input = [] })

-- the words that execve is handed
unfoldable pub command_argument : List PageView → ℕ → ℕ → Result Words Errno
command_argument pages argv envp = command_of (list_argument pages argv) (list_argument pages envp)
