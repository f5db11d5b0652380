-- The stack of a program that starts: its strings, and the words below them (System V ABI, "Process initialization").
use Rattle.std.specs.Prelude.{ℕ, ◌+◌, ◌-◌, ◌*◌, ◌/◌, List, [], ◌∷◌, ◌++◌, length, replicate}
use Rattle.dt_base.specs.Command.{Words}
use Rattle.dt_base.specs.declared.limits.TheConstants.{PAGE_SIZE}
use Rattle.dt_base.specs.Fields.{low_bytes}
use Rattle.dt_elf.specs.declared.layout.TheConstants.{STACK_START, STACK_TOP, STACK_ALIGN, RANDOM_SIZE, HEADER_SIZE, AT_NULL, AT_PHDR, AT_PHENT, AT_PHNUM, AT_PAGESZ, AT_ENTRY, AT_UID, AT_EUID, AT_GID, AT_EGID, AT_CLKTCK, AT_SECURE, AT_RANDOM, AT_EXECFN, ROOT_ID, CLOCK_TICKS}
use Rattle.dt_elf.specs.Executable.{Executable}

-- what a program is executed with: argument and environment words, with the standard input beside them, the path that it
-- is executed by, random bytes
pub record Invocation : Type 0 where
  pub words : Words
  pub execfn : List ℕ
  pub random : List ℕ

abbrev pub invocation : Words → List ℕ → List ℕ → Invocation
invocation words execfn random = record { words = words; execfn = execfn; random = random }

-- an address rounded down to the stack's alignment
abbrev pub aligned_address : ℕ → ℕ
aligned_address address = address / STACK_ALIGN * STACK_ALIGN

-- words, each with its 0
unfoldable pub terminated_words : List (List ℕ) → List ℕ
terminated_words [] = []
terminated_words (word ∷ rest) = word ++ (0 ∷ terminated_words rest)

-- the addresses of words that follow one another with their 0s, the first at this address
unfoldable pub word_addresses : ℕ → List (List ℕ) → List ℕ
word_addresses address [] = []
word_addresses address (word ∷ rest) = address ∷ word_addresses (address + (length word + 1)) rest

-- the strings: random bytes, path, arguments, environment
abbrev pub strings : Invocation → List ℕ
strings given =
    given.random ++ (given.execfn ++ (0 ∷ (terminated_words given.words.args ++ terminated_words given.words.env)))

-- their address: they stand below the stack's top, from a multiple of 16 on
abbrev pub strings_start : Invocation → ℕ
strings_start given = aligned_address (STACK_TOP - length (strings given))

-- the address of the first argument: it follows the random bytes and the path with its 0
abbrev pub args_start : ℕ → List ℕ → ℕ
args_start start execfn = start + RANDOM_SIZE + length execfn + 1

-- the auxiliary vector: pairs of a type and a value (getauxval(3))
abbrev pub auxiliary_vector : Executable → ℕ → ℕ → List ℕ
auxiliary_vector program headers start =
    AT_PHDR ∷ program.phdr ∷ AT_PHENT ∷ HEADER_SIZE ∷ AT_PHNUM ∷ headers ∷ AT_PAGESZ ∷ PAGE_SIZE ∷
    AT_ENTRY ∷ program.entry ∷ AT_UID ∷ ROOT_ID ∷ AT_EUID ∷ ROOT_ID ∷ AT_GID ∷ ROOT_ID ∷ AT_EGID ∷ ROOT_ID ∷
    AT_CLKTCK ∷ CLOCK_TICKS ∷ AT_SECURE ∷ 0 ∷ AT_RANDOM ∷ start ∷ AT_EXECFN ∷ (start + RANDOM_SIZE) ∷
    AT_NULL ∷ 0 ∷ []

-- the words: the number of arguments, their addresses, 0, those of the environment, 0, the auxiliary vector
abbrev pub stack_words_at : Executable → ℕ → Words → List ℕ → ℕ → List ℕ
stack_words_at program headers words execfn start =
    let args_at = args_start start execfn in
    let env_at = args_at + length (terminated_words words.args) in
    length words.args ∷ (word_addresses args_at words.args
    ++ (0 ∷ (word_addresses env_at words.env ++ (0 ∷ auxiliary_vector program headers start))))

unfoldable pub stack_words : Executable → ℕ → Invocation → List ℕ
stack_words program headers given = stack_words_at program headers given.words given.execfn (strings_start given)

-- the address of the first of so many words below the strings, a multiple of 16
abbrev pub pointer_below : ℕ → ℕ → ℕ
pointer_below start words = aligned_address (start - 8 * words)

-- the stack pointer: the address of the first word
abbrev pub stack_pointer : Executable → ℕ → Invocation → ℕ
stack_pointer program headers given = pointer_below (strings_start given) (length (stack_words program headers given))

-- words as bytes, the lowest byte of each first
unfoldable pub word_bytes : List ℕ → List ℕ
word_bytes [] = []
word_bytes (word ∷ rest) = low_bytes 8 word ++ word_bytes rest

-- bytes from the stack's first address on: zeros up to the words, these, zeros up to the strings, these
abbrev pub stack_layout : ℕ → List ℕ → ℕ → List ℕ → List ℕ
stack_layout pointer words start text =
    replicate (pointer - STACK_START) 0 ++ word_bytes words
    ++ replicate (start - (pointer + 8 * length words)) 0 ++ text

-- the stack's bytes, from its first address on; zeros follow
abbrev pub stack_contents : Executable → ℕ → Invocation → List ℕ
stack_contents program headers given =
    stack_layout (stack_pointer program headers given) (stack_words program headers given) (strings_start given)
    (strings given)

-- what words count against the limit: each its length, its 0 and the 8 bytes of its address
unfoldable pub words_size : List (List ℕ) → ℕ
words_size [] = 0
words_size (word ∷ rest) = length word + 9 + words_size rest
