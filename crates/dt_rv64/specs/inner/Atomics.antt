-- Inner words: no public clause cites these. How the code names the sizes and the operations of atomics.
use Rattle.std.specs.Prelude.{ℕ, ◌*◌, bit_and, bit_or, bit_xor}
use Rattle.dt_rv64.specs.declared.atomic.Width.{Width}
use Rattle.dt_rv64.specs.declared.atomic.Width.TheVariants.{Word, Double}
use Rattle.dt_rv64.specs.declared.atomic.Operation.{Operation}
use Rattle.dt_rv64.specs.declared.atomic.Operation.TheVariants.{Swap, Add, Xor, And, Or, Min, Max, Minu, Maxu}
use Rattle.dt_rv64.specs.Words.{add}
use Rattle.dt_rv64.specs.Atomics.{swap, min_signed, max_signed, min_unsigned, max_unsigned}

-- how many bytes an atomic works on
abbrev pub bytes_of : Width → ℕ
bytes_of Word = 4
bytes_of Double = 8

-- how many bits
abbrev pub bits_of : Width → ℕ
bits_of width = 8 * bytes_of width

-- an operation on numbers of so many bits
abbrev pub operation_of : Operation → ℕ → ℕ → ℕ → ℕ
operation_of Swap bits a b = swap a b
operation_of Add bits a b = add a b
operation_of Xor bits a b = bit_xor a b
operation_of And bits a b = bit_and a b
operation_of Or bits a b = bit_or a b
operation_of Min bits a b = min_signed bits a b
operation_of Max bits a b = max_signed bits a b
operation_of Minu bits a b = min_unsigned bits a b
operation_of Maxu bits a b = max_unsigned bits a b
