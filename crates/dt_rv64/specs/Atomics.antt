-- What an atomic does: it reads memory, writes it or does both in one step (RISC-V unprivileged specification, version
-- 20191213, sections 8.2 and 8.4). LR keeps the pair of its address and its size, and SC succeeds exactly where that pair
-- is kept: nothing but SC itself, or another LR, changes the pair while the machine runs.
use Rattle.std.specs.Prelude.{ℕ, ◌*◌, ◌%◌, ◌^◌, Bool, false, ◌==◌, ◌&&◌, not, nat_lt, int_lt, List, Option, None, Some, Result, Ok, Err, if◌then◌else◌}
use Rattle.dt_base.specs.Fields.{low_bytes}
use Rattle.dt_base.specs.declared.abi.TheConstants.{SIGBUS, SIGILL, SIGSEGV}
use Rattle.dt_space.specs.declared.access.Miss.{Miss}
use Rattle.dt_space.specs.Space.{PageView}
use Rattle.dt_space.specs.Write.{pages_after_store}
use Rattle.dt_rv64.specs.declared.machine.Machine.{Machine}
use Rattle.dt_rv64.specs.declared.machine.Step.TheVariants.{Fault}
use Rattle.dt_rv64.specs.Effects.{StepResult, register, register_result, read_at}
use Rattle.dt_rv64.specs.Words.{signed_of, sign_extended}

-- the machine with this pair of an address and a size kept
abbrev pub with_reserved : Option (ℕ × ℕ) → Machine → Machine
with_reserved pair m = record m { reserved = pair }

-- this address and this size are the pair that is kept
abbrev pub is_reserved : Option (ℕ × ℕ) → ℕ → ℕ → Bool
is_reserved None at size = false
is_reserved (Some pair) at size = (pair.0 == at) && (pair.1 == size)

-- why an atomic at an address does not run, before it reads or writes: the machine has no atomics, and the word is to it
-- as one that is none; or the address is no multiple of the size
abbrev pub atomic_fault : Machine → ℕ → ℕ → Option ℕ
atomic_fault m size at = if not m.atomics then Some SIGILL else if at % size == 0 then None else Some SIGBUS

-- what an atomic comes to, unless it does not run
abbrev pub unless_fault : Machine → Option ℕ → StepResult → StepResult
unless_fault m None next = next
unless_fault m (Some signal) next = record { step = Fault signal; machine = m }

-- LR, by what was read: a register gets it, sign-extended, and the pair is kept
abbrev pub lr_by_read : Machine → ℕ → ℕ → ℕ → Result ℕ Miss → StepResult
lr_by_read m size rd at (Ok value) =
    register_result (with_reserved (Some (at, size)) m) rd (sign_extended (8 * size) value)
lr_by_read m size rd at (Err miss) = record { step = Fault SIGSEGV; machine = m }

-- LR, of so many bytes
unfoldable pub lr_result : Machine → ℕ → ℕ → ℕ → StepResult
lr_result m size rd rs1 =
    let at = register m rs1 in
    unless_fault m (atomic_fault m size at) (lr_by_read m size rd at (read_at m at size))

-- SC, by the pages after its store, which needs the right to write whether it succeeds or not: a register gets 0 where the
-- pair was kept, and else 1, and nothing is stored. No pair is kept after either
abbrev pub sc_by_store : Machine → ℕ → ℕ → ℕ → Result (List PageView) Miss → StepResult
sc_by_store m size rd at (Ok space) =
    if is_reserved m.reserved at size then register_result (with_reserved None (record m { space = space })) rd 0
    else register_result (with_reserved None m) rd 1
sc_by_store m size rd at (Err miss) = record { step = Fault SIGSEGV; machine = m }

-- SC, of so many bytes
unfoldable pub sc_result : Machine → ℕ → ℕ → ℕ → ℕ → StepResult
sc_result m size rd rs1 rs2 =
    let at = register m rs1 in
    unless_fault m (atomic_fault m size at)
    (sc_by_store m size rd at (pages_after_store m.space at (low_bytes size (register m rs2))))

-- AMO, by the pages after its store: a register gets the old number, sign-extended
abbrev pub amo_by_store : Machine → ℕ → ℕ → ℕ → Result (List PageView) Miss → StepResult
amo_by_store m size rd old (Ok space) = register_result (record m { space = space }) rd (sign_extended (8 * size) old)
amo_by_store m size rd old (Err miss) = record { step = Fault SIGSEGV; machine = m }

-- AMO, by what was read: what the operation makes of it is stored
abbrev pub amo_by_read : Machine → ℕ → ℕ → ℕ → (ℕ → ℕ) → Result ℕ Miss → StepResult
amo_by_read m size rd at operation (Ok old) =
    amo_by_store m size rd old (pages_after_store m.space at (low_bytes size (operation old)))
amo_by_read m size rd at operation (Err miss) = record { step = Fault SIGSEGV; machine = m }

-- AMO, of so many bytes, by an operation on the old number and a register
unfoldable pub amo_result : Machine → ℕ → ℕ → ℕ → ℕ → (ℕ → ℕ → ℕ) → StepResult
amo_result m size rd rs1 rs2 operation =
    let at = register m rs1 in
    unless_fault m (atomic_fault m size at)
    (amo_by_read m size rd at (λ old. operation old (register m rs2)) (read_at m at size))

-- the register in place of the old number
abbrev pub swap : ℕ → ℕ → ℕ
swap old new = new

-- a is less than b in their lowest bits, so many, signed
abbrev pub is_less_signed : ℕ → ℕ → ℕ → Bool
is_less_signed bits a b = int_lt (signed_of (sign_extended bits a)) (signed_of (sign_extended bits b))

-- a is less than b in their lowest bits, so many, unsigned
abbrev pub is_less : ℕ → ℕ → ℕ → Bool
is_less bits a b = nat_lt (a % 2 ^ bits) (b % 2 ^ bits)

-- the lesser of two, signed
abbrev pub min_signed : ℕ → ℕ → ℕ → ℕ
min_signed bits a b = if is_less_signed bits a b then a else b

-- the greater, signed
abbrev pub max_signed : ℕ → ℕ → ℕ → ℕ
max_signed bits a b = if is_less_signed bits a b then b else a

-- the lesser, unsigned
abbrev pub min_unsigned : ℕ → ℕ → ℕ → ℕ
min_unsigned bits a b = if is_less bits a b then a else b

-- the greater, unsigned
abbrev pub max_unsigned : ℕ → ℕ → ℕ → ℕ
max_unsigned bits a b = if is_less bits a b then b else a
