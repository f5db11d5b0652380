-- What a handler finds on its stack, and what it is given back: a frame of 400 bytes. The number of the signal stands
-- at its start (`si_signo`, sigaction(2)); the program counter, the registers x1 to x31 and the mask stand at offsets of
-- their own.
use Rattle.std.specs.Prelude.{ℕ, zero, suc, ◌+◌, ◌-◌, ◌%◌, ◌^◌, List, [], ◌∷◌, ◌++◌, replicate, take, drop, None}
use Rattle.dt_base.specs.Fields.{little_endian, low_bytes}
use Rattle.dt_elf.specs.Stack.{word_bytes}
use Rattle.dt_rv64.specs.declared.machine.Machine.{Machine}
use Rattle.dt_rv64.specs.Atomics.{with_reserved}
use Rattle.dt_signals.specs.declared.numbers.TheConstants.{FRAME_SIZE, FRAME_ALIGN, FRAME_PC, FRAME_REGISTERS, FRAME_MASK, SIGNO_SIZE}

-- the frame of a handler of a signal: the number, and zeros behind it; the program counter, the registers, the mask, and
-- zeros to its end
abbrev pub frame_of : ℕ → Machine → ℕ → List ℕ
frame_of signal m mask =
    low_bytes SIGNO_SIZE signal ++ (replicate (FRAME_PC - SIGNO_SIZE) 0
    ++ (low_bytes 8 m.pc ++ (word_bytes (drop 1 m.regs)
    ++ (low_bytes 8 mask ++ replicate (FRAME_SIZE - FRAME_MASK - 8) 0))))

-- where the frame stands for a stack pointer: 400 bytes below it, rounded down to a multiple of 16; addresses wrap
abbrev pub frame_address : ℕ → ℕ
frame_address pointer = let low = (pointer + 2 ^ 64 - FRAME_SIZE) % 2 ^ 64 in low - low % FRAME_ALIGN

-- the word of 64 bits at an offset of a frame
abbrev pub word_in : List ℕ → ℕ → ℕ
word_in frame offset = little_endian (take 8 (drop offset frame))

-- so many words from an offset on
unfoldable pub words_in : List ℕ → ℕ → ℕ → List ℕ
words_in frame offset zero = []
words_in frame offset (suc count) = word_in frame offset ∷ words_in frame (offset + 8) count

-- the machine with the program counter and the registers of a frame; it has nothing reserved
abbrev pub machine_of_frame : List ℕ → Machine → Machine
machine_of_frame frame m =
    with_reserved None (record m { pc = word_in frame FRAME_PC; regs = 0 ∷ words_in frame FRAME_REGISTERS 31 })
