-- The system calls on a process's memory: brk(2), mmap(2), munmap(2), mprotect(2).
use Rattle.std.specs.Prelude.{ℕ}
use Rattle.dt_base.specs.declared.abi.TheConstants.{A0, A1, A2, A3, MMAP, MUNMAP, MPROTECT}
use Rattle.dt_rv64.specs.declared.machine.Machine.{Machine}
use Rattle.dt_rv64.specs.Effects.{register}
use Rattle.dt_mcalls.specs.Called.{MemoryCallResult}
use Rattle.dt_mcalls.specs.Brk.{BrkResult, brk_of}
use Rattle.dt_mcalls.specs.Mmap.{mmap_of}
use Rattle.dt_mcalls.specs.Munmap.{munmap_of}
use Rattle.dt_mcalls.specs.Mprotect.{mprotect_of}
use Rattle.dt_calls.specs.Container.{Shared, task_at, with_task}
use Rattle.dt_calls.specs.Effect.{Effect, done_effect, effect_of_answer}

-- a call of this number leaves the process's pages so, and gives its answer
abbrev pub effect_of_memory_call : Shared → Machine → ℕ → MemoryCallResult → Effect
effect_of_memory_call c m number r = effect_of_answer c (record m { space = r.pages }) number r.answer

-- the break and the pages are these, and the break is the answer
abbrev pub effect_of_break : Shared → ℕ → Machine → BrkResult → Effect
effect_of_break c p m r =
    done_effect (with_task c p (record (task_at c p) { program_break = r.program_break })) (record m { space = r.pages }) r.program_break.end

-- moves the end of the break, or leaves it where it is, and answers where it is then (brk(2))
unfoldable pub brk_call : Shared → ℕ → Machine → Effect
brk_call c p m = effect_of_break c p m (brk_of (task_at c p).program_break m.space (register m A0))

-- takes away the pages of a range, whichever are there (munmap(2))
unfoldable pub munmap_call : Shared → Machine → Effect
munmap_call c m = effect_of_memory_call c m MUNMAP (munmap_of m.space (register m A0) (register m A1))

-- mmap(2), of zeros: which file and which part of it is not looked at
unfoldable pub mmap_call : Shared → Machine → Effect
mmap_call c m = effect_of_memory_call c m MMAP (mmap_of m.space (register m A0) (register m A1) (register m A2) (register m A3))

-- gives the pages of a range other rights, if all of them are there (mprotect(2))
unfoldable pub mprotect_call : Shared → Machine → Effect
mprotect_call c m = effect_of_memory_call c m MPROTECT (mprotect_of m.space (register m A0) (register m A1) (register m A2))
