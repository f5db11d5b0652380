-- The machine that starts an executable (execve(2)).
use Rattle.std.specs.Prelude.{ℕ, ◌+◌, ◌/◌, List, ◌++◌, length, replicate, slice_set, Bool, ◌||◌, nat_lt, Option, Some, None, if◌then◌else◌}
use Rattle.dt_base.specs.declared.abi.TheConstants.{SP}
use Rattle.dt_base.specs.declared.limits.TheConstants.{PAGE_SIZE, PAGE_LIMIT, ARGUMENT_LIMIT}
use Rattle.dt_base.specs.Command.{Words}
use Rattle.dt_elf.specs.declared.layout.TheConstants.{STACK_START, STACK_PAGES, TRAMPOLINE, TRAMPOLINE_CODE}
use Rattle.dt_elf.specs.Header.{e_phnum}
use Rattle.dt_elf.specs.Executable.{Executable}
use Rattle.dt_elf.specs.SegmentPages.{page_numbers, segment_pages}
use Rattle.dt_elf.specs.Stack.{Invocation, words_size, stack_pointer, stack_contents}
use Rattle.dt_rv64.specs.declared.machine.Machine.{Machine}
use Rattle.dt_space.specs.declared.access.TheConstants.{READ, WRITE, EXECUTE}
use Rattle.dt_space.specs.Space.{PageView, granted_rights}
use Rattle.dt_space.specs.Pages.{pages_from}

-- the stack's pages, its contents running through them: the byte at an address of the stack is that of the contents at
-- the offset from the stack's start, or 0 past their end (proved as `stack-byte` in proofs/StackBytes.antt)
abbrev pub stack_pages : Executable → List ℕ → Invocation → List PageView
stack_pages program bytes given =
    pages_from (STACK_START / PAGE_SIZE) (granted_rights (READ + WRITE)) (stack_contents program (e_phnum bytes) given)
    STACK_PAGES

-- the page to which handlers of signals return
abbrev pub trampoline_pages : List PageView
trampoline_pages = pages_from (TRAMPOLINE / PAGE_SIZE) (granted_rights (READ + EXECUTE)) TRAMPOLINE_CODE 1

-- the first machine, with atomics or without: the stack pointer, and all other registers 0
abbrev pub first_machine : Executable → List ℕ → Invocation → Bool → Machine
first_machine program bytes given atomics = record {
  regs = slice_set (replicate 32 0) SP (stack_pointer program (e_phnum bytes) given);
  pc = program.entry;
  space = segment_pages program.segments bytes ++ stack_pages program bytes given ++ trampoline_pages;
  reserved = None;
  atomics = atomics;
}

-- the words or the pages pass their limit
abbrev pub is_too_big : Executable → Words → Bool
is_too_big program words =
    nat_lt ARGUMENT_LIMIT (words_size words.args + words_size words.env)
    || nat_lt PAGE_LIMIT (length (page_numbers program.segments) + STACK_PAGES + 1)

-- the machine that starts an executable, where nothing passes its limit
abbrev pub first : Executable → List ℕ → Invocation → Bool → Option Machine
first program bytes given atomics =
    if is_too_big program given.words then None else Some (first_machine program bytes given atomics)
