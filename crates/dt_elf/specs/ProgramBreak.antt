-- The end of a program's data when it starts (brk(2)).
use Rattle.std.specs.Prelude.{ℕ, ◌+◌, ◌-◌, ◌*◌, ◌/◌, List, [], ◌∷◌, max}
use Rattle.dt_base.specs.declared.limits.TheConstants.{PAGE_SIZE}
use Rattle.dt_elf.specs.declared.elf.Segment.{Segment}
use Rattle.dt_elf.specs.Executable.{Executable}

-- the greatest of the addresses that follow segments
unfoldable pub segments_end : List Segment → ℕ
segments_end [] = 0
segments_end (segment ∷ rest) = max (segments_end rest) (segment.vaddr + segment.memsz)

-- where the break starts: the end of the highest segment, rounded up to a page
abbrev pub program_break : Executable → ℕ
program_break program = (segments_end program.segments + (PAGE_SIZE - 1)) / PAGE_SIZE * PAGE_SIZE
