-- How the segments of an executable lie.
use Rattle.std.specs.Prelude.{◌≤◌, ℕ, ◌+◌, List, length}
use Rattle.std.specs.List.{All}
use Rattle.dt_base.specs.declared.limits.TheConstants.{PAGE_SIZE, MMAP_START}
use Rattle.dt_elf.specs.declared.elf.Segment.{Segment}

-- the file part in the file and in the memory part, and this between the first page and the mappings' start
pub record IsPlaced (bytes : List ℕ) (segment : Segment) : Type 0 where
  pub part : segment.filesz ≤ segment.memsz
  pub in_file : segment.offset + segment.filesz ≤ length bytes
  pub above : PAGE_SIZE ≤ segment.vaddr
  pub below : segment.vaddr + segment.memsz ≤ MMAP_START

-- each of the segments
abbrev pub ArePlaced : List ℕ → List Segment → Type 0
ArePlaced bytes segments = All (IsPlaced bytes) segments

-- each ends where mappings may start, or below
abbrev pub EndBelowMappings : List Segment → Type 0
EndBelowMappings segments = All (λ segment. segment.vaddr + segment.memsz ≤ MMAP_START) segments
