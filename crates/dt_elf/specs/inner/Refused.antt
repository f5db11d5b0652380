-- Parts of the list of refusals, for the functions that try them.
use Rattle.std.specs.Prelude.{ℕ, List, length, Bool, not, ◌||◌, ◌==◌, nat_lt, nat_le, Option, Some, None, if◌then◌else◌}
use Rattle.std.specs.List.{list_any}
use Rattle.dt_base.specs.declared.limits.TheConstants.{ADDRESS_LIMIT}
use Rattle.dt_elf.specs.declared.layout.TheConstants.{FILE_HEADER_SIZE, HEADER_SIZE, HEADER_LIMIT}
use Rattle.dt_elf.specs.declared.elf.ElfErr.{ElfErr}
use Rattle.dt_elf.specs.declared.elf.ElfErr.TheVariants.{Segment as BadSegment, Overlap, Interp}
use Rattle.dt_elf.specs.Header.{table_end, e_phentsize, e_phnum, e_entry, load_segments, is_interp, program_headers}
use Rattle.dt_elf.specs.Executable.{are_placed, has_overlap}

-- the file's header and its program headers don't fit into the file
abbrev pub is_short : List ℕ → Bool
is_short bytes = nat_lt (length bytes) FILE_HEADER_SIZE || nat_lt (length bytes) (table_end bytes)

-- the program headers can't be used, or the entry lies outside the address space
abbrev pub is_bad_header : List ℕ → Bool
is_bad_header bytes =
    not (e_phentsize bytes == HEADER_SIZE) || e_phnum bytes == 0 || nat_lt HEADER_LIMIT (e_phnum bytes)
    || nat_le ADDRESS_LIMIT (e_entry bytes)

-- the first reason that lies in the program headers
abbrev pub segments_refusal : List ℕ → Option ElfErr
segments_refusal bytes =
    if not (are_placed bytes (load_segments bytes)) then Some BadSegment
    else if has_overlap (load_segments bytes) then Some Overlap
    else if list_any is_interp (program_headers bytes) then Some Interp
    else None
