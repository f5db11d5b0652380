-- The fields of an ELF-64 file that count (ELF-64 object file format, "File header" and "Program header table").
use Rattle.std.specs.Prelude.{ℕ, zero, suc, ◌+◌, ◌*◌, List, [], ◌∷◌, map, filter, Bool, ◌&&◌, ◌==◌, nat_lt, unwrap_or, if◌then◌else◌}
use Rattle.dt_base.specs.Fields.{field_at}
use Rattle.dt_elf.specs.declared.layout.TheConstants.{PT_LOAD, PT_INTERP, PF_X, PF_W, PF_R, HEADER_SIZE}
use Rattle.dt_elf.specs.declared.elf.Segment.{Segment}
use Rattle.dt_elf.specs.declared.header.ProgramHeader.{ProgramHeader}
use Rattle.dt_space.specs.declared.access.TheConstants.{READ, WRITE, EXECUTE}
use Rattle.dt_space.specs.Space.{has_right}

-- the number of so many bytes at an offset of the file; 0 past its end
abbrev pub number : ℕ → List ℕ → ℕ → ℕ
number width bytes at = unwrap_or (field_at width bytes at) 0

-- the kind of file
abbrev pub e_type : List ℕ → ℕ
e_type bytes = number 2 bytes 16

-- the architecture
abbrev pub e_machine : List ℕ → ℕ
e_machine bytes = number 2 bytes 18

-- the address where it starts
abbrev pub e_entry : List ℕ → ℕ
e_entry bytes = number 8 bytes 24

-- the offset of the program headers
abbrev pub e_phoff : List ℕ → ℕ
e_phoff bytes = number 8 bytes 32

-- the size of one
abbrev pub e_phentsize : List ℕ → ℕ
e_phentsize bytes = number 2 bytes 54

-- how many there are
abbrev pub e_phnum : List ℕ → ℕ
e_phnum bytes = number 2 bytes 56

-- the offset that follows the last
abbrev pub table_end : List ℕ → ℕ
table_end bytes = e_phoff bytes + HEADER_SIZE * e_phnum bytes

-- the program header at an offset
abbrev pub program_header : List ℕ → ℕ → ProgramHeader
program_header bytes at = record {
  kind = number 4 bytes at;
  flags = number 4 bytes (at + 4);
  offset = number 8 bytes (at + 8);
  vaddr = number 8 bytes (at + 16);
  filesz = number 8 bytes (at + 32);
  memsz = number 8 bytes (at + 40);
}

-- so many program headers from an offset on
unfoldable pub headers_from : List ℕ → ℕ → ℕ → List ProgramHeader
headers_from bytes at zero = []
headers_from bytes at (suc count) = program_header bytes at ∷ headers_from bytes (at + HEADER_SIZE) count

-- the file's program headers
abbrev pub program_headers : List ℕ → List ProgramHeader
program_headers bytes = headers_from bytes (e_phoff bytes) (e_phnum bytes)

-- a header that loads memory
abbrev pub is_load : ProgramHeader → Bool
is_load header = header.kind == PT_LOAD && nat_lt 0 header.memsz

-- a header that asks for an interpreter
abbrev pub is_interp : ProgramHeader → Bool
is_interp header = header.kind == PT_INTERP

-- the rights that a header's flags give; the right to write brings the right to read
abbrev pub rights_of : ℕ → ℕ
rights_of flags =
    (if has_right flags PF_W then READ + WRITE else if has_right flags PF_R then READ else 0)
    + (if has_right flags PF_X then EXECUTE else 0)

-- where a program header says that a segment lies, in memory and in the file, with the rights that its flags give
abbrev pub segment_from_header : ProgramHeader → Segment
segment_from_header header = record {
  vaddr = header.vaddr;
  memsz = header.memsz;
  offset = header.offset;
  filesz = header.filesz;
  rights = rights_of header.flags;
}

-- the segments that take memory, in the order of their headers
unfoldable pub load_segments : List ℕ → List Segment
load_segments bytes = map segment_from_header (filter is_load (program_headers bytes))
