-- The executables that can be started (ELF-64 object file format; RISC-V ELF psABI for the machine's number).
use Rattle.std.specs.Prelude.{◌≡◌, ℕ, ◌+◌, ◌-◌, List, [], ◌∷◌, length, drop, Bool, false, not, ◌&&◌, ◌||◌, ◌==◌, nat_eq, nat_lt, nat_le, Option, Some, None, Result, Ok, Err, IsOk, if◌then◌else◌}
use Rattle.std.specs.List.{starts_with, list_any, list_all}
use Rattle.dt_base.specs.declared.limits.TheConstants.{PAGE_SIZE, ADDRESS_LIMIT, MMAP_START}
use Rattle.dt_elf.specs.declared.layout.TheConstants.{MAGIC, CLASS, ET_EXEC, EM_RISCV, FILE_HEADER_SIZE, HEADER_SIZE, HEADER_LIMIT}
use Rattle.dt_elf.specs.declared.elf.ElfErr.{ElfErr}
use Rattle.dt_elf.specs.declared.elf.ElfErr.TheVariants.{Short, Magic, Class, Kind, Machine, Header, Segment as BadSegment, Overlap, Interp, NoMemory}
use Rattle.dt_elf.specs.declared.elf.Elf.{Elf}
use Rattle.dt_elf.specs.declared.elf.Segment.{Segment}
use Rattle.dt_elf.specs.Header.{e_type, e_machine, e_entry, e_phoff, e_phentsize, e_phnum, table_end, program_headers, is_interp, load_segments}

-- the file part lies in the file and in the memory part, and this between the first page and the mappings' start
abbrev pub is_placed : List ℕ → Segment → Bool
is_placed bytes segment =
    nat_le segment.filesz segment.memsz && nat_le (segment.offset + segment.filesz) (length bytes)
    && nat_le PAGE_SIZE segment.vaddr && nat_le (segment.vaddr + segment.memsz) MMAP_START

-- there is a segment, and each is placed well
unfoldable pub are_placed : List ℕ → List Segment → Bool
are_placed bytes segments = not (length segments == 0) && list_all (is_placed bytes) segments

-- some byte of memory is in both segments
abbrev pub share_byte : Segment → Segment → Bool
share_byte one other = nat_lt one.vaddr (other.vaddr + other.memsz) && nat_lt other.vaddr (one.vaddr + one.memsz)

-- some two of the segments share a byte
unfoldable pub has_overlap : List Segment → Bool
has_overlap [] = false
has_overlap (segment ∷ rest) = list_any (share_byte segment) rest || has_overlap rest

-- the first reason why a file is no executable that can be started
abbrev pub refusal : List ℕ → Option ElfErr
refusal bytes =
    if nat_lt (length bytes) FILE_HEADER_SIZE || nat_lt (length bytes) (table_end bytes) then Some Short
    else if not (starts_with nat_eq bytes MAGIC) then Some Magic
    else if not (starts_with nat_eq (drop 4 bytes) CLASS) then Some Class
    else if not (e_type bytes == ET_EXEC) then Some Kind
    else if not (e_machine bytes == EM_RISCV) then Some Machine
    else if not (e_phentsize bytes == HEADER_SIZE) || e_phnum bytes == 0 || nat_lt HEADER_LIMIT (e_phnum bytes)
    || nat_le ADDRESS_LIMIT (e_entry bytes) then Some Header
    else if not (are_placed bytes (load_segments bytes)) then Some BadSegment
    else if has_overlap (load_segments bytes) then Some Overlap
    else if list_any is_interp (program_headers bytes) then Some Interp
    else None

-- the segment's file part holds all program headers
abbrev pub has_table : List ℕ → Segment → Bool
has_table bytes segment =
    nat_le segment.offset (e_phoff bytes) && nat_le (table_end bytes) (segment.offset + segment.filesz)

-- the address of the program headers in a segment that holds them all, else another
abbrev pub table_address_or : List ℕ → Segment → ℕ → ℕ
table_address_or bytes segment other =
    if has_table bytes segment then segment.vaddr + (e_phoff bytes - segment.offset) else other

-- the address of the program headers: in the first segment that holds them all, else 0
unfoldable pub table_address : List ℕ → List Segment → ℕ
table_address bytes [] = 0
table_address bytes (segment ∷ rest) = table_address_or bytes segment (table_address bytes rest)

-- an executable: the address where it starts, that of its program headers, and its segments
pub record Executable : Type 0 where
  pub entry : ℕ
  pub phdr : ℕ
  pub segments : List Segment

-- the executable of a file, where nothing refuses it
abbrev pub exe_of : List ℕ → Option ElfErr → Result Executable ElfErr
exe_of bytes (Some refused) = Err refused
exe_of bytes None = Ok (record {
  entry = e_entry bytes;
  phdr = table_address bytes (load_segments bytes);
  segments = load_segments bytes;
})

-- the executable that a file is, or its first refusal
abbrev pub exe : List ℕ → Result Executable ElfErr
exe bytes = exe_of bytes (refusal bytes)

-- the executable that the program holds
abbrev pub executable : Elf → Executable
executable elf = record { entry = elf.entry; phdr = elf.phdr; segments = elf.segments.items }

-- what is answered where no executable is: its first refusal, or want of memory where there is none
abbrev pub IsElfErr : Result Executable ElfErr → ElfErr → Type 0
IsElfErr read NoMemory = IsOk read
IsElfErr read error = read ≡ Err error
