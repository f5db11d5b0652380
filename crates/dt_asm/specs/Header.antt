-- The headers of a guest's file (ELF-64 object file format; RISC-V ELF psABI for the machine's number).
use Rattle.std.specs.Prelude.{ℕ, List, [], ◌∷◌, ◌++◌, flat_map}
use Rattle.dt_base.specs.Fields.{low_bytes}

-- e_ident: an ELF file of 64 bits, little-endian, version 1
abbrev pub ident : List ℕ
ident = 0x7F ∷ 0x45 ∷ 0x4C ∷ 0x46 ∷ 2 ∷ 1 ∷ 1 ∷ 0 ∷ 0 ∷ 0 ∷ 0 ∷ 0 ∷ 0 ∷ 0 ∷ 0 ∷ 0 ∷ []

-- e_type (an executable), e_machine (RISC-V) and e_version
abbrev pub kind : List ℕ
kind = low_bytes 2 2 ++ low_bytes 2 243 ++ low_bytes 4 1

-- e_entry, e_phoff and e_shoff
abbrev pub offsets : List ℕ
offsets = low_bytes 8 0x10078 ++ low_bytes 8 64 ++ low_bytes 8 0

-- e_flags, e_ehsize, e_phentsize, e_phnum, e_shentsize, e_shnum and e_shstrndx
abbrev pub sizes : List ℕ
sizes = low_bytes 4 0 ++ low_bytes 2 64 ++ low_bytes 2 56 ++ low_bytes 2 1 ++ low_bytes 2 0 ++ low_bytes 2 0 ++ low_bytes 2 0

-- the file header: its four parts in order
abbrev pub file_header : List ℕ
file_header = ident ++ kind ++ offsets ++ sizes

-- p_type (PT_LOAD), p_flags, p_offset, p_vaddr, p_paddr, p_filesz, p_memsz and p_align
abbrev pub program_header_bytes : ℕ → ℕ → ℕ → List ℕ
program_header_bytes flags filesz memsz =
    low_bytes 4 1 ++ (low_bytes 4 flags ++ flat_map (low_bytes 8) (0 ∷ 0x10000 ∷ 0x10000 ∷ filesz ∷ memsz ∷ 4096 ∷ []))
