-- A file that a reader of executables accepts, by its fields (ELF-64 object file format, "ELF Header" and "Program
-- Header"; RISC-V ELF psABI for the machine's number): one loaded segment, which is the whole file.
use Rattle.std.specs.Prelude.{◌≡◌, ◌≤◌, ◌+◌, ℕ, List, [], ◌∷◌, length, take, drop, Some, IsSomeAnd}
use Rattle.dt_base.specs.Fields.{field_at}

-- a size of memory: the file fits into it, and it ends in the range of images from 0x10000 on
pub record IsRoom (size memory : ℕ) : Type 0 where
  pub holds : size ≤ memory
  pub ends : 0x10000 + memory ≤ 0x2000000000

-- e_ident: the magic, 64 bits, little-endian, version 1; then the fields that say what the file is and where its one
-- program header lies; then that header
pub record IsAccepted (file : List ℕ) : Type 0 where
  pub magic : take 4 file ≡ 0x7F ∷ 0x45 ∷ 0x4C ∷ 0x46 ∷ []
  pub class : take 3 (drop 4 file) ≡ 2 ∷ 1 ∷ 1 ∷ []
  pub e_type : field_at 2 file 16 ≡ Some 2
  pub e_machine : field_at 2 file 18 ≡ Some 243
  pub e_entry : field_at 8 file 24 ≡ Some 0x10078
  pub e_phoff : field_at 8 file 32 ≡ Some 64
  pub e_phentsize : field_at 2 file 54 ≡ Some 56
  pub e_phnum : field_at 2 file 56 ≡ Some 1
  pub p_type : field_at 4 file 64 ≡ Some 1
  pub p_offset : field_at 8 file 72 ≡ Some 0
  pub p_vaddr : field_at 8 file 80 ≡ Some 0x10000
  pub p_filesz : field_at 8 file 96 ≡ Some (length file)
  pub p_memsz : IsSomeAnd (field_at 8 file 104) (IsRoom (length file))
