-- What is accepted by its fields is an executable.
use Rattle.std.proofs.Common.{◌≡◌, ◌≤◌, ℕ, true, false, ◌<◌, List, [], ◌∷◌, length, take, drop, Some, nat_le, refl, ap, subst, arith}
use Rattle.std.specs.Prelude.{IsSomeAnd, IsOk, IfOk, Result, Ok, Err, nat_eq, unwrap_or}
use Rattle.std.specs.List.{starts_with, list_any}
use Rattle.std.proofs.lemmas.Bool.Decides.{nat_tests}
use Rattle.dt_base.specs.Fields.{field_at, little_endian}
use Rattle.dt_asm.specs.declared.error.AsmErr.{AsmErr}
use Rattle.dt_asm.specs.Item.{GuestView}
use Rattle.dt_asm.specs.File.{IsFileOf}
use Rattle.dt_asm.specs.Accepted.{IsAccepted, IsRoom}
use Rattle.dt_elf.specs.declared.layout.TheConstants.{MAGIC, CLASS}
use Rattle.dt_elf.specs.Header.{number, e_phoff, e_phnum, e_phentsize, e_entry, e_type, e_machine, headers_from, program_header, program_headers, is_load, is_interp, load_segments, segment_from_header}
use Rattle.dt_elf.specs.Executable.{exe, is_placed, are_placed, has_overlap}
use Rattle.dt_elf.specs.inner.Refused.{is_short, is_bad_header}

field : (k : ℕ) (file : List ℕ) (at n : ℕ) → field_at k file at ≡ Some n → number k file at ≡ n
field k file at n is = ap (λ found. unwrap_or found 0) is

module _ (file : List ℕ) (long : 120 ≤ length file) (is : IsAccepted file) where
  phoff : e_phoff file ≡ 64
  phoff = field 8 file 32 64 is.e_phoff

  phnum : e_phnum file ≡ 1
  phnum = field 2 file 56 1 is.e_phnum

  phentsize : e_phentsize file ≡ 56
  phentsize = field 2 file 54 56 is.e_phentsize

  entry : e_entry file ≡ 0x10078
  entry = field 8 file 24 0x10078 is.e_entry

  kind : e_type file ≡ 2
  kind = field 2 file 16 2 is.e_type

  machine : e_machine file ≡ 243
  machine = field 2 file 18 243 is.e_machine

  whole : is_short file ≡ false
  whole = rw (phoff, phnum) (grind (arith, nat_tests))

  magic : starts_with nat_eq file MAGIC ≡ true
  magic = rw is.magic refl

  class : starts_with nat_eq (drop 4 file) CLASS ≡ true
  class = rw is.class refl

  header : is_bad_header file ≡ false
  header = rw (phentsize, phnum, entry) refl

  one_header : program_headers file ≡ program_header file 64 ∷ []
  unfolding headers_from
  one_header = rw (phoff, phnum) refl

  -- the one program header, with its memory
  module _ (memory : ℕ) (memsz : field_at 8 file 104 ≡ Some memory) (room : IsRoom (length file) memory) where
    h_kind : number 4 file 64 ≡ 1
    h_kind = field 4 file 64 1 is.p_type

    h_offset : number 8 file 72 ≡ 0
    h_offset = field 8 file 72 0 is.p_offset

    h_vaddr : number 8 file 80 ≡ 0x10000
    h_vaddr = field 8 file 80 0x10000 is.p_vaddr

    h_filesz : number 8 file 96 ≡ length file
    h_filesz = field 8 file 96 (length file) is.p_filesz

    h_memsz : number 8 file 104 ≡ memory
    h_memsz = field 8 file 104 memory memsz

    is_loaded : is_load (program_header file 64) ≡ true
    is_loaded = let some : 0 < memory = omega (arith, long, room.holds) in rw (h_kind, h_memsz) (grind (arith, nat_tests))

    asks : is_interp (program_header file 64) ≡ false
    asks = rw h_kind refl

    placed : is_placed file (segment_from_header (program_header file 64)) ≡ true
    placed =
        let holds = room.holds in
        let ends = room.ends in
        rw (h_filesz, h_memsz, h_offset, h_vaddr) (grind (arith, nat_tests))

    one_segment : load_segments file ≡ segment_from_header (program_header file 64) ∷ []
    unfolding load_segments
    one_segment = rw (one_header, is_loaded) refl

    well_placed : are_placed file (load_segments file) ≡ true
    unfolding are_placed
    well_placed = rw (one_segment, placed) refl

    apart : has_overlap (load_segments file) ≡ false
    unfolding has_overlap
    apart = rw one_segment refl

    no_interp : list_any is_interp (program_headers file) ≡ false
    no_interp = rw (one_header, asks) refl

    is_executable : IsOk (exe file)
    is_executable = rw (whole, magic, class, kind, machine, header, well_placed, apart, no_interp) refl

  -- a file that is accepted by its fields is one that can be executed
  pub accepted-runs : IsOk (exe file)
  accepted-runs =
      let there : nat_le 112 (length file) ≡ true = grind (arith, nat_tests) in
      let some : field_at 8 file 104 ≡ Some (little_endian (take 8 (drop 104 file))) = rw there refl in
      is_executable _ some (subst (λ memory. IsSomeAnd memory (IsRoom (length file))) some is.p_memsz)

-- so is what a call answers of which both are known
pub accepted-file : {V : Type 0} (bytes : V → List ℕ) (guest : GuestView) (result : Result V AsmErr) → IfOk result (λ v. IsFileOf guest (bytes v)) → IfOk result (λ v. IsAccepted (bytes v)) → IfOk result (λ v. IsOk (exe (bytes v)))
accepted-file bytes guest (Ok v) file accepted = accepted-runs (bytes v) (omega (arith, file.size)) accepted
accepted-file bytes guest (Err error) file accepted = tt
