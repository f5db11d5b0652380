-- The file of a guest is one that a reader of executables accepts.
use Rattle.std.proofs.Common.{◌≡◌, ◌≤◌, ◌<◌, ◌^◌, ℕ, ◌+◌, true, cond, Option, Some, None, List, ◌++◌, length, take, drop, max, sym, ap, subst, ◌∙◌, arith}
use Rattle.std.specs.Prelude.{nat_le, IfSome, IsSomeAnd}
use Rattle.std.proofs.lemmas.List.{take-append-drop}
use Rattle.std.proofs.lemmas.Bool.Decides.{nat_tests}
use Rattle.dt_base.specs.declared.limits.TheConstants.{FILE_LIMIT}
use Rattle.dt_base.specs.Fields.{little_endian, low_bytes, field_at}
use Rattle.dt_asm.specs.Item.{GuestView}
use Rattle.dt_asm.specs.Header.{file_header, program_header_bytes}
use Rattle.dt_asm.specs.File.{file_size, segment_header, IsFileOf}
use Rattle.dt_asm.specs.Accepted.{IsRoom, IsAccepted}

within : (n m : ℕ) → n ≤ m → nat_le n m ≡ true
within n m h = grind (arith, nat_tests)

-- a field of a file in two parts
read : (width at : ℕ) (file prefix back : List ℕ) → file ≡ prefix ++ back → at + width ≤ length file → field_at width file at ≡ Some (little_endian (take width (drop at (prefix ++ back))))
read width at file prefix back e h =
    ap (λ b. cond b (Some (little_endian (take width (drop at file)))) None) (within (at + width) (length file) h)
    ∙ ap (λ xs. Some (little_endian (take width (drop at xs)))) e

number_of : (n : ℕ) → n < 2 ^ 64 → little_endian (low_bytes 8 n) ≡ n
number_of n h = omega arith

module _ (flags filesz memsz : ℕ) (file back : List ℕ) (e : file ≡ (file_header ++ program_header_bytes flags filesz memsz) ++ back) (size : length file ≡ filesz) (h : 120 ≤ filesz) (few : filesz < 2 ^ 64) (room : IsRoom filesz memsz) where
  field : (width at : ℕ) → at + width ≤ 120 → field_at width file at ≡ Some (little_endian (take width (drop at ((file_header ++ program_header_bytes flags filesz memsz) ++ back))))
  field width at lt = read width at file (file_header ++ program_header_bytes flags filesz memsz) back e (omega arith)

  memory_is : field_at 8 file 104 ≡ Some memsz
  memory_is = let below : memsz < 2 ^ 64 = let ends = room.ends in omega arith in field 8 104 (omega arith) ∙ ap Some (number_of memsz below)

  pub accepts : IsAccepted file
  accepts = record {
    magic = ap (take 4) e;
    class = ap (λ xs. take 3 (drop 4 xs)) e;
    e_type = field 2 16 (omega arith);
    e_machine = field 2 18 (omega arith);
    e_entry = field 8 24 (omega arith);
    e_phoff = field 8 32 (omega arith);
    e_phentsize = field 2 54 (omega arith);
    e_phnum = field 2 56 (omega arith);
    p_type = field 4 64 (omega arith);
    p_offset = field 8 72 (omega arith);
    p_vaddr = field 8 80 (omega arith);
    p_filesz = field 8 96 (omega arith) ∙ ap Some (number_of filesz few ∙ sym size);
    p_memsz = subst (λ o. IsSomeAnd o (IsRoom (length file))) (sym memory_is) (subst (λ n. IsRoom n memsz) (sym size) room);
  }

-- a file of few bytes is accepted, whatever its guest's memory
accepted_by : (memory : Option ℕ) (size : ℕ) (file : List ℕ) → IfSome memory (λ m. m < 2 ^ 32) → length file ≡ size → 120 ≤ size → size ≤ FILE_LIMIT
    → take 120 file ≡ file_header ++ segment_header memory size → IsAccepted file
accepted_by None size file m is low high headers =
    accepts 5 size size file (drop 120 file) (sym (take-append-drop 120 file) ∙ ap (λ xs. xs ++ drop 120 file) headers) is low (omega arith)
    (record { holds = omega arith; ends = omega arith })
accepted_by (Some memory) size file m is low high headers =
    accepts 7 size (max size memory) file (drop 120 file) (sym (take-append-drop 120 file) ∙ ap (λ xs. xs ++ drop 120 file) headers) is low (omega arith)
    (record { holds = omega arith; ends = omega arith })

pub accepted : (guest : GuestView) (file : List ℕ) → IsFileOf guest file → IfSome guest.memory (λ m. m < 2 ^ 32) → file_size guest.items ≤ FILE_LIMIT → IsAccepted file
accepted guest file is m high = accepted_by guest.memory (file_size guest.items) file m is.size (omega arith) high is.headers
