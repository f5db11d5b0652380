-- The program headers of a file, one after another.
use Rattle.std.proofs.Common.{◌≡◌, ℕ, suc, ◌+◌, ◌-◌, ◌*◌, ◌<◌, ◌≤◌, List, [], ◌∷◌, ◌++◌, true, false, filter, refl, sym, ◌∙◌, ap, map, take, length, set, add-one, append_assoc, arith}
use Rattle.std.proofs.Math.Seq.{take-suc-set}
use Rattle.dt_elf.specs.declared.elf.Segment.{Segment}
use Rattle.std.specs.List.{list_any}
use Rattle.dt_elf.specs.declared.layout.TheConstants.{HEADER_SIZE}
use Rattle.dt_elf.specs.declared.header.ProgramHeader.{ProgramHeader}
use Rattle.dt_elf.specs.Header.{program_header, headers_from, e_phoff, e_phnum, is_load, is_interp, segment_from_header, load_segments}

headers-suc : (bytes : List ℕ) (at at' left rest : ℕ) → left ≡ suc rest → at + HEADER_SIZE ≡ at' → headers_from bytes at left ≡ program_header bytes at ∷ headers_from bytes at' rest
unfolding headers_from
headers-suc bytes at at' left rest is next = rw (is, ← next) refl

headers-zero : (bytes : List ℕ) (at left : ℕ) → left ≡ 0 → headers_from bytes at left ≡ []
unfolding headers_from
headers-zero bytes at left is = rw is refl

module _ (bytes : List ℕ) (start count : ℕ) where
  -- the headers from the i-th on
  abbrev pub headers_after : ℕ → List ProgramHeader
  headers_after i = headers_from bytes (start + HEADER_SIZE * i) (count - i)

  pub headers_after-start : headers_after 0 ≡ headers_from bytes start count
  headers_after-start =
      let position : start + HEADER_SIZE * 0 ≡ start = omega arith in
      let left : count - 0 ≡ count = omega arith in
      rw (position, left) refl

  pub headers_after-end : (i : ℕ) → count ≤ i → headers_after i ≡ []
  headers_after-end i all = headers-zero bytes _ _ (omega arith)

  pub headers_after-next : (i : ℕ) → i < count → headers_after i ≡ program_header bytes (start + HEADER_SIZE * i) ∷ headers_after (i + 1)
  headers_after-next i lt = headers-suc bytes _ _ _ _ (omega arith) (omega arith)

  -- a header that loads nothing is passed over
  pub loads-skip : (i : ℕ) → i < count → is_load (program_header bytes (start + HEADER_SIZE * i)) ≡ false → filter is_load (headers_after i) ≡ filter is_load (headers_after (i + 1))
  loads-skip i lt skipped = ap (filter is_load) (headers_after-next i lt) ∙ rw skipped refl

  -- one that loads memory is kept
  pub loads-keep : (i : ℕ) → i < count → is_load (program_header bytes (start + HEADER_SIZE * i)) ≡ true → filter is_load (headers_after i) ≡ program_header bytes (start + HEADER_SIZE * i) ∷ filter is_load (headers_after (i + 1))
  loads-keep i lt kept = ap (filter is_load) (headers_after-next i lt) ∙ rw kept refl

  -- the test for an interpreter goes on where a header asks for none
  pub interps-skip : (i : ℕ) → i < count → is_interp (program_header bytes (start + HEADER_SIZE * i)) ≡ false → list_any is_interp (headers_after i) ≡ list_any is_interp (headers_after (i + 1))
  interps-skip i lt skipped = ap (list_any is_interp) (headers_after-next i lt) ∙ rw skipped refl

  pub interps-found : (i : ℕ) → i < count → is_interp (program_header bytes (start + HEADER_SIZE * i)) ≡ true → list_any is_interp (headers_after i) ≡ true
  interps-found i lt found = ap (list_any is_interp) (headers_after-next i lt) ∙ rw found refl

-- the segments that are still to be read
abbrev pub loads_after : List ℕ → ℕ → List Segment
loads_after bytes i = map segment_from_header (filter is_load (headers_after bytes (e_phoff bytes) (e_phnum bytes) i))

pub load_segments-start : (bytes : List ℕ) → loads_after bytes 0 ≡ load_segments bytes
unfolding load_segments
load_segments-start bytes = ap (λ headers. map segment_from_header (filter is_load headers)) (headers_after-start bytes (e_phoff bytes) (e_phnum bytes))

pub load_segments-next : (bytes : List ℕ) (i : ℕ) (header : ProgramHeader) → i < e_phnum bytes → header ≡ program_header bytes (e_phoff bytes + HEADER_SIZE * i) → is_load header ≡ true → loads_after bytes i ≡ segment_from_header header ∷ loads_after bytes (i + 1)
load_segments-next bytes i header lt is kept = ap (map segment_from_header) (loads-keep bytes (e_phoff bytes) (e_phnum bytes) i lt (ap is_load (sym is) ∙ kept)) ∙ rw is refl

pub load_segments-passed : (bytes : List ℕ) (i : ℕ) (header : ProgramHeader) → i < e_phnum bytes → header ≡ program_header bytes (e_phoff bytes + HEADER_SIZE * i) → is_load header ≡ false → loads_after bytes i ≡ loads_after bytes (i + 1)
load_segments-passed bytes i header lt is skipped = ap (map segment_from_header) (loads-skip bytes (e_phoff bytes) (e_phnum bytes) i lt (ap is_load (sym is) ∙ skipped))

pub load_segments-end : (bytes : List ℕ) (i : ℕ) → e_phnum bytes ≤ i → loads_after bytes i ≡ []
load_segments-end bytes i all = ap (λ headers. map segment_from_header (filter is_load headers)) (headers_after-end bytes (e_phoff bytes) (e_phnum bytes) i all)

-- one more segment in the table
pub table-keep : (table : List Segment) (count : ℕ) (segment : Segment) (rest more all : List Segment) → count < length table → take count table ++ rest ≡ all → rest ≡ segment ∷ more → take (count + 1) (set table count segment) ++ more ≡ all
table-keep table count segment rest more all lt sofar next =
    let shown : take (count + 1) (set table count segment) ≡ take count table ++ segment ∷ [] = rw add-one (take-suc-set table count segment lt) in
    rw (shown, append_assoc) (ap (λ (tail : List Segment). take count table ++ tail) (sym next) ∙ sofar)
