-- The pages of an executable's segments.
use Rattle.std.specs.Prelude.{ℕ, ◌+◌, ◌-◌, ◌*◌, List, [], ◌∷◌, map, Bool, ◌&&◌, nat_le, nat_lt, bit_or, slice_index, if◌then◌else◌}
use Rattle.std.specs.List.{filter, list_any, range_with_len}
use Rattle.dt_base.specs.declared.limits.TheConstants.{PAGE_SIZE}
use Rattle.dt_elf.specs.declared.layout.TheConstants.{SEGMENT_PAGES_END}
use Rattle.dt_elf.specs.declared.elf.Segment.{Segment}
use Rattle.dt_space.specs.Space.{PageView, granted_rights}

-- a segment has memory in the page of this number
abbrev pub has_page : ℕ → Segment → Bool
has_page number segment =
    nat_lt segment.vaddr (PAGE_SIZE * (number + 1)) && nat_lt (PAGE_SIZE * number) (segment.vaddr + segment.memsz)

-- some segment has
abbrev pub is_segment_page : List Segment → ℕ → Bool
is_segment_page segments number = list_any (has_page number) segments

-- the numbers below a limit that pass a test, rising
unfoldable pub numbers_below : ℕ → (ℕ → Bool) → List ℕ
numbers_below limit test = filter test (range_with_len 0 limit)

-- the numbers of the pages that the segments touch
abbrev pub page_numbers : List Segment → List ℕ
page_numbers segments = numbers_below SEGMENT_PAGES_END (is_segment_page segments)

-- the rights of others, with a segment's where it touches the page
abbrev pub rights_with : ℕ → Segment → ℕ → ℕ
rights_with number segment others = if has_page number segment then bit_or others segment.rights else others

-- the rights of all segments that touch a page
unfoldable pub page_rights : List Segment → ℕ → ℕ
page_rights [] number = 0
page_rights (segment ∷ rest) number = rights_with number segment (page_rights rest number)

-- the byte at an address: the file's where a segment's file part holds it, else another
abbrev pub segment_byte : Segment → List ℕ → ℕ → ℕ → ℕ
segment_byte segment bytes address other =
    if nat_le segment.vaddr address && nat_lt address (segment.vaddr + segment.filesz)
    then slice_index bytes (segment.offset + (address - segment.vaddr)) else other

-- the byte at an address of the program: that of the file part that holds it, else 0
unfoldable pub loaded_byte : List Segment → List ℕ → ℕ → ℕ
loaded_byte [] bytes address = 0
loaded_byte (segment ∷ rest) bytes address = segment_byte segment bytes address (loaded_byte rest bytes address)

-- the bytes at so many addresses from one on
unfoldable pub loaded_bytes : List Segment → List ℕ → ℕ → ℕ → List ℕ
loaded_bytes segments bytes start count = map (loaded_byte segments bytes) (range_with_len start count)

-- the page of a number
abbrev pub loaded_page : List Segment → List ℕ → ℕ → PageView
loaded_page segments bytes number = record {
  number = number;
  rights = granted_rights (page_rights segments number);
  bytes = loaded_bytes segments bytes (PAGE_SIZE * number) PAGE_SIZE;
}

-- the pages that the segments touch
abbrev pub segment_pages : List Segment → List ℕ → List PageView
segment_pages segments bytes = map (loaded_page segments bytes) (page_numbers segments)
