-- The call that maps pages of zeros: mmap(2).
use Rattle.std.specs.Prelude.{ℕ, ◌+◌, ◌*◌, ◌/◌, List, length, Bool, not, ◌&&◌, ◌||◌, ◌==◌, nat_lt, bit_or, Option, Some, None, if◌then◌else◌}
use Rattle.dt_base.specs.declared.abi.TheConstants.{PROT_ALL, MAP_FIXED}
use Rattle.dt_base.specs.declared.answer.Answer.TheVariants.{Unsupported}
use Rattle.dt_base.specs.declared.errno.Errno.TheVariants.{Inval, NoMem}
use Rattle.dt_base.specs.declared.limits.TheConstants.{PAGE_SIZE, PAGE_LIMIT, MMAP_START}
use Rattle.dt_base.specs.Abi.{low_word, has_flag}
use Rattle.dt_space.specs.Space.{PageView}
use Rattle.dt_space.specs.Ranges.{pages_after_map, pages_after_unmap}
use Rattle.dt_space.specs.Gaps.{lowest_gap}
use Rattle.dt_mcalls.specs.declared.mapping.TheConstants.{MAP_REQUIRED, MAP_KNOWN}
use Rattle.dt_mcalls.specs.Called.{MemoryCallResult, done_memory_call, refused_memory_call}
use Rattle.dt_mcalls.specs.Lengths.{is_page_start, whole_pages, is_past_end}

-- the flags have all that are needed, and none that isn't known
abbrev pub is_supported : ℕ → Bool
is_supported flags = has_flag flags MAP_REQUIRED && bit_or flags MAP_KNOWN == MAP_KNOWN

-- so many pages of zeros are mapped at a range, which must be free; ENOMEM where there would be too many
unfoldable pub mmap_at_free : List PageView → ℕ → ℕ → ℕ → MemoryCallResult
mmap_at_free pages first count rights =
    if nat_lt PAGE_LIMIT (length pages + count) then refused_memory_call pages NoMem
    else done_memory_call (pages_after_map pages first count rights) (first * PAGE_SIZE)

-- so many pages are mapped at an address, in the place of those that are there, which don't count for the limit; EINVAL
-- for an address that is no page's; then ENOMEM for a range that ends past all pages, or too many pages
unfoldable pub mmap_fixed : List PageView → ℕ → ℕ → ℕ → MemoryCallResult
mmap_fixed pages address count rights =
    let first = address / PAGE_SIZE in
    let others = pages_after_unmap pages first count in
    if not (is_page_start address) then refused_memory_call pages Inval
    else if is_past_end first count || nat_lt PAGE_LIMIT (length others + count) then refused_memory_call pages NoMem
    else done_memory_call (pages_after_map others first count rights) address

-- so many pages are mapped at a range's first page, where there is such a range
abbrev pub mmap_by_gap : List PageView → Option ℕ → ℕ → ℕ → MemoryCallResult
mmap_by_gap pages None count rights = refused_memory_call pages NoMem
mmap_by_gap pages (Some first) count rights = mmap_at_free pages first count rights

-- so many pages are mapped at the lowest range that is free, where mappings may begin; ENOMEM where there is none
unfoldable pub mmap_anywhere : List PageView → ℕ → ℕ → MemoryCallResult
mmap_anywhere pages count rights = mmap_by_gap pages (lowest_gap pages (MMAP_START / PAGE_SIZE) count) count rights

-- pages of zeros come, at the address only where that is asked for; without the flags that are needed, or with others than
-- are known, the call is not supported; then EINVAL for no length or for other rights than there are
unfoldable pub mmap_of : List PageView → ℕ → ℕ → ℕ → ℕ → MemoryCallResult
mmap_of pages address len prot flags =
    if not (is_supported flags) then record { pages = pages; answer = Unsupported }
    else if len == 0 || nat_lt PROT_ALL (low_word prot) then refused_memory_call pages Inval
    else if has_flag flags MAP_FIXED then mmap_fixed pages address (whole_pages len) (low_word prot)
    else mmap_anywhere pages (whole_pages len) (low_word prot)
