-- The call that gives pages other rights: mprotect(2).
use Rattle.std.specs.Prelude.{ℕ, ◌/◌, List, Bool, not, ◌||◌, ◌==◌, nat_lt, is_some, if◌then◌else◌}
use Rattle.dt_base.specs.declared.abi.TheConstants.{PROT_ALL}
use Rattle.dt_base.specs.declared.errno.Errno.TheVariants.{Inval, NoMem}
use Rattle.dt_base.specs.declared.limits.TheConstants.{PAGE_SIZE}
use Rattle.dt_base.specs.Abi.{low_word}
use Rattle.dt_space.specs.Space.{PageView}
use Rattle.dt_space.specs.Ranges.{first_missing, pages_after_protect}
use Rattle.dt_mcalls.specs.Called.{MemoryCallResult, done_memory_call, refused_memory_call}
use Rattle.dt_mcalls.specs.Lengths.{is_page_start, whole_pages, is_past_end}

-- the range ends past all pages, or one of its pages is missing
abbrev pub is_missing : List PageView → ℕ → ℕ → Bool
is_missing pages first count = is_past_end first count || is_some (first_missing pages first count)

-- the pages of the range are given the rights; EINVAL for an address that is no page's or for other rights than there
-- are; then a length of 0 answers 0 and changes nothing; then ENOMEM where a page is missing
unfoldable pub mprotect_of : List PageView → ℕ → ℕ → ℕ → MemoryCallResult
mprotect_of pages address len prot =
    let first = address / PAGE_SIZE in
    let count = whole_pages len in
    if not (is_page_start address) || nat_lt PROT_ALL (low_word prot) then refused_memory_call pages Inval
    else if len == 0 then done_memory_call pages 0
    else if is_missing pages first count then refused_memory_call pages NoMem
    else done_memory_call (pages_after_protect pages first count (low_word prot)) 0
