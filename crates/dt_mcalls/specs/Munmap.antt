-- The call that takes pages away: munmap(2).
use Rattle.std.specs.Prelude.{ℕ, ◌/◌, List, not, ◌||◌, ◌==◌, if◌then◌else◌}
use Rattle.dt_base.specs.declared.errno.Errno.TheVariants.{Inval}
use Rattle.dt_base.specs.declared.limits.TheConstants.{PAGE_SIZE}
use Rattle.dt_space.specs.Space.{PageView}
use Rattle.dt_space.specs.Ranges.{pages_after_unmap}
use Rattle.dt_mcalls.specs.Called.{MemoryCallResult, done_memory_call, refused_memory_call}
use Rattle.dt_mcalls.specs.Lengths.{is_page_start, whole_pages, is_past_end}

-- the pages of the range go that are there; EINVAL for an address that is no page's, no length, or a range that ends
-- past all pages
unfoldable pub munmap_of : List PageView → ℕ → ℕ → MemoryCallResult
munmap_of pages address len =
    let first = address / PAGE_SIZE in
    let count = whole_pages len in
    if not (is_page_start address) || (len == 0 || is_past_end first count) then refused_memory_call pages Inval
    else done_memory_call (pages_after_unmap pages first count) 0
