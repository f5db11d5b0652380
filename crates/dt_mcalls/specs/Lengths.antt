-- Addresses and lengths as whole pages.
use Rattle.std.specs.Prelude.{ℕ, ◌+◌, ◌-◌, ◌/◌, ◌%◌, Bool, ◌==◌, nat_lt}
use Rattle.dt_base.specs.declared.limits.TheConstants.{PAGE_SIZE, ADDRESS_LIMIT}

-- the address is that of a page
abbrev pub is_page_start : ℕ → Bool
is_page_start address = address % PAGE_SIZE == 0

-- how many whole pages so many bytes take
abbrev pub whole_pages : ℕ → ℕ
whole_pages bytes = (bytes + (PAGE_SIZE - 1)) / PAGE_SIZE

-- a range of pages ends past all that a process can have
abbrev pub is_past_end : ℕ → ℕ → Bool
is_past_end first count = nat_lt (ADDRESS_LIMIT / PAGE_SIZE) (first + count)
