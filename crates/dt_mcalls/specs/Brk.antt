-- The call that moves the break of a process: brk(2).
use Rattle.std.specs.Prelude.{ℕ, ◌+◌, ◌-◌, ◌≤◌, List, Bool, not, ◌&&◌, ◌||◌, nat_lt, is_some, if◌then◌else◌}
use Rattle.dt_base.specs.declared.limits.TheConstants.{ADDRESS_LIMIT}
use Rattle.dt_space.specs.declared.access.TheConstants.{READ, WRITE}
use Rattle.dt_space.specs.Space.{PageView}
use Rattle.dt_space.specs.Ranges.{map_refusal, pages_after_map, pages_after_unmap}
use Rattle.dt_mcalls.specs.declared.program_break.Break.{Break}
use Rattle.dt_mcalls.specs.Lengths.{whole_pages}

-- the break lies between its start and the end of the addresses
pub record IsBreak (program_break : Break) : Type 0 where
  pub ordered : program_break.start ≤ program_break.end
  pub low : program_break.end ≤ ADDRESS_LIMIT

-- the break and the pages after a call
pub record BrkResult : Type 0 where
  pub program_break : Break
  pub pages : List PageView

-- the new break takes more whole pages than the old one
abbrev pub is_growing : Break → ℕ → Bool
is_growing program_break address = nat_lt (whole_pages program_break.end) (whole_pages address)

-- the pages that are to come cannot be mapped: one of them is there, or there would be too many
abbrev pub is_blocked : Break → List PageView → ℕ → Bool
is_blocked program_break pages address =
    is_some (map_refusal pages (whole_pages program_break.end) (whole_pages address - whole_pages program_break.end))

-- the address lies below the break's start or past the end of all pages, or the pages cannot be mapped
abbrev pub is_brk_refused : Break → List PageView → ℕ → Bool
is_brk_refused program_break pages address =
    nat_lt address program_break.start || (nat_lt ADDRESS_LIMIT address
    || (is_growing program_break address && is_blocked program_break pages address))

-- the pages between the old break and the new one come, to be read and written, or go, whatever call put them there; each
-- break takes whole pages
abbrev pub brk_pages : Break → List PageView → ℕ → List PageView
brk_pages program_break pages address =
    let old = whole_pages program_break.end in
    let new = whole_pages address in
    if is_growing program_break address then pages_after_map pages old (new - old) (READ + WRITE)
    else pages_after_unmap pages new (old - new)

-- the break moves to the address, or all stays
unfoldable pub brk_of : Break → List PageView → ℕ → BrkResult
brk_of program_break pages address =
    if is_brk_refused program_break pages address then record { program_break = program_break; pages = pages }
    else record {
      program_break = record program_break { end = address };
      pages = brk_pages program_break pages address;
    }

-- the call maps pages
abbrev pub is_brk_mapping : Break → List PageView → ℕ → Bool
is_brk_mapping program_break pages address =
    not (is_brk_refused program_break pages address) && is_growing program_break address
