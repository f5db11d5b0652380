-- Buffers of a process in several ranges, which a call takes one after the other as one (readv(2), writev(2)).
use Rattle.std.specs.Prelude.{ℕ, ◌+◌, ◌-◌, ◌%◌, ◌^◌, suc, zero, List, [], ◌∷◌, ◌++◌, take, drop, min, Result, Ok, Err, nat_lt, if◌then◌else◌}
use Rattle.std.specs.List.{sum_by}
use Rattle.dt_base.specs.declared.abi.TheConstants.{IOV_MAX, TRANSFER_LIMIT}
use Rattle.dt_base.specs.declared.errno.Errno.{Errno}
use Rattle.dt_base.specs.declared.errno.Errno.TheVariants.{Inval, Fault as BadAddress}
use Rattle.dt_space.specs.declared.access.Miss.{Miss}
use Rattle.dt_space.specs.declared.access.TheConstants.{READ}
use Rattle.dt_space.specs.Space.{PageView, load, loaded_number}
use Rattle.dt_space.specs.Write.{pages_after_store}
use Rattle.dt_iocalls.specs.declared.ranges.Range.{Range}
use Rattle.dt_iocalls.specs.declared.ranges.TheConstants.{IOVEC_LEN, IOV_LEN}
use Rattle.dt_callbase.specs.Scene.{Scene, Reply, refused_reply}

-- one range alone, of a buffer that is no list of them
abbrev pub one_range : ℕ → ℕ → List Range
one_range address len = record { address = address; len = len } ∷ []

-- how many bytes ranges have together
abbrev pub total_len : List Range → ℕ
total_len ranges = sum_by (λ range. range.len) ranges

-- ranges cut to so many bytes together
unfoldable pub cut_to : ℕ → List Range → List Range
cut_to left [] = []
cut_to left (range ∷ ranges) = record range { len = min range.len left } ∷ cut_to (left - range.len) ranges

-- bytes before others, unless one of the two missed
abbrev pub joined_bytes : Result (List ℕ) Miss → Result (List ℕ) Miss → Result (List ℕ) Miss
joined_bytes (Err miss) rest = Err miss
joined_bytes (Ok bytes) (Err miss) = Err miss
joined_bytes (Ok bytes) (Ok rest) = Ok (bytes ++ rest)

-- the bytes of ranges, or the first miss
unfoldable pub gathered_bytes : List PageView → List Range → Result (List ℕ) Miss
gathered_bytes pages [] = Ok []
gathered_bytes pages (range ∷ ranges) = joined_bytes (load pages READ range.address range.len) (gathered_bytes pages ranges)

-- what follows on pages, unless there was a miss
abbrev pub on_pages : Result (List PageView) Miss → (List PageView → Result (List PageView) Miss) → Result (List PageView) Miss
on_pages (Err miss) next = Err miss
on_pages (Ok pages) next = next pages

-- the pages after bytes were put into ranges, as far as the bytes go, or the first miss
unfoldable pub scattered_pages : List PageView → List Range → List ℕ → Result (List PageView) Miss
scattered_pages pages [] bytes = Ok pages
scattered_pages pages (range ∷ ranges) bytes =
    on_pages (pages_after_store pages range.address (take range.len bytes)) (λ next. scattered_pages next ranges (drop range.len bytes))

-- `struct iovec` of two numbers of 8 bytes that were loaded: an address, and a length
abbrev pub iovec_of : Result ℕ Miss → Result ℕ Miss → Result Range Errno
iovec_of (Err miss) len = Err BadAddress
iovec_of (Ok address) (Err miss) = Err BadAddress
iovec_of (Ok address) (Ok len) = Ok (record { address = address; len = len })

-- the one at an address
abbrev pub iovec_at : List PageView → ℕ → Result Range Errno
iovec_at pages at = iovec_of (loaded_number (load pages READ at 8)) (loaded_number (load pages READ ((at + IOV_LEN) % 2 ^ 64) 8))

-- a range before others, unless one of the two was refused
abbrev pub range_before : Result Range Errno → Result (List Range) Errno → Result (List Range) Errno
range_before (Err errno) rest = Err errno
range_before (Ok range) (Err errno) = Err errno
range_before (Ok range) (Ok ranges) = Ok (range ∷ ranges)

-- so many of them, one behind the other
unfoldable pub iovecs_at : List PageView → ℕ → ℕ → Result (List Range) Errno
iovecs_at pages at zero = Ok []
iovecs_at pages at (suc count) = range_before (iovec_at pages at) (iovecs_at pages ((at + IOVEC_LEN) % 2 ^ 64) count)

-- the ranges, cut to what one call moves at most: EINVAL where their bytes together pass the greatest signed number
abbrev pub cut_ranges : Result (List Range) Errno → Result (List Range) Errno
cut_ranges (Err errno) = Err errno
cut_ranges (Ok ranges) = if nat_lt (2 ^ 63 - 1) (total_len ranges) then Err Inval else Ok (cut_to TRANSFER_LIMIT ranges)

-- the ranges that a call is handed: EINVAL for more than 1,024
unfoldable pub ranges_at : List PageView → ℕ → ℕ → Result (List Range) Errno
ranges_at pages at count = if nat_lt IOV_MAX count then Err Inval else cut_ranges (iovecs_at pages at count)

-- a row for ranges that were read, or the reason why there are none
abbrev pub on_ranges : Scene → Result (List Range) Errno → (List Range → Reply) → Reply
on_ranges s (Err errno) row = refused_reply s errno
on_ranges s (Ok ranges) row = row ranges
