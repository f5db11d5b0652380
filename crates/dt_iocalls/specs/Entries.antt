-- The call that lists a directory: getdents64(2).
use Rattle.std.specs.Prelude.{ℕ, ◌+◌, ◌-◌, ◌*◌, ◌/◌, List, [], ◌∷◌, ◌++◌, length, Option, option_map, slice_get, Result, Ok, Err, nat_le, if◌then◌else◌}
use Rattle.std.specs.List.{filter}
use Rattle.dt_base.specs.Abi.{low_word, byte_count}
use Rattle.dt_base.specs.Bytes.{with_trailing_zeros}
use Rattle.dt_base.specs.Fields.{low_bytes}
use Rattle.dt_base.specs.declared.errno.Errno.TheVariants.{Inval, NoEnt, NotDir, Fault as BadAddress}
use Rattle.dt_fds.specs.declared.desc.DescKind.{DescKind}
use Rattle.dt_fds.specs.declared.desc.DescKind.TheVariants.{File, Dir, Device, PipeRead, PipeWrite, Input, Stream}
use Rattle.dt_fds.specs.declared.desc.Spot.TheVariants.{After}
use Rattle.dt_space.specs.declared.access.Miss.{Miss}
use Rattle.dt_space.specs.Space.{PageView}
use Rattle.dt_space.specs.Write.{pages_after_store}
use Rattle.dt_tree.specs.declared.list.Listed.{Listed}
use Rattle.dt_tree.specs.Listing.{listing, is_left}
use Rattle.dt_tree.specs.Shape.{is_removed}
use Rattle.dt_iocalls.specs.declared.entries.TheConstants.{DIRENT_NAME, DIRENT_ALIGN}
use Rattle.dt_iocalls.specs.Offsets.{name_of, with_spot}
use Rattle.dt_callbase.specs.Arguments.{argument}
use Rattle.dt_callbase.specs.Scene.{Scene, Reply, value_reply, refused_reply, description_of, on_description}

-- how long the record of a name is: it has the name and a 0 behind its fields, and is a multiple of 8
abbrev pub record_len : List ℕ → ℕ
record_len name = (DIRENT_NAME + length name + DIRENT_ALIGN) / DIRENT_ALIGN * DIRENT_ALIGN

-- `struct linux_dirent64`: 8 bytes of inode, 8 of offset (always 0), 2 of length, 1 of type, the name, and zeros
unfoldable pub dirent : Listed → List ℕ
dirent entry = with_trailing_zeros
    (low_bytes 8 entry.vino ++ (low_bytes 8 0 ++ (low_bytes 2 (record_len entry.name) ++ (entry.kind ∷ entry.name))))
    (record_len entry.name)

-- the records of entries, one behind the other
unfoldable pub dirents : List Listed → List ℕ
dirents [] = []
dirents (entry ∷ entries) = dirent entry ++ dirents entries

-- the first entries whose records fit
unfoldable pub fitting_entries : ℕ → List Listed → List Listed
fitting_entries room [] = []
fitting_entries room (entry ∷ entries) =
    if nat_le (record_len entry.name) room then entry ∷ fitting_entries (room - record_len entry.name) entries else []

-- the name of the last of some entries
abbrev pub last_listed : List Listed → Option (List ℕ)
last_listed entries = option_map (λ entry. entry.name) (slice_get entries (length entries - 1))

-- so many bytes came into a buffer, and the listing goes on after that name
abbrev pub entries_fill_reply : Scene → ℕ → Option (List ℕ) → ℕ → Result (List PageView) Miss → Reply
entries_fill_reply s fd last count (Err miss) = refused_reply s BadAddress
entries_fill_reply s fd last count (Ok pages) = value_reply (record (with_spot s fd (After last)) { space = pages }) count

-- entries go to a buffer, and the listing goes on after the last of them
abbrev pub given_entries_reply : ℕ → ℕ → Scene → List Listed → Reply
given_entries_reply fd buffer s given =
    entries_fill_reply s fd (last_listed given) (length (dirents given)) (pages_after_store s.space buffer (dirents given))

-- these entries go to a buffer: EINVAL where not even the next one fits
abbrev pub fitting_entries_reply : ℕ → ℕ → Scene → List Listed → Reply
fitting_entries_reply fd buffer s [] = refused_reply s Inval
fitting_entries_reply fd buffer s (entry ∷ entries) = given_entries_reply fd buffer s (entry ∷ entries)

-- what is left of a listing goes to a buffer, as far as it fits; at its end there is nothing, whatever the buffer
abbrev pub left_entries_reply : ℕ → ℕ → ℕ → Scene → List Listed → Reply
left_entries_reply fd buffer count s [] = value_reply s 0
left_entries_reply fd buffer count s (entry ∷ entries) = fitting_entries_reply fd buffer s (fitting_entries count (entry ∷ entries))

-- what is left of a directory's listing
abbrev pub entries_left : Scene → ℕ → Option (List ℕ) → List Listed
entries_left s n last = filter (λ entry. is_left last entry.name) (listing s.tree.shape n)

-- a directory is listed from where its description stands: ENOENT where it is removed
unfoldable pub listing_reply : ℕ → ℕ → ℕ → ℕ → Option (List ℕ) → Scene → Reply
listing_reply fd buffer count n last s =
    if is_removed s.tree.shape n then refused_reply s NoEnt else left_entries_reply fd buffer count s (entries_left s n last)

-- a listing by what the descriptor refers to
abbrev pub listing_reply_by_kind : ℕ → ℕ → ℕ → DescKind → Option (List ℕ) → Scene → Reply
listing_reply_by_kind fd buffer count (File n) last s = refused_reply s NotDir
listing_reply_by_kind fd buffer count (Dir n) last s = listing_reply fd buffer count n last s
listing_reply_by_kind fd buffer count (Device n) last s = refused_reply s NotDir
listing_reply_by_kind fd buffer count (PipeRead q) last s = refused_reply s NotDir
listing_reply_by_kind fd buffer count (PipeWrite q) last s = refused_reply s NotDir
listing_reply_by_kind fd buffer count Input last s = refused_reply s NotDir
listing_reply_by_kind fd buffer count (Stream stream) last s = refused_reply s NotDir

-- puts the next entries of a directory into a buffer, as many as fit (getdents64(2))
unfoldable pub getdents64_row : List ℕ → Scene → Reply
getdents64_row args s =
    let fd = low_word (argument args 0) in
    on_description s (description_of s fd)
    (λ desc. listing_reply_by_kind fd (argument args 1) (byte_count (argument args 2)) desc.kind (name_of desc.spot) s)
