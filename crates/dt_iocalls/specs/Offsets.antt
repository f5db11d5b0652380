-- Where a description goes on: offsets of files, names of listings.
use Rattle.std.specs.Prelude.{ℕ, ◌==◌, Bool, not, List, Option, None}
use Rattle.dt_base.specs.declared.abi.TheConstants.{O_RDONLY, O_WRONLY}
use Rattle.dt_fds.specs.declared.desc.Desc.{Desc}
use Rattle.dt_fds.specs.declared.desc.Spot.{Spot}
use Rattle.dt_fds.specs.declared.desc.Spot.TheVariants.{At, After}
use Rattle.dt_fds.specs.Descriptions.{slot_at, with_slot_description, at_spot}
use Rattle.dt_callbase.specs.Scene.{Scene}

-- the description may be read
abbrev pub is_readable : Desc → Bool
is_readable desc = not (desc.access == O_WRONLY)

-- the description may be written
abbrev pub is_writable : Desc → Bool
is_writable desc = not (desc.access == O_RDONLY)

-- the offset at which a file or the input is read or written next; a directory has none, which is told as 0
abbrev pub offset_of : Spot → ℕ
offset_of (At offset) = offset
offset_of (After name) = 0

-- the name after which a listing goes on, or none at its start; a file has none
abbrev pub name_of : Spot → Option (List ℕ)
name_of (At offset) = None
name_of (After name) = name

-- the description of a descriptor goes on at another offset, or at another point in its listing
abbrev pub with_spot : Scene → ℕ → Spot → Scene
with_spot s fd spot = record s { files = with_slot_description s.files (at_spot spot) (slot_at s.files s.caller.vpid fd) }
