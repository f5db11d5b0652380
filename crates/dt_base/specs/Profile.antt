-- The versions of an image, and what each gives to guests.
use Rattle.std.specs.Prelude.{ℕ, Bool, ◌||◌, ◌==◌, if◌then◌else◌}
use Rattle.dt_base.specs.declared.limits.TheConstants.{FILE_LIMIT, FIRST_FILE_LIMIT}
use Rattle.dt_base.specs.declared.profile.TheConstants.{FIRST_VERSION, SECOND_VERSION}

-- there are images of this version
abbrev pub is_version : ℕ → Bool
is_version version = (version == FIRST_VERSION) || (version == SECOND_VERSION)

-- bytes of a file, at most
abbrev pub file_limit : ℕ → ℕ
file_limit version = if version == SECOND_VERSION then FILE_LIMIT else FIRST_FILE_LIMIT

-- guests run the atomic instructions
abbrev pub has_atomics : ℕ → Bool
has_atomics version = version == SECOND_VERSION

-- there are devices
abbrev pub has_devices : ℕ → Bool
has_devices version = version == SECOND_VERSION
