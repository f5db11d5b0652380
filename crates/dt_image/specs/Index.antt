-- An image's index: a JSON value that lists what the image holds.
use Rattle.std.specs.Prelude.{ℕ, Bool, true, not, ◌&&◌, ◌||◌, ◌==◌, List, [], ◌∷◌, length, take, codes, nat_le, Option, Some, None, option_map, option_and_then, if◌then◌else◌}
use Rattle.std.specs.List.{list_all}
use Rattle.std.specs.Str.{bytes_eq}
use Rattle.std.specs.Char.{is_ascii_alphanumeric}
use Rattle.serde_json.specs.Data.{Data, Items, no_items, item}
use Rattle.serde_json.specs.Find.{get, as_str, as_number, as_u64, as_array}
use Rattle.dt_base.specs.declared.image.Device.{Device}
use Rattle.dt_base.specs.declared.image.Device.TheVariants.{Null, Zero, Random}
use Rattle.dt_base.specs.Profile.{is_version, has_devices}
use Rattle.dt_base.specs.Path.{is_path}
use Rattle.dt_base.specs.Image.{is_target}
use Rattle.dt_base.specs.declared.limits.TheConstants.{NAME_LIMIT, MODE_LIMIT}

-- what an entry is made from: a file from its mode and the name of the blob with its bytes, a directory from its mode,
-- a symbolic link from its target, a device from its mode and which it is
pub data Source : Type 0 where
  file : ℕ → List ℕ → Source
  dir : ℕ → Source
  link : List ℕ → Source
  dev : ℕ → Device → Source

-- an entry of an index: its path, and what it is made from
pub record IndexEntry : Type 0 where
  pub path : List ℕ
  pub source : Source

-- an index: its version, and its entries in its order
pub record IndexParts : Type 0 where
  pub version : ℕ
  pub entries : List IndexEntry

infixl 10 ◌>>=◌
-- what a value leads to, if there is one
abbrev pub ◌>>=◌ : {A B : Type 0} → Option A → (A → Option B) → Option B
value >>= next = option_and_then next value

-- the text of that member
abbrev pub text_at : List ℕ → Data → Option (List ℕ)
text_at name value = option_and_then as_str (get name value)

-- the whole number of that member
abbrev pub number_at : List ℕ → Data → Option ℕ
number_at name value = option_and_then as_u64 (option_and_then as_number (get name value))

-- the items of that member
abbrev pub items_at : List ℕ → Data → Option Items
items_at name value = option_and_then as_array (get name value)

-- the number, if it is a mode
abbrev pub if_mode : ℕ → Option ℕ
if_mode mode = if nat_le mode MODE_LIMIT then Some mode else None

-- the mode of an entry
abbrev pub mode_of : Data → Option ℕ
mode_of value = option_and_then if_mode (number_at (codes "mode") value)

-- what a file is made from
unfoldable pub file_of : Data → Option Source
file_of value = do
  mode ← mode_of value
  blob ← text_at (codes "blob") value
  Some (file mode blob)

-- what a directory is made from
unfoldable pub dir_of : Data → Option Source
dir_of value = do
  mode ← mode_of value
  Some (dir mode)

-- what a symbolic link is made from
unfoldable pub link_of : Data → Option Source
link_of value = do
  target ← text_at (codes "target") value
  Some (link target)

-- the device of a name
abbrev pub device_of : List ℕ → Option Device
device_of name =
    if bytes_eq name (codes "null") then Some Null
    else (if bytes_eq name (codes "zero") then Some Zero
    else (if bytes_eq name (codes "random") then Some Random else None))

-- what a device is made from
unfoldable pub dev_of : Data → Option Source
dev_of value = do
  mode ← mode_of value
  name ← text_at (codes "device") value
  device ← device_of name
  Some (dev mode device)

-- what an entry of that type is made from in an index of that version, by the members that the type has; others are not
-- looked at
abbrev pub source_of : ℕ → List ℕ → Data → Option Source
source_of version kind value =
    if bytes_eq kind (codes "file") then file_of value
    else (if bytes_eq kind (codes "dir") then dir_of value
    else (if bytes_eq kind (codes "link") then link_of value
    else (if bytes_eq kind (codes "dev") && has_devices version then dev_of value else None)))

-- the entry that a value is, if it is one
unfoldable pub entry_of : ℕ → Data → Option IndexEntry
entry_of version value = do
  path ← text_at (codes "path") value
  kind ← text_at (codes "type") value
  source ← source_of version kind value
  Some (record { path = path; source = source })

-- the entries that these values are, if each is one
abbrev pub entries_of : ℕ → Items → Option (List IndexEntry)
entries_of version no_items = Some []
entries_of version (item value values) = do
  entry ← entry_of version value
  entries ← entries_of version values
  Some (entry ∷ entries)

-- the version of an index, and the values of its entries
unfoldable pub versioned_items : Data → Option (ℕ × Items)
versioned_items value = do
  version ← number_at (codes "version") value
  entries ← items_at (codes "entries") value
  if is_version version then Some (version, entries) else None

-- an index of that version with these values for entries
abbrev pub index_with : ℕ × Items → Option IndexParts
index_with found = option_map (λ entries. record { version = found.0; entries = entries }) (entries_of found.0 found.1)

-- the index that a value is, if it is one
unfoldable pub index_of : Data → Option IndexParts
index_of value = option_and_then index_with (versioned_items value)

-- a letter or digit of ASCII, `.`, `_` or `-`
abbrev pub is_blob_byte : ℕ → Bool
is_blob_byte b = is_ascii_alphanumeric b || (b == 46) || (b == 95) || (b == 45)

-- a name that a blob may have: 1 to 255 of those, the first no `.`
abbrev pub is_blob_name : List ℕ → Bool
is_blob_name name = nat_le 1 (length name) && nat_le (length name) NAME_LIMIT && not (bytes_eq (take 1 name) (codes ".")) && list_all is_blob_byte name

-- the blob's name or the target is good
abbrev pub is_good_source : Source → Bool
is_good_source (file mode blob) = is_blob_name blob
is_good_source (dir mode) = true
is_good_source (link target) = is_target target
is_good_source (dev mode device) = true

-- and so is the path
abbrev pub is_good : IndexEntry → Bool
is_good entry = is_path entry.path && is_good_source entry.source
