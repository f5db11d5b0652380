-- The image of a folder: what its index and its blobs say.
use Rattle.std.specs.Prelude.{ℕ, Bool, true, false, not, ◌&&◌, ◌||◌, List, [], ◌∷◌, ◌++◌, length, map, fold, codes, nat_le, is_some, Option, Some, None, option_and_then, Result, Ok, Err, if◌then◌else◌}
use Rattle.std.specs.List.{list_all, list_any}
use Rattle.std.specs.Str.{is_utf8, bytes_eq}
use Rattle.std.specs.Ordering.{nat_cmp, is_lt}
use Rattle.std.specs.Cmp.Lexicographic.{slice_cmp}
use Rattle.std.specs.FinMap.{get}
use Rattle.serde_json.specs.Data.{Data}
use Rattle.serde_json.specs.Read.{read}
use Rattle.dt_base.specs.declared.image.Entry.{Entry}
use Rattle.dt_base.specs.declared.image.What.{What}
use Rattle.dt_base.specs.declared.image.What.TheVariants.{File, Dir, Link, Dev}
use Rattle.dt_base.specs.declared.refusal.Refusal.{Refusal}
use Rattle.dt_base.specs.declared.refusal.Refusal.TheVariants.{NoIndex, BadIndex, BadPath, Twice, NoParent, NoBlob, TooBig, TooMany, NoInput, InputBig}
use Rattle.dt_base.specs.declared.limits.TheConstants.{INDEX_LIMIT, FILE_LIMIT, ENTRY_LIMIT, LINK_MODE}
use Rattle.dt_base.specs.Image.{ImageParts}
use Rattle.dt_base.specs.Profile.{file_limit}
use Rattle.dt_base.specs.Path.{is_top, parent_of}
use Rattle.dt_host.specs.Store.{StoreFiles, bytes_of}
use Rattle.dt_image.specs.Index.{Source, file, dir, link, dev, IndexEntry, IndexParts, index_of, is_good, is_blob_name}

-- a store's name of a file in a folder
abbrev pub name_below : List ℕ → List ℕ → List ℕ
name_below folder name = folder ++ (codes "/" ++ name)

-- the JSON value that the bytes of an index are, if they are one within the limit; bytes that are no UTF-8 are none
unfoldable pub value_of : List ℕ → Option Data
value_of bytes = if nat_le (length bytes) INDEX_LIMIT && is_utf8 bytes then read bytes else None

-- the index that bytes are
abbrev pub index_parts : List ℕ → Option IndexParts
index_parts bytes = option_and_then index_of (value_of bytes)

-- the entry is of this path
abbrev pub has_path : List ℕ → IndexEntry → Bool
has_path path entry = bytes_eq path entry.path

-- two of the entries have one path
abbrev pub has_twice : List IndexEntry → Bool
has_twice [] = false
has_twice (entry ∷ entries) = list_any (has_path entry.path) entries || has_twice entries

-- a directory is made from it
abbrev pub is_dir_source : Source → Bool
is_dir_source (file mode blob) = false
is_dir_source (dir mode) = true
is_dir_source (link target) = false
is_dir_source (dev mode device) = false

-- it is a directory of that path
abbrev pub is_dir_of_path : List ℕ → IndexEntry → Bool
is_dir_of_path path entry = is_dir_source entry.source && bytes_eq path entry.path

-- the entry stands in the root, or in a directory that these list
abbrev pub has_listed_parent : List IndexEntry → IndexEntry → Bool
has_listed_parent entries entry = is_top entry.path || list_any (is_dir_of_path (parent_of entry.path)) entries

-- the entries with one more, which stands before the first whose path is greater
abbrev pub with_index_entry : List IndexEntry → IndexEntry → List IndexEntry
with_index_entry [] entry = entry ∷ []
with_index_entry (next ∷ entries) entry = if is_lt (slice_cmp nat_cmp entry.path next.path) then entry ∷ next ∷ entries else next ∷ with_index_entry entries entry

-- the entries in byte order of their paths
unfoldable pub sorted_entries : List IndexEntry → List IndexEntry
sorted_entries entries = fold with_index_entry [] entries

-- the bytes of a blob of the folder
abbrev pub blob_of : StoreFiles → List ℕ → List ℕ → List ℕ
blob_of files folder blob = bytes_of files (name_below folder blob)

-- the folder has the blob that a file is made from
abbrev pub has_blob : StoreFiles → List ℕ → Source → Bool
has_blob files folder (file mode blob) = is_some (get files (name_below folder blob))
has_blob files folder (dir mode) = true
has_blob files folder (link target) = true
has_blob files folder (dev mode device) = true

-- that blob is no longer than a file of the version may be
abbrev pub is_within_limit : StoreFiles → List ℕ → ℕ → Source → Bool
is_within_limit files folder version (file mode blob) = nat_le (length (blob_of files folder blob)) (file_limit version)
is_within_limit files folder version (dir mode) = true
is_within_limit files folder version (link target) = true
is_within_limit files folder version (dev mode device) = true

-- what is made, with the bytes of its blob
abbrev pub source_what : StoreFiles → List ℕ → Source → What
source_what files folder (file mode blob) = File (blob_of files folder blob)
source_what files folder (dir mode) = Dir
source_what files folder (link target) = Link target
source_what files folder (dev mode device) = Dev device

-- its mode, which is the same for all links
abbrev pub source_mode : Source → ℕ
source_mode (file mode blob) = mode
source_mode (dir mode) = mode
source_mode (link target) = LINK_MODE
source_mode (dev mode device) = mode

-- the image's entry
abbrev pub entry_with : StoreFiles → List ℕ → IndexEntry → Entry
entry_with files folder entry = record { path = entry.path; mode = source_mode entry.source; what = source_what files folder entry.source }

-- the bytes of a blob, if it is there and they are no more than standard input may have
abbrev pub input_within_limit : Option (List ℕ) → Result (List ℕ) Refusal
input_within_limit None = Err NoInput
input_within_limit (Some bytes) = if nat_le (length bytes) FILE_LIMIT then Ok bytes else Err InputBig

-- the bytes of standard input, which are none where no blob is named; or the first of these that holds: the name is not good or
-- the blob is missing, it is too long
abbrev pub named_input : StoreFiles → List ℕ → Option (List ℕ) → Result (List ℕ) Refusal
named_input files folder None = Ok []
named_input files folder (Some blob) =
    if is_blob_name blob then input_within_limit (get files (name_below folder blob)) else Err NoInput

-- an image with its input
abbrev pub image_with_input : ImageParts → Result (List ℕ) Refusal → Result (ImageParts × List ℕ) Refusal
image_with_input image (Err refusal) = Err refusal
image_with_input image (Ok input) = Ok (image, input)

-- the image of a version of entries in order, with the bytes of their blobs
abbrev pub image_of_order : StoreFiles → List ℕ → ℕ → List IndexEntry → ImageParts
image_of_order files folder version order = record { version = version; entries = map (entry_with files folder) order }

-- that image and the input; or the first of these that holds: a blob is missing, one is too long, there are too many entries,
-- there is no such input, it is too long
unfoldable pub with_blobs : StoreFiles → List ℕ → Option (List ℕ) → ℕ → List IndexEntry → Result (ImageParts × List ℕ) Refusal
with_blobs files folder input version order =
    if not (list_all (λ entry. has_blob files folder entry.source) order) then Err NoBlob
    else (if not (list_all (λ entry. is_within_limit files folder version entry.source) order) then Err TooBig
    else (if nat_le (length order) ENTRY_LIMIT
    then image_with_input (image_of_order files folder version order) (named_input files folder input) else Err TooMany))

-- the image of an index, and the input; or the first of these that holds: a path, target or blob's name is not good, a
-- path stands twice, an entry stands in no directory of the index, or as above
unfoldable pub image_from : StoreFiles → List ℕ → Option (List ℕ) → IndexParts → Result (ImageParts × List ℕ) Refusal
image_from files folder input index =
    if not (list_all is_good index.entries) then Err BadPath
    else (if has_twice index.entries then Err Twice
    else (if not (list_all (has_listed_parent index.entries) index.entries) then Err NoParent
    else with_blobs files folder input index.version (sorted_entries index.entries)))

-- the same, if there is an index
abbrev pub image_from_index : StoreFiles → List ℕ → Option (List ℕ) → Option IndexParts → Result (ImageParts × List ℕ) Refusal
image_from_index files folder input None = Err BadIndex
image_from_index files folder input (Some index) = image_from files folder input index

-- the image of a folder with or without the bytes of an index, and the input
abbrev pub image_by : StoreFiles → List ℕ → Option (List ℕ) → Option (List ℕ) → Result (ImageParts × List ℕ) Refusal
image_by files folder input None = Err NoIndex
image_by files folder input (Some bytes) = image_from_index files folder input (index_parts bytes)

-- the image of a folder with the bytes of the blob that is named as standard input, if one is; or why there is none
abbrev pub image_of : StoreFiles → List ℕ → Option (List ℕ) → Result (ImageParts × List ℕ) Refusal
image_of files folder input = image_by files folder input (get files (name_below folder (codes "image.json")))
