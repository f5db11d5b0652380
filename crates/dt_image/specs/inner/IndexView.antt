-- Inner words: no public clause cites these. What an index's entries in the code show, and what holds of them.
use Rattle.std.specs.Prelude.{◌≡◌, ℕ, Bool, true, not, ◌&&◌, nat_le, List, Option, Some, Result, Err, if◌then◌else◌}
use Rattle.std.specs.List.{list_any, list_all}
use Rattle.std.specs.Ordering.{nat_cmp, is_eq}
use Rattle.std.specs.BTreeSet.{BTreeSet}
use Rattle.std.specs.declared.cmp.Ordering.{Ordering}
use Rattle.std.specs.Cmp.Lexicographic.{slice_cmp}
use Rattle.std.specs.Borrow.{Bor}
use Rattle.dt_image.specs.declared.index.EntryRef.{EntryRef}
use Rattle.dt_image.specs.declared.index.SourceRef.{SourceRef}
use Rattle.dt_image.specs.declared.index.SourceRef.TheVariants.{File, Dir, Link, Dev}
use Rattle.dt_image.specs.declared.blobs.Measured.{Measured}
use Rattle.dt_host.specs.Store.{StoreFiles, size_of}
use Rattle.dt_base.specs.declared.image.Entry.{Entry}
use Rattle.dt_base.specs.declared.limits.TheConstants.{MODE_LIMIT}
use Rattle.dt_base.specs.Image.{ImageParts, is_dir}
use Rattle.dt_base.specs.Profile.{has_devices}
use Rattle.dt_base.specs.Path.{is_path}
use Rattle.dt_image.specs.Index.{Source, file, dir, link, dev, IndexEntry, is_good_source}
use Rattle.dt_base.specs.declared.refusal.Refusal.{Refusal}
use Rattle.dt_base.specs.declared.refusal.Refusal.TheVariants.{NoParent}
use Rattle.dt_image.specs.ImageOf.{name_below, is_dir_source, has_listed_parent, with_blobs}

-- what the references of a source point to
abbrev pub source_in : SourceRef → Source
source_in (File mode blob) = file mode blob.now
source_in (Dir mode) = dir mode
source_in (Link target) = link target.now
source_in (Dev mode device) = dev mode device

-- the same of an entry
abbrev pub entry_in : EntryRef → IndexEntry
entry_in entry = record { path = entry.path.now; source = source_in entry.source }

-- the entry of a path and what it is made from
abbrev pub entry_at : Bor (List ℕ) × SourceRef → EntryRef
entry_at e = record { path = e.0; source = e.1 }

-- the same, with what the references point to
abbrev pub keyed_entry : Bor (List ℕ) × SourceRef → IndexEntry
keyed_entry e = entry_in (entry_at e)

-- the size of the folder's blob that a file is made from; other entries have none, which counts as 0
abbrev pub blob_size : StoreFiles → List ℕ → Source → Option ℕ
blob_size held folder (file mode blob) = size_of held (name_below folder blob)
blob_size held folder (dir mode) = Some 0
blob_size held folder (link target) = Some 0
blob_size held folder (dev mode device) = Some 0

-- that size was measured
abbrev pub HasSize : StoreFiles → List ℕ → Measured → Type 0
HasSize held folder blob = blob_size held folder (source_in blob.entry.source) ≡ Some blob.size

-- how entries compare: by the bytes of their paths
abbrev pub path_cmp : EntryRef → EntryRef → Ordering
path_cmp a b = slice_cmp nat_cmp a.path.now b.path.now

-- that path is in a set of directories
abbrev pub has_dir : List ℕ → BTreeSet (Bor (List ℕ)) → Bool
has_dir path dirs = list_any (λ dir. is_eq (slice_cmp nat_cmp path dir.now)) dirs.keys

-- a mode is within the limit, and a device stands only where the version has devices
abbrev pub has_mode : ℕ → Source → Bool
has_mode version (file mode blob) = nat_le mode MODE_LIMIT
has_mode version (dir mode) = nat_le mode MODE_LIMIT
has_mode version (link target) = true
has_mode version (dev mode device) = has_devices version && nat_le mode MODE_LIMIT

-- what holds of each entry that is read
abbrev pub is_listed : ℕ → IndexEntry → Bool
is_listed version entry = has_mode version entry.source

-- the source is good, and so is its mode
abbrev pub is_good_made : ℕ → Source → Bool
is_good_made version source = is_good_source source && has_mode version source

-- the entry is one that an image of the version may have
abbrev pub is_sound : ℕ → IndexEntry → Bool
is_sound version entry = is_path entry.path && is_good_made version entry.source

-- where an image's entry stands, and whether it is a directory
abbrev pub path_kind : Entry → List ℕ × Bool
path_kind entry = (entry.path, is_dir entry.what)

-- the same of an entry of an index
abbrev pub path_kind_of : IndexEntry → List ℕ × Bool
path_kind_of entry = (entry.path, is_dir_source entry.source)

-- the image of entries in order, and the input; or that one of them stands in no directory of these, or why the blobs give none
abbrev pub image_in_order : StoreFiles → List ℕ → Option (List ℕ) → ℕ → List IndexEntry → Result (ImageParts × List ℕ) Refusal
image_in_order held folder input version order =
    if not (list_all (has_listed_parent order) order) then Err NoParent else with_blobs held folder input version order
