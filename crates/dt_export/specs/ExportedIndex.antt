-- The index of the image that a file tree is exported as.
use Rattle.std.specs.Prelude.{ℕ, nat_lt, Bool, true, not, ◌&&◌, List, ◌++◌, length, map, codes, decimal, Result, Ok, Err, if◌then◌else◌}
use Rattle.std.specs.List.{list_all}
use Rattle.std.specs.Str.{is_utf8}
use Rattle.serde_json.specs.Data.{Data, number, unsigned, string, array, object, no_members, member}
use Rattle.serde_json.specs.View.{items_of}
use Rattle.serde_json.specs.Written.{compact_text}
use Rattle.dt_base.specs.declared.image.Device.{Device}
use Rattle.dt_image.specs.Report.{device_name}
use Rattle.dt_base.specs.declared.image.Entry.{Entry}
use Rattle.dt_base.specs.declared.image.What.{What}
use Rattle.dt_base.specs.declared.image.What.TheVariants.{File, Dir, Link, Dev}
use Rattle.dt_base.specs.declared.limits.TheConstants.{INDEX_LIMIT}
use Rattle.dt_tree.specs.FileTree.{FileTree}
use Rattle.dt_image.specs.Paths.{paths_of}
use Rattle.dt_export.specs.declared.refusal.ExportRefusal.{ExportRefusal}
use Rattle.dt_export.specs.declared.refusal.ExportRefusal.TheVariants.{NotText, BigIndex}
use Rattle.dt_export.specs.ExportedImage.{mode_at, what_at, exported_entries}

-- the name of the blob with a file's bytes, by the file's inode: so a file has one blob, however many names it has
abbrev pub blob_name : ℕ → List ℕ
blob_name inode = codes "b" ++ decimal inode

-- the index's object for a file with this inode and mode at a path, its members in byte order of their names
abbrev pub file_object : ℕ → ℕ → List ℕ → Data
file_object inode mode path =
    object (member (codes "blob") (string (blob_name inode))
    (member (codes "mode") (number (unsigned mode))
    (member (codes "path") (string path)
    (member (codes "type") (string (codes "file")) no_members))))

-- the object for a directory
abbrev pub dir_object : ℕ → List ℕ → Data
dir_object mode path =
    object (member (codes "mode") (number (unsigned mode))
    (member (codes "path") (string path)
    (member (codes "type") (string (codes "dir")) no_members)))

-- the object for a symbolic link
abbrev pub link_object : List ℕ → List ℕ → Data
link_object path target =
    object (member (codes "path") (string path)
    (member (codes "target") (string target)
    (member (codes "type") (string (codes "link")) no_members)))

-- the object for a device
abbrev pub dev_object : ℕ → List ℕ → Device → Data
dev_object mode path device =
    object (member (codes "device") (string (device_name device))
    (member (codes "mode") (number (unsigned mode))
    (member (codes "path") (string path)
    (member (codes "type") (string (codes "dev")) no_members))))

-- the object for what stands at a path
abbrev pub what_object : ℕ → ℕ → List ℕ → What → Data
what_object inode mode path (File bytes) = file_object inode mode path
what_object inode mode path Dir = dir_object mode path
what_object inode mode path (Link target) = link_object path target
what_object inode mode path (Dev device) = dev_object mode path device

-- the object for a path that leads to an inode
abbrev pub object_at : FileTree → List ℕ × ℕ → Data
object_at t at = what_object at.1 (mode_at t at.1) at.0 (what_at t at.1)

-- the index of a version with these objects
abbrev pub index_of_objects : ℕ → List Data → Data
index_of_objects version objects =
    object (member (codes "entries") (array (items_of objects))
    (member (codes "version") (number (unsigned version)) no_members))

-- the index that lists a tree's paths: an object for each, in byte order
abbrev pub exported_index : ℕ → FileTree → Data
exported_index version t = index_of_objects version (map (object_at t) (paths_of t.shape))

-- if it is a link, its target is UTF-8
abbrev pub is_text_what : What → Bool
is_text_what (File bytes) = true
is_text_what Dir = true
is_text_what (Link target) = is_utf8 target
is_text_what (Dev device) = true

-- the path of an entry is UTF-8, and so is its target if it is a link
abbrev pub is_text_entry : Entry → Bool
is_text_entry entry = is_utf8 entry.path && is_text_what entry.what

-- a text, or BigIndex where it is longer than an index may be
abbrev pub within_index_limit : List ℕ → Result (List ℕ) ExportRefusal
within_index_limit text = if nat_lt INDEX_LIMIT (length text) then Err BigIndex else Ok text

-- the compact text of the index of a tree, with no white space outside its strings; or the first of these that holds:
-- a path or a target is not UTF-8, the text is longer than an index may be
unfoldable pub index_text : ℕ → FileTree → Result (List ℕ) ExportRefusal
index_text version t =
    if not (list_all is_text_entry (exported_entries t)) then Err NotText
    else within_index_limit (compact_text (exported_index version t))
