-- The image that a file tree is exported as.
use Rattle.std.specs.Prelude.{ℕ, nat_lt, Bool, List, [], length, map, Option, None, Some, unwrap_or, option_map, Result, Ok, Err, if◌then◌else◌}
use Rattle.std.specs.List.{list_any}
use Rattle.std.specs.FinMap.{get}
use Rattle.dt_base.specs.Image.{ImageParts}
use Rattle.dt_base.specs.declared.image.Entry.{Entry}
use Rattle.dt_base.specs.declared.image.What.{What}
use Rattle.dt_base.specs.declared.limits.TheConstants.{PATH_LIMIT, ENTRY_LIMIT}
use Rattle.dt_host.specs.World.{file, node_at}
use Rattle.dt_tree.specs.FileTree.{FileTree}
use Rattle.dt_tree.specs.ImageTree.{what_of}
use Rattle.dt_image.specs.Paths.{paths_of}
use Rattle.dt_export.specs.declared.refusal.ExportRefusal.{ExportRefusal}
use Rattle.dt_export.specs.declared.refusal.ExportRefusal.TheVariants.{LongPath, TooMany}

-- the mode of a node. Where there is no node a default stands, here and below; each path of a tree leads to a node
abbrev pub mode_at : FileTree → ℕ → ℕ
mode_at t n = unwrap_or (option_map (λ a. a.mode) (get t.attributes n)) 0

-- how an image shows the node with this inode
abbrev pub what_at : FileTree → ℕ → What
what_at t n = what_of (unwrap_or (node_at t.shape n) (file []))

-- the entry of a path that leads to this inode
abbrev pub entry_at : FileTree → List ℕ × ℕ → Entry
entry_at t at = record { path = at.0; mode = mode_at t at.1; what = what_at t at.1 }

-- an entry for each path below the root (`paths_of` has exactly these: the clause `exact` of `tree_lines`), in byte
-- order. Two names of one file are two entries
abbrev pub exported_entries : FileTree → List Entry
exported_entries t = map (entry_at t) (paths_of t.shape)

-- these, with the version of the tree
abbrev pub exported_image : FileTree → ImageParts
exported_image t = record { version = t.version; entries = exported_entries t }

-- one of these paths has more bytes than a path may have
abbrev pub has_long_path : List (List ℕ × ℕ) → Bool
has_long_path paths = list_any (λ at. nat_lt PATH_LIMIT (length at.0)) paths

-- there are more of them than an image may have entries
abbrev pub has_too_many_paths : List (List ℕ × ℕ) → Bool
has_too_many_paths paths = nat_lt ENTRY_LIMIT (length paths)

-- why an image cannot have these paths, if it cannot: LongPath where one is too long, else TooMany where there are too
-- many
abbrev pub path_refusal : List (List ℕ × ℕ) → Option ExportRefusal
path_refusal paths =
    if has_long_path paths then Some LongPath
    else (if has_too_many_paths paths then Some TooMany else None)

-- the refusal, or what is answered where nothing is refused
abbrev pub unless_refused : {X : Type 0} → Option ExportRefusal → Result X ExportRefusal → Result X ExportRefusal
unless_refused None answer = answer
unless_refused (Some refusal) answer = Err refusal

-- the image of a tree, or why it has none
unfoldable pub image_of_tree : FileTree → Result ImageParts ExportRefusal
image_of_tree t = unless_refused (path_refusal (paths_of t.shape)) (Ok (exported_image t))
