-- The files that an export puts into a folder of a store.
use Rattle.std.specs.Prelude.{ℕ, Bool, ◌&&◌, ◌==◌, List, [], ◌∷◌, ◌++◌, map, fold, codes, is_some, Result}
use Rattle.std.specs.List.{filter, list_any}
use Rattle.std.specs.FinMap.{get, entries}
use Rattle.dt_host.specs.Store.{StoreFiles, with_file}
use Rattle.dt_host.specs.World.{Forest, file_at, content}
use Rattle.dt_tree.specs.FileTree.{FileTree}
use Rattle.dt_image.specs.ImageOf.{name_below}
use Rattle.dt_image.specs.Paths.{paths_of}
use Rattle.dt_export.specs.declared.refusal.ExportRefusal.{ExportRefusal}
use Rattle.dt_export.specs.ExportedImage.{path_refusal, unless_refused}
use Rattle.dt_export.specs.ExportedIndex.{blob_name, index_text}

-- the folder has an index already
abbrev pub has_index : StoreFiles → List ℕ → Bool
has_index files folder = is_some (get files (name_below folder (codes "image.json")))

-- the text of the index that an export of a tree puts, or the first refusal that is of the tree, not of the folder
unfoldable pub exported_text : ℕ → FileTree → Result (List ℕ) ExportRefusal
exported_text version t = unless_refused (path_refusal (paths_of t.shape)) (index_text version t)

-- the node is a file
abbrev pub is_file : Forest → ℕ → Bool
is_file v n = is_some (file_at v n)

-- a path leads to the node
abbrev pub has_path : Forest → ℕ → Bool
has_path v n = list_any (λ at. at.1 == n) (paths_of v)

-- the inodes, rising, of the files that a path leads to
abbrev pub exported_inodes : FileTree → List ℕ
exported_inodes t = filter (λ n. is_file t.shape n && has_path t.shape n) (map (λ e. e.0) (entries t.shape.nodes))

-- the name and the bytes of a file's blob
abbrev pub blob_at : FileTree → ℕ → List ℕ × List ℕ
blob_at t inode = (blob_name inode, content t.shape inode)

-- names and bytes of the files that are put for a tree whose index has this text, in their order: the blob of each file
-- that has a path, by rising inode, then the index
abbrev pub exported_files : FileTree → List ℕ → List (List ℕ × List ℕ)
exported_files t text = map (blob_at t) (exported_inodes t) ++ (codes "image.json", text) ∷ []

-- what a store has after a file was put into a folder
abbrev pub with_file_in : List ℕ → StoreFiles → List ℕ × List ℕ → StoreFiles
with_file_in folder files put = with_file files (name_below folder put.0) put.1

-- and after these were put, one after the other
abbrev pub with_files : StoreFiles → List ℕ → List (List ℕ × List ℕ) → StoreFiles
with_files files folder puts = fold (with_file_in folder) files puts
