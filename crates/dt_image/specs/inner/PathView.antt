-- Inner words: no public clause cites these. What the paths of a tree show in the code.
use Rattle.std.specs.Prelude.{◌≡◌, ℕ, false, List, ◌++◌, codes}
use Rattle.std.specs.BTreeMap.{BTreeMap}
use Rattle.dt_tables.specs.Entries.{map_of}
use Rattle.dt_host.specs.World.{Forest, Names}
use Rattle.dt_tree.specs.declared.list.Listed.{Listed}
use Rattle.dt_tree.specs.Shape.{is_removed}

-- the inodes by path
abbrev pub paths_in : BTreeMap (List ℕ) ℕ → Names
paths_in m = map_of (λ path. path) (λ n. n) m.entries

-- the path of an entry that is listed of a directory at a path
abbrev pub listed_path : List ℕ → Listed → List ℕ × ℕ
listed_path path entry = (path ++ (codes "/" ++ entry.name), entry.vino)

-- it leads to no removed directory
abbrev pub IsPlaced : Forest → List ℕ × ℕ → Type 0
IsPlaced v at = is_removed v at.1 ≡ false
