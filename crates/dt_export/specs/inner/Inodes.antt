-- Inner words: no public clause cites these. How the inodes of files are gathered.
use Rattle.std.specs.Prelude.{ℕ, List, [], map, fold, if◌then◌else◌}
use Rattle.std.specs.List.{filter}
use Rattle.std.specs.Ordering.{nat_cmp}
use Rattle.std.specs.BTreeSet.{insert_key}
use Rattle.dt_host.specs.World.{Forest}
use Rattle.dt_export.specs.ExportedFiles.{is_file}

-- these inodes with one more, if it is a file's
abbrev pub with_inode : Forest → List ℕ → ℕ → List ℕ
with_inode v inodes n = if is_file v n then insert_key nat_cmp inodes n else inodes

-- the inodes that these paths lead to, if they are files: in rising order, each once
abbrev pub inodes_of_files : Forest → List (List ℕ × ℕ) → List ℕ
inodes_of_files v paths = fold (insert_key nat_cmp) [] (filter (is_file v) (map (λ at. at.1) paths))
