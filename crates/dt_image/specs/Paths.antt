-- The paths of a file tree (path_resolution(7)). A path comes here with the inode that it leads to; the root's
-- path is empty.
use Rattle.std.specs.Prelude.{◌≡◌, ◌≢◌, ℕ, zero, suc, List, [], ◌∷◌, ◌++◌, map, fold, codes, Option, Some, option_and_then}
use Rattle.std.specs.List.{flat_map}
use Rattle.std.specs.FinMap.{empty, entries, insert}
use Rattle.dt_host.specs.World.{Forest, Names, names_at, entry}
use Rattle.dt_tree.specs.Above.{joined_names}
use Rattle.dt_tree.specs.declared.limits.TheConstants.{NODE_LIMIT}
use Rattle.dt_image.specs.declared.paths.TreePath.{TreePath}

-- the node that names lead to from a node: each is an entry of the directory that those before it led to; none where one is
-- missing. No link is followed
unfoldable pub node_from : Forest → ℕ → List (List ℕ) → Option ℕ
node_from v n [] = Some n
node_from v n (name ∷ names) = option_and_then (λ m. node_from v m names) (entry v n name)

-- the node that names lead to from the root
abbrev pub node_from_root : Forest → List (List ℕ) → Option ℕ
node_from_root v names = node_from v v.root names

-- the path leads to the node: it is one name or more, each behind a `/`, which lead there from the root
abbrev pub LeadsTo : Forest → List ℕ → ℕ → Type 0
LeadsTo v path n = (names : List (List ℕ)) × (names ≢ []) × (path ≡ joined_names names) × (node_from_root v names ≡ Some n)

-- the paths of the entries of what stands at a path; none where that is no directory
unfoldable pub paths_below : Forest → List ℕ × ℕ → List (List ℕ × ℕ)
paths_below v at = map (λ e. (at.0 ++ (codes "/" ++ e.0), e.1)) (entries (names_at v at.1))

-- the paths of exactly so many names
unfoldable pub level : Forest → ℕ → List (List ℕ × ℕ)
level v zero = ([], v.root) ∷ []
level v (suc depth) = flat_map (paths_below v) (level v depth)

-- the inodes by path, with one path more
abbrev pub with_path : Names → List ℕ × ℕ → Names
with_path paths at = insert paths at.0 at.1

-- the inodes by path, for the paths of one name up to so many
unfoldable pub paths_to : Forest → ℕ → Names
paths_to v zero = empty
paths_to v (suc depth) = fold with_path (paths_to v depth) (level v (suc depth))

-- the paths of up to NODE_LIMIT names, in byte order. In a tree no path has more names than there are nodes, so these are
-- exactly the paths that lead to a node (the clause `exact` of `tree_lines`)
unfoldable pub paths_of : Forest → List (List ℕ × ℕ)
paths_of v = entries (paths_to v NODE_LIMIT)

-- a path with the inode that it leads to, as the code has it in hand
abbrev pub path_pair : TreePath → List ℕ × ℕ
path_pair at = (at.path, at.inode)
