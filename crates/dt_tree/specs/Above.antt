-- What lies above a directory: the directory that names it, and its path (path_resolution(7), getcwd(2)).
use Rattle.std.specs.Prelude.{ℕ, zero, suc, ◌==◌, ◌||◌, Bool, false, if◌then◌else◌, List, [], ◌∷◌, ◌++◌, codes, Option, None, Some, is_some, option_map, option_and_then, unwrap_or}
use Rattle.std.specs.List.{find}
use Rattle.std.specs.FinMap.{keys}
use Rattle.dt_host.specs.World.{Forest, names_at, entry}
use Rattle.dt_tree.specs.declared.limits.TheConstants.{NODE_LIMIT}

-- what may be there is that number
abbrev pub is_this : ℕ → Option ℕ → Bool
is_this n None = false
is_this n (Some x) = n == x

-- the name that a directory has for a node: the first in order
unfoldable pub name_in : Forest → ℕ → ℕ → Option (List ℕ)
name_in v d n = find (λ name. is_this n (entry v d name)) (keys (names_at v d))

-- the directory that names a node: the first in order
unfoldable pub parent_at : Forest → ℕ → Option ℕ
parent_at v n = find (λ d. is_some (name_in v d n)) (keys v.nodes)

-- what `..` of a directory is: the directory that names it, at the root the root, and nothing where it is removed
abbrev pub dot_dot : Forest → ℕ → Option ℕ
dot_dot v d = if d == v.root then Some d else parent_at v d

-- what may be there passes a test
abbrev pub is_there_and : {X : Type 0} → (X → Bool) → Option X → Bool
is_there_and test None = false
is_there_and test (Some x) = test x

-- a node is that one, or going up from it leads there, in fewer than so many steps
unfoldable pub is_below_within : ℕ → Forest → ℕ → ℕ → Bool
is_below_within zero v n above = false
is_below_within (suc k) v n above = (n == above) || is_there_and (λ d. is_below_within k v d above) (parent_at v n)

-- a directory is that one, or stands below it. Going up in a tree takes fewer steps than there are nodes
abbrev pub is_below : Forest → ℕ → ℕ → Bool
is_below v n above = is_below_within NODE_LIMIT v n above

-- the names that lead from the root to a directory, and others behind them; none where going up so many times doesn't reach the root
unfoldable pub names_up : ℕ → Forest → ℕ → List (List ℕ) → Option (List (List ℕ))
names_up zero v n rest = None
names_up (suc k) v n rest =
    if n == v.root then Some rest
    else option_and_then (λ d. names_up k v d (unwrap_or (name_in v d n) [] ∷ rest)) (parent_at v n)

-- names one after the other, each behind a `/`
abbrev pub joined_names : List (List ℕ) → List ℕ
joined_names [] = []
joined_names (name ∷ names) = codes "/" ++ (name ++ joined_names names)

-- the path of these names from the root; that of none is `/`
abbrev pub path_text : List (List ℕ) → List ℕ
path_text [] = codes "/"
path_text (name ∷ names) = joined_names (name ∷ names)

-- the path of a directory; none where it is removed. A directory of a tree reaches the root within as many as there are nodes
abbrev pub path_of : Forest → ℕ → Option (List ℕ)
path_of v n = option_map path_text (names_up NODE_LIMIT v n [])
