-- How the nodes of a tree hang together: how many names each has, and what lies above it (inode(7), path_resolution(7)).
use Rattle.std.specs.Prelude.{ℕ, zero, suc, Bool, not, ◌&&◌, is_some, ◌≡◌, ◌⊎◌, ◌≤◌, ◌==◌, if◌then◌else◌, List, Some, unwrap_or}
use Rattle.std.specs.FinMap.{empty, len}
use Rattle.dt_host.specs.World.{Forest, Node, dir_names, dir_at, target_at, device_at, names_at, entry, IsLive, IsDir, IsBare}
use Rattle.dt_tables.specs.Total.{total}

-- 1 for that number, and 0 for any other
abbrev pub one_for : ℕ → ℕ → ℕ
one_for n x = if n == x then 1 else 0

-- how many of a directory's entries are for that node; a node of another kind has none
abbrev pub entry_count_for : ℕ → Node → ℕ
entry_count_for n node = total (one_for n) (unwrap_or (dir_names node) empty)

-- how many names a node has: the entries for it, in whatever directory
unfoldable pub name_count_of : Forest → ℕ → ℕ
name_count_of v n = total (entry_count_for n) v.nodes

-- how many names there are in all
unfoldable pub name_count : Forest → ℕ
name_count v = total (λ node. len (unwrap_or (dir_names node) empty)) v.nodes

-- going up so many times from a node leads to that one
unfoldable pub LeadsUp : Forest → ℕ → ℕ → ℕ → Type 0
LeadsUp v zero n above = n ≡ above
LeadsUp v (suc k) n above = (d : ℕ) × (name : List ℕ) × (entry v d name ≡ Some n) × LeadsUp v k d above

-- a node is that one, or stands below it
abbrev pub IsBelow : Forest → ℕ → ℕ → Type 0
IsBelow v n above = (k : ℕ) × LeadsUp v k n above

-- it is the root, or stands below it
abbrev pub IsUnder : Forest → ℕ → Type 0
IsUnder v n = IsBelow v n v.root

-- it has neither a name nor an entry
pub record IsRemoved (v : Forest) (n : ℕ) : Type 0 where
  pub nameless : name_count_of v n ≡ 0
  pub bare : IsBare v n

-- the root is a directory without a name; what is named is there; a directory has at most one name, and stands below the root or is removed
pub record IsShaped (v : Forest) : Type 0 where
  pub root : IsDir v v.root
  pub unnamed : name_count_of v v.root ≡ 0
  pub named : (n : ℕ) → 1 ≤ name_count_of v n → IsLive v n
  pub once : (n : ℕ) → IsDir v n → name_count_of v n ≤ 1
  pub placed : (n : ℕ) → IsDir v n → IsUnder v n ⊎ IsRemoved v n

-- a directory is removed where it has no name and isn't the root; where `IsShaped` holds this is `IsRemoved`
abbrev pub is_removed : Forest → ℕ → Bool
is_removed v d = not (d == v.root) && (name_count_of v d == 0)

-- the node is a directory
abbrev pub is_dir : Forest → ℕ → Bool
is_dir v n = is_some (dir_at v n)

-- the directory has no entries
abbrev pub is_bare : Forest → ℕ → Bool
is_bare v d = len (names_at v d) == 0

-- the node is a symbolic link
abbrev pub is_link : Forest → ℕ → Bool
is_link v n = is_some (target_at v n)

-- the node is a device
abbrev pub is_device : Forest → ℕ → Bool
is_device v n = is_some (device_at v n)
