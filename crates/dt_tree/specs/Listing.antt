-- The listing of a directory (readdir(3)).
use Rattle.std.specs.Prelude.{ℕ, Bool, true, ◌&&◌, ◌||◌, ◌==◌, List, ◌∷◌, map, take, codes, nat_lt, if◌then◌else◌, Option, None, Some, unwrap_or, option_map}
use Rattle.std.specs.List.{filter}
use Rattle.std.specs.Str.{bytes_eq}
use Rattle.std.specs.Ordering.{nat_cmp, is_lt}
use Rattle.std.specs.Cmp.Lexicographic.{slice_cmp}
use Rattle.std.specs.FinMap.{entries}
use Rattle.dt_host.specs.World.{Forest, Node, file, dir, link, device, node_at, names_at}
use Rattle.dt_base.specs.declared.abi.TheConstants.{DT_DIR, DT_REG, DT_LNK, DT_CHR}
use Rattle.dt_tree.specs.declared.list.Listed.{Listed}
use Rattle.dt_tree.specs.Above.{dot_dot}

-- the type that an entry for this node has
abbrev pub type_of : Node → ℕ
type_of (file bytes) = DT_REG
type_of (dir names) = DT_DIR
type_of (link target) = DT_LNK
type_of (device which) = DT_CHR

-- the type of a node that is there
abbrev pub type_at : Forest → ℕ → ℕ
type_at v n = unwrap_or (option_map type_of (node_at v n)) 0

-- an entry as it is listed
abbrev pub listed_entry : Forest → List ℕ × ℕ → Listed
listed_entry v e = record { name = e.0; vino = e.1; kind = type_at v e.1 }

-- all of a directory's listing: `.`, `..`, and the other names in byte order. A directory that is listed isn't removed
abbrev pub listing : Forest → ℕ → List Listed
listing v d = map (listed_entry v) ((codes ".", d) ∷ (codes "..", unwrap_or (dot_dot v d) 0) ∷ entries (names_at v d))

-- `.` is first, `..` second, and all others follow
abbrev pub rank : List ℕ → ℕ
rank name = if bytes_eq name (codes ".") then 0 else if bytes_eq name (codes "..") then 1 else 2

-- a name comes after another in this order
abbrev pub is_listed_after : List ℕ → List ℕ → Bool
is_listed_after last name = nat_lt (rank last) (rank name) || ((rank last == rank name) && is_lt (slice_cmp nat_cmp last name))

-- whether a name is left in a listing that has come to that one, or has not begun
abbrev pub is_left : Option (List ℕ) → List ℕ → Bool
is_left None name = true
is_left (Some last) name = is_listed_after last name

-- the first so many of what is left of a listing
abbrev pub next_of : Option (List ℕ) → ℕ → List Listed → List Listed
next_of last most list = take most (filter (λ l. is_left last l.name) list)
