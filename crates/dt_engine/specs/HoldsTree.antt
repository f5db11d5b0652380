-- How a host holds a file tree: read by names from their roots, both are the same.
use Rattle.std.specs.Prelude.{◌≡◌, ℕ, List, Option, option_map, option_and_then}
use Rattle.dt_base.specs.declared.image.What.{What}
use Rattle.dt_host.specs.World.{World, Forest, node_at}
use Rattle.dt_tree.specs.FileTree.{FileTree}
use Rattle.dt_tree.specs.ImageTree.{what_of}
use Rattle.dt_image.specs.Paths.{node_from_root}

-- what the node that names lead to shows
abbrev pub shown_at : Forest → List (List ℕ) → Option What
shown_at v names = option_map what_of (option_and_then (node_at v) (node_from_root v names))

-- the same paths lead to something in both, and it shows the same; and two paths lead to one node of the one exactly where
-- they lead to one node of the other
pub record HoldSame (v w : Forest) : Type 0 where
  pub shown : (names : List (List ℕ)) → shown_at v names ≡ shown_at w names
  pub together : (a b : List (List ℕ)) → node_from_root v a ≡ node_from_root v b → node_from_root w a ≡ node_from_root w b
  pub apart : (a b : List (List ℕ)) → node_from_root w a ≡ node_from_root w b → node_from_root v a ≡ node_from_root v b

-- the host holds what the tree has, its nodes under numbers for which the tree has inodes
abbrev pub HoldsTree : World → FileTree → Type 0
HoldsTree w t = HoldSame w.forest t.shape
