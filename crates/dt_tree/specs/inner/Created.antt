-- Inner words: no public clause cites these. A new node at the host, and what its maker sees to.
use Rattle.std.specs.Prelude.{◌≡◌, ℕ, ◌<◌, List, None, IsTrue}
use Rattle.std.specs.FinMap.{len}
use Rattle.dt_base.specs.declared.image.What.{What}
use Rattle.dt_base.specs.Image.{is_good_what}
use Rattle.dt_host.specs.World.{World, Node, node_at, with_node, with_forest, entry, IsDir}
use Rattle.dt_tree.specs.declared.limits.TheConstants.{NODE_LIMIT}
use Rattle.dt_tree.specs.Shape.{IsUnder}
use Rattle.dt_tree.specs.FileTree.{FileTree, is_entry_name}

-- that node was made at the host under a number that was free
pub record IsMadeAt (old : World) (node : Node) (new : World) (n : ℕ) : Type 0 where
  pub free : node_at old.forest n ≡ None
  pub made : new ≡ with_forest old (with_node old.forest n node)

-- what the maker of a node sees to
pub record MayCreate (t : FileTree) (d : ℕ) (name : List ℕ) (what : What) (mode : ℕ) : Type 0 where
  pub is_dir : IsDir t.shape d
  pub under : IsUnder t.shape d
  pub free : entry t.shape d name ≡ None
  pub named : IsTrue (is_entry_name name)
  pub good : IsTrue (is_good_what t.version what mode)
  pub room : len t.shape.nodes < NODE_LIMIT
