-- Inner words: no public clause cites these. A name that moves, and what its mover sees to.
use Rattle.std.specs.Prelude.{◌≡◌, ◌≢◌, ℕ, List, Some, IfSome, IsTrue}
use Rattle.dt_host.specs.World.{Forest, entry, IsDir, IsBare}
use Rattle.dt_tree.specs.Shape.{IsBelow, IsUnder}
use Rattle.dt_tree.specs.FileTree.{is_entry_name}

-- the name of that node may move to another place
pub record IsMove (v : Forest) (from : ℕ) (old : List ℕ) (to : ℕ) (new : List ℕ) (n : ℕ) : Type 0 where
  pub here : entry v from old ≡ Some n
  pub is_dir : IsDir v to
  pub under : IsUnder v to
  pub good : IsTrue (is_entry_name new)
  pub apart : entry v to new ≢ Some n
  pub outside : IsDir v n → IsBelow v to n → ⊥
  pub replaced : IfSome (entry v to new) (λ r. IsDir v r → IsBare v r)
