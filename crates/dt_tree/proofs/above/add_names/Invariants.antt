use Rattle.std.proofs.Common.{◌≡◌, ◌++◌, length}
use Rattle.std.specs.Prelude.{reverse}
use Rattle.dt_tree.specs.Above.{joined_names}
use Rattle.dt_tree.proofs.above.add_names.Given as goal

abbrev pub invariant-loop-name : goal.invariant-loop-name
invariant-loop-name l = l.path.items ++ joined_names (reverse l.names.items) ≡ l.fn.path.items ++ joined_names (reverse l.fn.names.items)

abbrev pub decreases-loop-name : goal.decreases-loop-name
decreases-loop-name l = length l.names.items
