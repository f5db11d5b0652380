use Rattle.std.proofs.Common.{◌≡◌, ◌++◌, length}
use Rattle.std.specs.Prelude.{reverse}
use Rattle.dt_walk.specs.Walk.{path_names}
use Rattle.dt_walk.proofs.names.push_names.Given as goal

abbrev pub invariant-loop-name : goal.invariant-loop-name
invariant-loop-name l = l.more.items ++ reverse l.names.items ≡ path_names l.text ++ reverse l.fn.names.items

abbrev pub decreases-loop-name : goal.decreases-loop-name
decreases-loop-name l = length l.more.items
