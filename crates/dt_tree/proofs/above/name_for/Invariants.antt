use Rattle.std.proofs.Common.{◌≡◌, drop, map}
use Rattle.dt_host.specs.Legal.{pair_of}
use Rattle.dt_tree.specs.inner.Names.{name_for}
use Rattle.dt_tree.proofs.above.name_for.Given as goal

abbrev pub invariant-loop-entry : goal.invariant-loop-entry
invariant-loop-entry l = name_for l.real (map pair_of (drop l.entry-index l.entries)) ≡ name_for l.real (map pair_of l.entries)
