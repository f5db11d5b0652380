use Rattle.std.proofs.Common.{◌≡◌, ◌++◌, drop}
use Rattle.dt_walk.specs.Walk.{path_names}
use Rattle.dt_walk.proofs.Named.{names_left}
use Rattle.dt_walk.proofs.names.path_names.Given as goal

abbrev pub invariant-loop-b : goal.invariant-loop-b
invariant-loop-b l = l.names.items ++ names_left l.begun.items (drop l.b-index l.text) ≡ path_names l.text
