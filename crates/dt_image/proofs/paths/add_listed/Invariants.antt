use Rattle.std.proofs.Common.{◌≡◌, ◌++◌, map, take}
use Rattle.dt_image.specs.Paths.{path_pair}
use Rattle.dt_image.specs.inner.PathView.{listed_path}
use Rattle.dt_image.proofs.paths.add_listed.Given as goal

-- the entries so far
abbrev pub invariant-loop-entry : goal.invariant-loop-entry
invariant-loop-entry l = map path_pair l.next.items ≡ map path_pair l.fn.next.items ++ map (listed_path l.path) (take l.entry-index l.listed)
