use Rattle.std.proofs.Common.{◌≡◌, map, fold, take}
use Rattle.dt_image.specs.Paths.{with_path, path_pair}
use Rattle.dt_image.specs.inner.PathView.{paths_in}
use Rattle.dt_image.proofs.paths.add_paths.Given as goal

-- the paths so far
abbrev pub invariant-loop-at : goal.invariant-loop-at
invariant-loop-at l = paths_in l.paths ≡ fold with_path (paths_in l.fn.paths) (map path_pair (take l.at-index l.level))
