-- What stands where a path leads (path_resolution(7)), with each link followed.
use Rattle.std.specs.Prelude.{ℕ, List, Option, Result, Ok, Err}
use Rattle.dt_base.specs.declared.errno.Errno.{Errno}
use Rattle.dt_host.specs.World.{Forest}
use Rattle.dt_walk.specs.declared.place.Place.{Place}
use Rattle.dt_walk.specs.declared.place.Last.TheVariants.{Follow}
use Rattle.dt_walk.specs.Walk.{walk_of}

-- the node at the end of a walk; none, where the last name alone is missing
abbrev pub node_reached : Result Place Errno → Result (Option ℕ) Errno
node_reached (Err errno) = Err errno
node_reached (Ok place) = Ok place.node

-- the node that a path leads to from a directory
unfoldable pub lookup : Forest → ℕ → List ℕ → Result (Option ℕ) Errno
lookup v start path = node_reached (walk_of v start path Follow)
