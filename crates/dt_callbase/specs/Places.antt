-- The places that the paths of a call lead to (path_resolution(7)).
use Rattle.std.specs.Prelude.{ℕ, List, Result, Ok, Err, Option, None, Some, if◌then◌else◌}
use Rattle.dt_base.specs.declared.errno.Errno.{Errno}
use Rattle.dt_base.specs.declared.errno.Errno.TheVariants.{NoEnt}
use Rattle.dt_host.specs.World.{Forest}
use Rattle.dt_walk.specs.declared.place.Place.{Place}
use Rattle.dt_walk.specs.declared.place.Last.{Last}
use Rattle.dt_walk.specs.declared.place.Last.TheVariants as last
use Rattle.dt_walk.specs.Placed.{IsPlaceIn, IsNamedWell}
use Rattle.dt_walk.specs.Walk.{walk_of, ends_in_slash}
use Rattle.dt_callbase.specs.declared.places.LastLink.{LastLink}
use Rattle.dt_callbase.specs.declared.places.LastLink.TheVariants.{Follow, Keep, KeepWithoutSlash}
use Rattle.dt_space.specs.Argument.{path_argument}
use Rattle.dt_callbase.specs.Scene.{Scene, Reply, refused_reply}
use Rattle.dt_callbase.specs.Start.{start_of}

-- whether a link that is the last name of a path is followed
abbrev pub last_of : LastLink → List ℕ → Last
last_of Follow path = last.Follow
last_of Keep path = last.Keep
last_of KeepWithoutSlash path = if ends_in_slash path then last.Follow else last.Keep

-- the place of a path from where it is looked up first
abbrev pub place_from : Scene → LastLink → List ℕ → Result ℕ Errno → Result Place Errno
place_from s rule path (Err errno) = Err errno
place_from s rule path (Ok start) = walk_of s.tree.shape start path (last_of rule path)

-- the place of a path that was read
abbrev pub place_of : Scene → ℕ → LastLink → Result (List ℕ) Errno → Result Place Errno
place_of s dirfd rule (Err errno) = Err errno
place_of s dirfd rule (Ok path) = place_from s rule path (start_of s dirfd path)

-- the place of the path at an address
unfoldable pub place_at : Scene → ℕ → ℕ → LastLink → Result Place Errno
place_at s dirfd address rule = place_of s dirfd rule (path_argument s.space address)

-- a row for the place of a path, or the walk's refusal
abbrev pub on_place : Scene → Result Place Errno → (Place → Reply) → Reply
on_place s (Err errno) row = refused_reply s errno
on_place s (Ok place) row = row place

-- a row for the node that a path leads to: ENOENT where it is missing
abbrev pub on_node : Scene → Option ℕ → (ℕ → Reply) → Reply
on_node s None row = refused_reply s NoEnt
on_node s (Some n) row = row n

-- a row for the node that the path at an address leads to
abbrev pub on_path : Scene → ℕ → ℕ → LastLink → (ℕ → Reply) → Reply
on_path s dirfd address rule row = on_place s (place_at s dirfd address rule) (λ place. on_node s place.node row)

-- a place that a call found
abbrev pub IsFound : Forest → Place → Type 0
IsFound v place = IsPlaceIn v place × IsNamedWell place
