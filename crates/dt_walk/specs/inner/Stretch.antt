-- Inner words: no public clause cites these. A walk up to its end, or up to a link that is followed.
use Rattle.std.specs.Prelude.{ℕ, zero, suc, Bool, ◌&&◌, ◌||◌, List, [], ◌∷◌, ◌++◌, reverse, Some, Result, Ok, Err}
use Rattle.dt_base.specs.declared.errno.Errno.{Errno}
use Rattle.dt_base.specs.declared.errno.Errno.TheVariants.{Loop}
use Rattle.dt_host.specs.World.{Forest}
use Rattle.dt_tree.specs.declared.limits.TheConstants.{ROOT}
use Rattle.dt_walk.specs.declared.place.Place.{Place}
use Rattle.dt_walk.specs.declared.step.Step.{Step}
use Rattle.dt_walk.specs.declared.step.Step.TheVariants.{On, Done as done, Refused as refused, Follow as follow}
use Rattle.dt_walk.specs.declared.paths.Stretch.{Stretch}
use Rattle.dt_walk.specs.declared.paths.Stretch.TheVariants.{Done, Refused, Follow}
use Rattle.dt_walk.specs.Walk.{is_nil, path_names, ends_in_slash, start_of, step_of}

-- where it ends, or the node, the names and the slash with which it goes on at a link's target
pub data StretchEnd : Type 0 where
  ended_at : Result Place Errno → StretchEnd
  goes_on : ℕ → List (List ℕ) → Bool → StretchEnd

-- what a step leads to, when these names are left
abbrev pub stretch_after_step : List (List ℕ) → Bool → ℕ → (ℕ → StretchEnd) → Step → StretchEnd
stretch_after_step rest slash at on (On n) = on n
stretch_after_step rest slash at on (done place) = ended_at (Ok place)
stretch_after_step rest slash at on (refused e) = ended_at (Err e)
stretch_after_step rest slash at on (follow target) =
    goes_on (start_of at target) (path_names target ++ rest) (slash || (is_nil rest && ends_in_slash target))

-- name by name
unfoldable pub stretch_of : Forest → Bool → ℕ → List (List ℕ) → Bool → StretchEnd
stretch_of v keep at [] slash = ended_at (Ok (record { parent = ROOT; name = []; node = Some ROOT; slash = slash }))
stretch_of v keep at (name ∷ rest) slash =
    stretch_after_step rest slash at (λ n. stretch_of v keep n rest slash) (step_of v keep (is_nil rest) slash at name)

-- a walk after a stretch
abbrev pub walk_after_stretch : (ℕ → List (List ℕ) → Bool → Result Place Errno) → StretchEnd → Result Place Errno
walk_after_stretch go (ended_at result) = result
walk_after_stretch go (goes_on at names slash) = go at names slash

-- so many stretches are walked; a link after the last is ELOOP
unfoldable pub walk_by_stretches : ℕ → Forest → Bool → ℕ → List (List ℕ) → Bool → Result Place Errno
walk_by_stretches zero v keep at names slash = Err Loop
walk_by_stretches (suc left) v keep at names slash = walk_after_stretch (walk_by_stretches left v keep) (stretch_of v keep at names slash)

-- what code answers of a stretch, and the names that it left, the first of which stands last
abbrev pub stretch_end_of : Stretch → List (List ℕ) → StretchEnd
stretch_end_of (Done place) names = ended_at (Ok place)
stretch_end_of (Refused e) names = ended_at (Err e)
stretch_end_of (Follow at slash) names = goes_on at (reverse names) slash
