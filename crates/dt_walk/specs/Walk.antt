-- Where a path leads (path_resolution(7)), with this project's order of refusals. `Place`, `Last` and `LINK_LIMIT` are declared in
-- src/place.rt, `Found` and `Step` in src/step.rt.
use Rattle.std.specs.Prelude.{ℕ, zero, suc, Bool, true, false, not, ◌&&◌, ◌||◌, ◌+◌, ◌-◌, slice_get, List, [], ◌∷◌, ◌++◌, length, nat_le, codes, Option, None, Some, Result, Ok, Err, if◌then◌else◌}
use Rattle.std.specs.List.{filter}
use Rattle.std.specs.Str.{bytes_eq}
use Rattle.dt_base.specs.declared.errno.Errno.{Errno}
use Rattle.dt_base.specs.declared.errno.Errno.TheVariants.{NoEnt, NotDir, NameTooLong, Loop}
use Rattle.dt_base.specs.declared.limits.TheConstants.{NAME_LIMIT}
use Rattle.dt_base.specs.Path.{is_slash_there, begins_with_slash, components_of}
use Rattle.dt_host.specs.World.{Forest, target_at, entry}
use Rattle.dt_tree.specs.declared.limits.TheConstants.{ROOT}
use Rattle.dt_tree.specs.Above.{dot_dot}
use Rattle.dt_tree.specs.Shape.{is_dir}
use Rattle.dt_walk.specs.declared.place.Place.{Place}
use Rattle.dt_walk.specs.declared.place.Last.{Last}
use Rattle.dt_walk.specs.declared.place.Last.TheVariants.{Follow as follow_last, Keep as keep_last}
use Rattle.dt_walk.specs.declared.place.TheConstants.{LINK_LIMIT}
use Rattle.dt_walk.specs.declared.step.Found.{Found}
use Rattle.dt_walk.specs.declared.step.Found.TheVariants.{Node, Missing, Gone}
use Rattle.dt_walk.specs.declared.step.Step.{Step}
use Rattle.dt_walk.specs.declared.step.Step.TheVariants.{On, Done, Refused, Follow}

-- a node that may be there
abbrev pub node_or : Found → Option ℕ → Found
node_or otherwise None = otherwise
node_or otherwise (Some n) = Node n

-- what is under a name of a directory; `.` is the directory itself, and `..` is gone where that is removed
abbrev pub lookup_in : Forest → ℕ → List ℕ → Found
lookup_in v at name =
    if bytes_eq name (codes ".") then Node at
    else if bytes_eq name (codes "..") then node_or Gone (dot_dot v at)
    else node_or Missing (entry v at name)

-- at the last name: a path that ends in a slash leads to a directory or is refused
abbrev pub end_step : Forest → (slash : Bool) → ℕ → List ℕ → ℕ → Step
end_step v slash at name n =
    if slash && not (is_dir v n) then Refused NotDir
    else Done (record { parent = at; name = name; node = Some n; slash = slash })

-- at a node that is no link
abbrev pub plain_step : Forest → (last slash : Bool) → ℕ → List ℕ → ℕ → Step
plain_step v last slash at name n = if last then end_step v slash at name n else On n

-- at a node, with its target if it is a link: a link is followed, but for one that is the last name and kept
abbrev pub node_step : Forest → (keep last slash : Bool) → ℕ → List ℕ → ℕ → Option (List ℕ) → Step
node_step v keep last slash at name n None = plain_step v last slash at name n
node_step v keep last slash at name n (Some target) = if last && keep then end_step v slash at name n else Follow target

-- at a name that is not there: a place, if it is the last
abbrev pub missing_step : (last slash : Bool) → ℕ → List ℕ → Step
missing_step last slash at name =
    if last then Done (record { parent = at; name = name; node = None; slash = slash }) else Refused NoEnt

-- at what was found under a name
abbrev pub after_look : Forest → (keep last slash : Bool) → ℕ → List ℕ → Found → Step
after_look v keep last slash at name Gone = Refused NoEnt
after_look v keep last slash at name Missing = missing_step last slash at name
after_look v keep last slash at name (Node n) = node_step v keep last slash at name n (target_at v n)

-- one name of a path, looked up in a directory
abbrev pub step_in_dir : Forest → (keep last slash : Bool) → ℕ → List ℕ → Step
step_in_dir v keep last slash at name =
    if nat_le (NAME_LIMIT + 1) (length name) then Refused NameTooLong
    else after_look v keep last slash at name (lookup_in v at name)

-- one name of a path, looked up where the walk stands
unfoldable pub step_of : Forest → (keep last slash : Bool) → ℕ → List ℕ → Step
step_of v keep last slash at name = if is_dir v at then step_in_dir v keep last slash at name else Refused NotDir

-- the text ends in a `/`
abbrev pub ends_in_slash : List ℕ → Bool
ends_in_slash text = is_slash_there (slice_get text (length text - 1))

-- the list has nothing
abbrev pub is_nil : {X : Type 0} → List X → Bool
is_nil [] = true
is_nil (x ∷ xs) = false

-- the names of a text: what stands between its `/`, where something does
abbrev pub path_names : List ℕ → List (List ℕ)
path_names text = filter (λ name. not (is_nil name)) (components_of text)

-- where the names of a text are looked up first: in the root, or where the walk stands
abbrev pub start_of : ℕ → List ℕ → ℕ
start_of at text = if begins_with_slash text then ROOT else at

-- the walk after a step: on at a node, at an end, or at a link's target
abbrev pub after_step : (ℕ → Result Place Errno) → (List ℕ → Result Place Errno) → Step → Result Place Errno
after_step on follow (On n) = on n
after_step on follow (Done place) = Ok place
after_step on follow (Refused e) = Err e
after_step on follow (Follow target) = follow target

-- name by name, and at a link on with its target's names before those that are left; a path without names is the root's.
-- The place has a slash if the path ends in one, or the target of a link that was its last name
unfoldable pub walk_from : Forest → (keep : Bool) → (ℕ → List (List ℕ) → Bool → Result Place Errno) → ℕ → List (List ℕ) → (slash : Bool) → Result Place Errno
walk_from v keep follow at [] slash = Ok (record { parent = ROOT; name = []; node = Some ROOT; slash = slash })
walk_from v keep follow at (name ∷ rest) slash = after_step
    (λ n. walk_from v keep follow n rest slash)
    (λ target. follow (start_of at target) (path_names target ++ rest) (slash || (is_nil rest && ends_in_slash target)))
    (step_of v keep (is_nil rest) slash at name)

-- a walk that follows so many links; one more is ELOOP
unfoldable pub walk_by : ℕ → Forest → (keep : Bool) → ℕ → List (List ℕ) → (slash : Bool) → Result Place Errno
walk_by zero v keep at names slash = walk_from v keep (λ _ _ _. Err Loop) at names slash
walk_by (suc left) v keep at names slash = walk_from v keep (walk_by left v keep) at names slash

-- whether a link that is the last name stays as it is
abbrev pub is_keep : Last → Bool
is_keep follow_last = false
is_keep keep_last = true

-- where a path leads from a directory, or the first refusal
abbrev pub walk_of : Forest → ℕ → List ℕ → Last → Result Place Errno
walk_of v start path last = walk_by LINK_LIMIT v (is_keep last) (start_of start path) (path_names path) (ends_in_slash path)
