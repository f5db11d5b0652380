-- The node that a path leads to is there.
use Rattle.std.proofs.Common.{◌≡◌, ℕ, zero, suc, ◌+◌, Bool, true, false, cond, List, [], ◌∷◌, ◌++◌, Option, Some, None, Result, Ok, Err, refl, subst}
use Rattle.std.specs.Prelude.{◌==◌, ◌&&◌, ◌||◌, not, nat_le, codes, length}
use Rattle.std.specs.Str.{bytes_eq}
use Rattle.dt_base.specs.declared.errno.Errno.{Errno}
use Rattle.dt_base.specs.declared.errno.Errno.TheVariants.{NoEnt, NotDir, NameTooLong, Loop}
use Rattle.dt_base.specs.declared.limits.TheConstants.{NAME_LIMIT}
use Rattle.dt_host.specs.World.{Forest, entry, IsDir, IsLive, target_at}
use Rattle.dt_host.proofs.Spots.{IsDir-entry, IsLive-IsDir}
use Rattle.dt_tree.specs.declared.limits.TheConstants.{ROOT}
use Rattle.dt_tree.specs.Shape.{IsShaped, is_dir}
use Rattle.dt_tree.specs.FileTree.{FileTree, IsTree}
use Rattle.dt_tree.specs.Above.{parent_at, dot_dot}
use Rattle.dt_tree.proofs.Namings.{named}
use Rattle.dt_tree.proofs.Aboves.{parent-entry}
use Rattle.dt_walk.specs.declared.place.Place.{Place}
use Rattle.dt_walk.specs.declared.place.TheConstants.{LINK_LIMIT}
use Rattle.dt_walk.specs.declared.place.Last.TheVariants.{Follow as follow_last}
use Rattle.dt_walk.specs.declared.step.Found.{Found}
use Rattle.dt_walk.specs.declared.step.Found.TheVariants.{Node, Missing, Gone}
use Rattle.dt_walk.specs.declared.step.Step.{Step}
use Rattle.dt_walk.specs.declared.step.Step.TheVariants.{On, Done, Refused, Follow}
use Rattle.dt_walk.specs.Walk.{is_nil, path_names, ends_in_slash, start_of, is_keep, node_or, lookup_in, end_step, node_step, after_look, step_in_dir, step_of, after_step, walk_from, walk_by, walk_of}
use Rattle.dt_exec.specs.Lookup.{node_reached, lookup}

-- what may be there is there
abbrev pub LivesAt : Forest → Option ℕ → Type 0
LivesAt v None = Unit {0}
LivesAt v (Some n) = IsLive v n

-- what was found is there
abbrev LivesFound : Forest → Found → Type 0
LivesFound v (Node n) = IsLive v n
LivesFound v Missing = Unit {0}
LivesFound v Gone = Unit {0}

-- where a step comes to an end, it is there
abbrev LivesStep : Forest → Step → Type 0
LivesStep v (On n) = Unit {0}
LivesStep v (Done place) = LivesAt v place.node
LivesStep v (Refused e) = Unit {0}
LivesStep v (Follow target) = Unit {0}

-- where a walk comes to an end, it is there
abbrev LivesEnd : Forest → Result Place Errno → Type 0
LivesEnd v (Ok place) = LivesAt v place.node
LivesEnd v (Err e) = Unit {0}

found_if : (v : Forest) (b : Bool) (x y : Found) → LivesFound v x → LivesFound v y → LivesFound v (cond b x y)
found_if v true x y p q = p
found_if v false x y p q = q

step_if : (v : Forest) (b : Bool) (x y : Step) → LivesStep v x → LivesStep v y → LivesStep v (cond b x y)
step_if v true x y p q = p
step_if v false x y p q = q

lives_or : (v : Forest) (unless : Found) (found : Option ℕ) → LivesFound v unless → LivesAt v found → LivesFound v (node_or unless found)
lives_or v unless None p q = p
lives_or v unless (Some n) p q = q

option_if : (v : Forest) (b : Bool) (x y : Option ℕ) → LivesAt v x → LivesAt v y → LivesAt v (cond b x y)
option_if v true x y p q = p
option_if v false x y p q = q

module _ (v : Forest) (s : IsShaped v) where
  lives-entry : (at : ℕ) (name : List ℕ) (found : Option ℕ) → entry v at name ≡ found → LivesAt v found
  lives-entry at name None e = tt
  lives-entry at name (Some n) e = s.named n (named v at n name e)

  lives-parent : (at : ℕ) (found : Option ℕ) → parent_at v at ≡ found → LivesAt v found
  lives-parent at None e = tt
  lives-parent at (Some d) e = let spot = parent-entry v at d e in IsLive-IsDir v d (IsDir-entry v d spot.0 at spot.2)

  lives-looked : (at : ℕ) (name : List ℕ) → IsLive v at → LivesFound v (lookup_in v at name)
  lives-looked at name live =
      let up = option_if v (at == v.root) (Some at) (parent_at v at) live (lives-parent at (parent_at v at) refl) in
      found_if v (bytes_eq name (codes ".")) (Node at) _ live
      (found_if v (bytes_eq name (codes "..")) (node_or Gone (dot_dot v at)) (node_or Missing (entry v at name))
      (lives_or v Gone (dot_dot v at) tt up)
      (lives_or v Missing (entry v at name) tt (lives-entry at name (entry v at name) refl)))

  module _ (keep last slash : Bool) (at : ℕ) (name : List ℕ) where
    lives-ended : (n : ℕ) → IsLive v n → LivesStep v (end_step v slash at name n)
    lives-ended n live = step_if v (slash && not (is_dir v n)) (Refused NotDir) (Done (record { parent = at; name = name; node = Some n; slash = slash })) tt live

    lives-arrived : (n : ℕ) (target : Option (List ℕ)) → IsLive v n → LivesStep v (node_step v keep last slash at name n target)
    lives-arrived n None live = step_if v last (end_step v slash at name n) (On n) (lives-ended n live) tt
    lives-arrived n (Some target) live = step_if v (last && keep) (end_step v slash at name n) (Follow target) (lives-ended n live) tt

    lives-after : (found : Found) → LivesFound v found → LivesStep v (after_look v keep last slash at name found)
    lives-after Gone live = tt
    lives-after Missing live = step_if v last (Done (record { parent = at; name = name; node = None; slash = slash })) (Refused NoEnt) tt tt
    lives-after (Node n) live = lives-arrived n (target_at v n) live

    lives-in_dir : IsDir v at → LivesStep v (step_in_dir v keep last slash at name)
    lives-in_dir is =
        step_if v (nat_le (NAME_LIMIT + 1) (length name)) (Refused NameTooLong) (after_look v keep last slash at name (lookup_in v at name)) tt
        (lives-after (lookup_in v at name) (lives-looked at name (IsLive-IsDir v at is)))

    lives-step_if : (b : Bool) → is_dir v at ≡ b → LivesStep v (cond b (step_in_dir v keep last slash at name) (Refused NotDir))
    lives-step_if true is = lives-in_dir is
    lives-step_if false is = tt

    lives-step : LivesStep v (step_of v keep last slash at name)
    unfolding step_of
    lives-step = lives-step_if (is_dir v at) refl

  lives-after_step : (on : ℕ → Result Place Errno) (follow : List ℕ → Result Place Errno) (step : Step) → ((n : ℕ) → LivesEnd v (on n)) → ((target : List ℕ) → LivesEnd v (follow target)) → LivesStep v step → LivesEnd v (after_step on follow step)
  lives-after_step on follow (On n) p q h = p n
  lives-after_step on follow (Done place) p q h = h
  lives-after_step on follow (Refused e) p q h = tt
  lives-after_step on follow (Follow target) p q h = q target

  module _ (root : IsLive v ROOT) (keep : Bool) where
    lives-from : (follow : ℕ → List (List ℕ) → Bool → Result Place Errno) → ((at : ℕ) (names : List (List ℕ)) (slash : Bool) → LivesEnd v (follow at names slash)) → (at : ℕ) (names : List (List ℕ)) (slash : Bool) → LivesEnd v (walk_from v keep follow at names slash)
    unfolding walk_from
    lives-from follow h at [] slash = root
    lives-from follow h at (name ∷ rest) slash =
        lives-after_step (λ n. walk_from v keep follow n rest slash)
        (λ target. follow (start_of at target) (path_names target ++ rest) (slash || (is_nil rest && ends_in_slash target)))
        (step_of v keep (is_nil rest) slash at name)
        (λ n. lives-from follow h n rest slash)
        (λ target. h (start_of at target) (path_names target ++ rest) (slash || (is_nil rest && ends_in_slash target)))
        (lives-step keep (is_nil rest) slash at name)

    lives-by : (left at : ℕ) (names : List (List ℕ)) (slash : Bool) → LivesEnd v (walk_by left v keep at names slash)
    unfolding walk_by
    lives-by zero at names slash = lives-from (λ _ _ _. Err Loop) (λ _ _ _. tt) at names slash
    lives-by (suc left) at names slash = lives-from (walk_by left v keep) (lives-by left) at names slash

  lives-reached : (end : Result Place Errno) (n : ℕ) → LivesEnd v end → node_reached end ≡ Ok (Some n) → IsLive v n
  lives-reached (Err e) n h is = cc
  lives-reached (Ok place) n h is = let same : place.node ≡ Some n = cc in subst (LivesAt v) same h

  -- what a path leads to is there
  lookup-live : IsLive v ROOT → (start : ℕ) (path : List ℕ) (n : ℕ) → lookup v start path ≡ Ok (Some n) → IsLive v n
  unfolding lookup
  lookup-live root start path n is =
      lives-reached (walk_of v start path follow_last) n
      (lives-by root (is_keep follow_last) LINK_LIMIT (start_of start path) (path_names path) (ends_in_slash path)) is

pub root-live : (t : FileTree) → IsTree t → IsLive t.shape ROOT
root-live t tree = IsLive-IsDir t.shape ROOT (subst (IsDir t.shape) tree.root tree.shaped.root)

-- what a path leads to in a tree is there
pub found-live : (t : FileTree) → IsTree t → (start : ℕ) (path : List ℕ) (n : ℕ) → lookup t.shape start path ≡ Ok (Some n) → IsLive t.shape n
found-live t tree start path n is = lookup-live t.shape tree.shaped (root-live t tree) start path n is
