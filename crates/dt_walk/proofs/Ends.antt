-- What holds where a walk ends, if it holds where each step ends it, and what each step needs holds of all names.
use Rattle.std.proofs.Common.{◌≡◌, ℕ, zero, suc, Bool, ◌&&◌, ◌||◌, List, [], ◌∷◌, ◌++◌, Some, Ok, Err, refl, subst}
use Rattle.std.proofs.lemmas.List.Elements.{All-head, All-tail, All-append}
use Rattle.std.specs.Prelude.{Result}
use Rattle.std.specs.List.{All}
use Rattle.dt_base.specs.declared.errno.Errno.{Errno}
use Rattle.dt_base.specs.declared.errno.Errno.TheVariants.{Loop}
use Rattle.dt_host.specs.World.{Forest}
use Rattle.dt_walk.specs.declared.place.Place.{Place}
use Rattle.dt_walk.specs.declared.step.Step.{Step}
use Rattle.dt_walk.specs.declared.step.Step.TheVariants.{On, Done, Refused, Follow}
use Rattle.dt_walk.specs.Walk.{is_nil, path_names, ends_in_slash, start_of, after_step, step_of, walk_from, walk_by}

-- the place of a path without names
abbrev pub top_place : Bool → Place
top_place slash = record { parent = 1; name = []; node = Some 1; slash = slash }

-- the facts of one step: where it ends the walk, and of the names of a target that it follows
pub record Steps (v : Forest) (keep : Bool) (P : Place → Type 0) (Q : List ℕ → Type 0) : Type 0 where
  pub ends : (at : ℕ) (last slash : Bool) (name : List ℕ) (place : Place) → Q name → step_of v keep last slash at name ≡ Done place → P place
  pub top : (slash : Bool) → P (top_place slash)
  pub names : (at : ℕ) (last slash : Bool) (name target : List ℕ) → step_of v keep last slash at name ≡ Follow target → All Q (path_names target)

-- what holds of the place to which a walk leads
abbrev pub EndsIn : (Place → Type 0) → (List ℕ → Type 0) → (ℕ → List (List ℕ) → Bool → Result Place Errno) → Type 0
EndsIn P Q walk = (at : ℕ) (names : List (List ℕ)) (slash : Bool) (place : Place) → All Q names → walk at names slash ≡ Ok place → P place

module _ (v : Forest) (keep : Bool) (P : Place → Type 0) (Q : List ℕ → Type 0) (steps : Steps v keep P Q) where
  one_place : (r : Result Place Errno) (a b : Place) → r ≡ Ok a → r ≡ Ok b → a ≡ b
  one_place r a b e f = cc

  -- a walk that goes on well ends well
  from_end : (follow : ℕ → List (List ℕ) → Bool → Result Place Errno) → EndsIn P Q follow → EndsIn P Q (walk_from v keep follow)
  unfolding walk_from
  from_end follow good at [] slash place all e = subst P (one_place (Ok (top_place slash)) (top_place slash) place refl e) (steps.top slash)
  from_end follow good at (name ∷ rest) slash place all e = by_step (step_of v keep (is_nil rest) slash at name) refl (λ n h. from_end follow good n rest slash place (All-tail Q name rest all) h) e
    where
      by_step : (step : Step) → step_of v keep (is_nil rest) slash at name ≡ step → ((n : ℕ) → walk_from v keep follow n rest slash ≡ Ok place → P place) → after_step (λ n. walk_from v keep follow n rest slash) (λ target. follow (start_of at target) (path_names target ++ rest) (slash || (is_nil rest && ends_in_slash target))) step ≡ Ok place → P place
      by_step (On n) is more h = more n h
      by_step (Done found) is more h = subst P (one_place (Ok found) found place refl h) (steps.ends at (is_nil rest) slash name found (All-head Q name rest all) is)
      by_step (Refused e) is more h = absurd (cc)
      by_step (Follow target) is more h =
          good (start_of at target) (path_names target ++ rest) (slash || (is_nil rest && ends_in_slash target)) place
          (All-append Q (path_names target) rest (steps.names at (is_nil rest) slash name target is) (All-tail Q name rest all)) h

  pub by_end : (k : ℕ) → EndsIn P Q (walk_by k v keep)
  unfolding walk_by
  by_end zero at names slash place all e = from_end (λ _ _ _. Err Loop) (λ _ _ _ place _ h. absurd (cc)) at names slash place all e
  by_end (suc k) at names slash place all e = from_end (walk_by k v keep) (λ n names slash place all h. by_end k n names slash place all h) at names slash place all e
