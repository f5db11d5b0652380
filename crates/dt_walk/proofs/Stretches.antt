-- A stretch, name by name, and walks of several.
use Rattle.std.proofs.Common.{arith, ◌≡◌, ℕ, zero, suc, ◌+◌, ◌<◌, length, Bool, ◌&&◌, ◌||◌, List, [], ◌∷◌, ◌++◌, Some, Ok, Err, refl, sym, ap, ◌∙◌}
use Rattle.std.proofs.lemmas.Bool.Decides.{nat_tests}
use Rattle.std.proofs.lemmas.List.{reverse-append, length-reverse}
use Rattle.std.specs.Prelude.{◌==◌, Result, Option, false, reverse}
use Rattle.std.specs.Option.{option_to_list}
use Rattle.dt_base.specs.declared.errno.Errno.{Errno}
use Rattle.dt_base.specs.declared.errno.Errno.TheVariants.{Loop}
use Rattle.dt_host.specs.World.{Forest}
use Rattle.dt_walk.specs.declared.place.Place.{Place}
use Rattle.dt_walk.specs.declared.step.Step.{Step}
use Rattle.dt_walk.specs.declared.step.Step.TheVariants.{On, Done, Refused, Follow}
use Rattle.dt_walk.specs.Walk.{is_nil, path_names, ends_in_slash, start_of, after_step, step_of, walk_from, walk_by}
use Rattle.dt_walk.specs.inner.Stretch.{StretchEnd, ended_at, goes_on, stretch_after_step, stretch_of, walk_after_stretch, walk_by_stretches}

pub one_step : (v : Forest) (keep slash : Bool) (at : ℕ) (names : List (List ℕ)) (name : List ℕ) (rest : List (List ℕ)) (b : Bool) (step : Step) → names ≡ name ∷ rest → b ≡ is_nil rest → step ≡ step_of v keep b slash at name → stretch_of v keep at names slash ≡ stretch_after_step rest slash at (λ n. stretch_of v keep n rest slash) step
unfolding stretch_of
one_step v keep slash at names name rest b step e is s =
    ap (λ xs. stretch_of v keep at xs slash) e
    ∙ ap (stretch_after_step rest slash at (λ n. stretch_of v keep n rest slash)) (ap (λ last. step_of v keep last slash at name) (sym is) ∙ sym s)

pub no_step : (v : Forest) (keep slash : Bool) (at : ℕ) (names : List (List ℕ)) → names ≡ [] → stretch_of v keep at names slash ≡ ended_at (Ok (record { parent = 1; name = []; node = Some 1; slash = slash }))
unfolding stretch_of
no_step v keep slash at names e = ap (λ xs. stretch_of v keep at xs slash) e

pub nil_test : {X : Type 0} (xs : List X) → (length xs == 0) ≡ is_nil xs
nil_test [] = refl
nil_test (x ∷ xs) = let some : (suc (length xs) == 0) ≡ false = grind (arith, nat_tests) in some

pub nil_same : {X Y : Type 0} (xs : List X) (ys : List Y) → length xs ≡ length ys → is_nil xs ≡ is_nil ys
nil_same [] [] e = refl
nil_same [] (y ∷ ys) e = absurd (omega arith)
nil_same (x ∷ xs) [] e = absurd (omega arith)
nil_same (x ∷ xs) (y ∷ ys) e = refl

-- a walk is one of stretches, one for itself and one for each link
after_stretch : (v : Forest) (keep : Bool) (follow : ℕ → List (List ℕ) → Bool → Result Place Errno) (at : ℕ) (names : List (List ℕ)) (slash : Bool) → walk_from v keep follow at names slash ≡ walk_after_stretch follow (stretch_of v keep at names slash)
unfolding walk_from stretch_of
after_stretch v keep follow at [] slash = refl
after_stretch v keep follow at (name ∷ rest) slash = by_step (step_of v keep (is_nil rest) slash at name) (λ n. after_stretch v keep follow n rest slash)
  where
    by_step : (step : Step) → ((n : ℕ) → walk_from v keep follow n rest slash ≡ walk_after_stretch follow (stretch_of v keep n rest slash)) → after_step (λ n. walk_from v keep follow n rest slash) (λ target. follow (start_of at target) (path_names target ++ rest) (slash || (is_nil rest && ends_in_slash target))) step ≡ walk_after_stretch follow (stretch_after_step rest slash at (λ n. stretch_of v keep n rest slash) step)
    by_step (On n) more = more n
    by_step (Done place) more = refl
    by_step (Refused e) more = refl
    by_step (Follow target) more = refl

pub in_stretches : (k : ℕ) (v : Forest) (keep : Bool) (at : ℕ) (names : List (List ℕ)) (slash : Bool) → walk_by k v keep at names slash ≡ walk_by_stretches (suc k) v keep at names slash
unfolding walk_by walk_by_stretches
in_stretches zero v keep at names slash = after_stretch v keep (λ _ _ _. Err Loop) at names slash ∙ by_reached (stretch_of v keep at names slash)
  where
    by_reached : (reached : StretchEnd) → walk_after_stretch (λ _ _ _. Err Loop) reached ≡ walk_after_stretch (walk_by_stretches zero v keep) reached
    by_reached (ended_at result) = refl
    by_reached (goes_on n rest ends) = refl
in_stretches (suc k) v keep at names slash = after_stretch v keep (walk_by k v keep) at names slash ∙ by_reached (stretch_of v keep at names slash) (λ n rest ends. in_stretches k v keep n rest ends)
  where
    by_reached : (reached : StretchEnd) → ((n : ℕ) (rest : List (List ℕ)) (ends : Bool) → walk_by k v keep n rest ends ≡ walk_by_stretches (suc k) v keep n rest ends) → walk_after_stretch (walk_by k v keep) reached ≡ walk_after_stretch (walk_by_stretches (suc k) v keep) reached
    by_reached (ended_at result) more = refl
    by_reached (goes_on n rest ends) more = more n rest ends

-- a walk of one stretch, of more, and of none
pub walk_done : (k : ℕ) (v : Forest) (keep : Bool) (at : ℕ) (names : List (List ℕ)) (slash : Bool) (r : Result Place Errno) → 0 < k → stretch_of v keep at names slash ≡ ended_at r → walk_by_stretches k v keep at names slash ≡ r
unfolding walk_by_stretches
walk_done zero v keep at names slash r h e = absurd (omega arith)
walk_done (suc k) v keep at names slash r h e = ap (walk_after_stretch (walk_by_stretches k v keep)) e

pub walk_goes : (k j : ℕ) (v : Forest) (keep : Bool) (at : ℕ) (names : List (List ℕ)) (slash : Bool) (next : ℕ) (rest : List (List ℕ)) (ends : Bool) → k ≡ j + 1 → stretch_of v keep at names slash ≡ goes_on next rest ends → walk_by_stretches k v keep at names slash ≡ walk_by_stretches j v keep next rest ends
unfolding walk_by_stretches
walk_goes zero j v keep at names slash next rest ends h e = absurd (omega arith)
walk_goes (suc k) j v keep at names slash next rest ends h e =
    let same : k ≡ j = omega arith in
    ap (walk_after_stretch (walk_by_stretches k v keep)) e ∙ ap (λ i. walk_by_stretches i v keep next rest ends) same

pub walk_end : (k : ℕ) (v : Forest) (keep : Bool) (at : ℕ) (names : List (List ℕ)) (slash : Bool) → k ≡ 0 → walk_by_stretches k v keep at names slash ≡ Err Loop
unfolding walk_by_stretches
walk_end k v keep at names slash e = ap (λ i. walk_by_stretches i v keep at names slash) e

-- the last of a list, taken
pub popped : {X : Type 0} (old new : List X) (found : Option X) (x : X) → old ≡ new ++ option_to_list found → found ≡ Some x → reverse old ≡ x ∷ reverse new
popped old new found x e is = ap reverse e ∙ reverse-append new (option_to_list found) ∙ ap (λ found. reverse (option_to_list found) ++ reverse new) is

pub nil_reversed : {X : Type 0} (xs : List X) (n : ℕ) → length xs ≡ n → (n == 0) ≡ is_nil (reverse xs)
nil_reversed xs n e = ap (λ k. k == 0) (sym e) ∙ nil_test xs ∙ nil_same xs (reverse xs) (sym (length-reverse xs))
