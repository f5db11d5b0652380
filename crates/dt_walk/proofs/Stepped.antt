-- What is known of a step that ends a walk, and of one that follows a link.
use Rattle.std.proofs.Common.{arith, ◌≡◌, ℕ, ◌+◌, ◌≤◌, cond, true, false, Bool, not, ◌&&◌, List, length, Option, Some, None, refl, ap, subst, ◌∙◌}
use Rattle.std.proofs.lemmas.Bool.Decides.{nat_tests}
use Rattle.std.specs.Prelude.{nat_le, IfSome}
use Rattle.dt_base.specs.declared.errno.Errno.TheVariants.{NoEnt, NotDir, NameTooLong}
use Rattle.dt_base.specs.declared.limits.TheConstants.{NAME_LIMIT}
use Rattle.dt_host.specs.World.{Forest, IsDir, target_at}
use Rattle.dt_tree.specs.Shape.{is_dir}
use Rattle.dt_walk.specs.declared.place.Place.{Place}
use Rattle.dt_tree.proofs.NodeKinds.{is_dir-true}
use Rattle.dt_walk.specs.declared.step.Found.{Found}
use Rattle.dt_walk.specs.declared.step.Found.TheVariants.{Node, Missing, Gone}
use Rattle.dt_walk.specs.declared.step.Step.TheVariants.{On, Done, Refused, Follow}
use Rattle.dt_walk.specs.Walk.{node_or, lookup_in, end_step, node_step, after_look, step_in_dir, step_of}

-- a step ended a walk there: at a short name of a directory, with what was found under it, which is no link if links are followed
pub record EndedAt (v : Forest) (keep : Bool) (last : List ℕ) (place : Place) : Type 0 where
  pub dir : IsDir v place.parent
  pub name : place.name ≡ last
  pub short : length last ≤ NAME_LIMIT
  pub looked : lookup_in v place.parent last ≡ node_or Missing place.node
  pub straight : keep ≡ false → IfSome place.node (λ n. target_at v n ≡ None)

module _ (v : Forest) (keep last slash : Bool) (at : ℕ) (name : List ℕ) where
  abbrev place_with : Option ℕ → Place
  place_with found = record { parent = at; name = name; node = found; slash = slash }

  module _ (place : Place) where
    the_place : (found : Option ℕ) → Done (place_with found) ≡ Done place → place_with found ≡ place
    the_place found h = cc

    module _ (dir : IsDir v at) (short : length name ≤ NAME_LIMIT) where
      at_place : (found : Option ℕ) → lookup_in v at name ≡ node_or Missing found → (keep ≡ false → IfSome found (λ n. target_at v n ≡ None)) → Done (place_with found) ≡ Done place → EndedAt v keep name place
      at_place found looked straight h =
          subst (EndedAt v keep name) (the_place found h) (record { dir = dir; name = refl; short = short; looked = looked; straight = straight })

      by_end : (b : Bool) (m : ℕ) → lookup_in v at name ≡ Node m → (keep ≡ false → target_at v m ≡ None) → cond b (Refused NotDir) (Done (place_with (Some m))) ≡ Done place → EndedAt v keep name place
      by_end true m looked straight h = absurd (cc)
      by_end false m looked straight h = at_place (Some m) looked straight h

      by_stop : (b : Bool) (m : ℕ) → lookup_in v at name ≡ Node m → target_at v m ≡ None → cond b (end_step v slash at name m) (On m) ≡ Done place → EndedAt v keep name place
      by_stop true m looked none h = by_end (slash && not (is_dir v m)) m looked (λ _. none) h
      by_stop false m looked none h = absurd (cc)

      by_keep : (b k : Bool) (m : ℕ) (target : List ℕ) → lookup_in v at name ≡ Node m → keep ≡ k → cond (b && k) (end_step v slash at name m) (Follow target) ≡ Done place → EndedAt v keep name place
      by_keep true true m target looked e h = by_end (slash && not (is_dir v m)) m looked (λ off. absurd (cc)) h
      by_keep true false m target looked e h = absurd (cc)
      by_keep false k m target looked e h = absurd (cc)

      by_target : (target : Option (List ℕ)) (m : ℕ) → lookup_in v at name ≡ Node m → target_at v m ≡ target → node_step v keep last slash at name m target ≡ Done place → EndedAt v keep name place
      by_target None m looked e h = by_stop last m looked e h
      by_target (Some target) m looked e h = by_keep last keep m target looked refl h

      by_last : (b : Bool) → lookup_in v at name ≡ Missing → cond b (Done (place_with None)) (Refused NoEnt) ≡ Done place → EndedAt v keep name place
      by_last true looked h = at_place None looked (λ _. tt) h
      by_last false looked h = absurd (cc)

      by_found : (found : Found) → lookup_in v at name ≡ found → after_look v keep last slash at name found ≡ Done place → EndedAt v keep name place
      by_found Gone looked h = absurd (cc)
      by_found Missing looked h = by_last last looked h
      by_found (Node m) looked h = by_target (target_at v m) m looked refl h

    by_long : (b : Bool) → nat_le (NAME_LIMIT + 1) (length name) ≡ b → IsDir v at → cond b (Refused NameTooLong) (after_look v keep last slash at name (lookup_in v at name)) ≡ Done place → EndedAt v keep name place
    by_long true e dir h = absurd (cc)
    by_long false e dir h = let short : length name ≤ NAME_LIMIT = grind (arith, nat_tests) in by_found dir short (lookup_in v at name) refl h

    by_dir : (b : Bool) → is_dir v at ≡ b → cond b (step_in_dir v keep last slash at name) (Refused NotDir) ≡ Done place → EndedAt v keep name place
    by_dir true e h = by_long (nat_le (NAME_LIMIT + 1) (length name)) refl (is_dir-true v at e) h
    by_dir false e h = absurd (cc)

    pub ended_at : step_of v keep last slash at name ≡ Done place → EndedAt v keep name place
    unfolding step_of
    ended_at h = by_dir (is_dir v at) refl h

  module _ (target : List ℕ) where
    -- the link that a step follows
    abbrev Followed : Type 0
    Followed = (m : ℕ) × (target_at v m ≡ Some target)

    on_end : (b : Bool) (m : ℕ) → cond b (Refused NotDir) (Done (place_with (Some m))) ≡ Follow target → Followed
    on_end true m h = absurd (cc)
    on_end false m h = absurd (cc)

    on_stop : (b : Bool) (m : ℕ) → cond b (end_step v slash at name m) (On m) ≡ Follow target → Followed
    on_stop true m h = on_end (slash && not (is_dir v m)) m h
    on_stop false m h = absurd (cc)

    on_keep : (b : Bool) (m : ℕ) (t : List ℕ) → target_at v m ≡ Some t → cond b (end_step v slash at name m) (Follow t) ≡ Follow target → Followed
    on_keep true m t e h = on_end (slash && not (is_dir v m)) m h
    on_keep false m t e h = let same : t ≡ target = cc in (m, e ∙ ap Some same)

    on_target : (t : Option (List ℕ)) (m : ℕ) → target_at v m ≡ t → node_step v keep last slash at name m t ≡ Follow target → Followed
    on_target None m e h = on_stop last m h
    on_target (Some t) m e h = on_keep (last && keep) m t e h

    on_last : (b : Bool) → cond b (Done (place_with None)) (Refused NoEnt) ≡ Follow target → Followed
    on_last true h = absurd (cc)
    on_last false h = absurd (cc)

    on_found : (found : Found) → after_look v keep last slash at name found ≡ Follow target → Followed
    on_found Gone h = absurd (cc)
    on_found Missing h = on_last last h
    on_found (Node m) h = on_target (target_at v m) m refl h

    on_long : (b : Bool) → cond b (Refused NameTooLong) (after_look v keep last slash at name (lookup_in v at name)) ≡ Follow target → Followed
    on_long true h = absurd (cc)
    on_long false h = on_found (lookup_in v at name) h

    on_dir : (b : Bool) → cond b (step_in_dir v keep last slash at name) (Refused NotDir) ≡ Follow target → Followed
    on_dir true h = on_long (nat_le (NAME_LIMIT + 1) (length name)) h
    on_dir false h = absurd (cc)

    pub followed : step_of v keep last slash at name ≡ Follow target → (m : ℕ) × (target_at v m ≡ Some target)
    unfolding step_of
    followed h = on_dir (is_dir v at) h
