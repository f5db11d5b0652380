-- What a turn leaves of the places for machines.
use Rattle.std.proofs.Common.{arith, ◌≡◌, ◌≢◌, ◌==◌, ℕ, Bool, true, false, cond, Option, None, Some, refl, sym, ap, subst, ◌∙◌}
use Rattle.std.proofs.lemmas.Bool.Decides.{nat_tests}
use Rattle.std.specs.Prelude.{IsSome, IfSome}
use Rattle.std.specs.Ordering.{nat_cmp}
use Rattle.std.specs.Cmp.{nat_cmp_total}
use Rattle.std.specs.FinMap.{FinMap, get, insert, remove, empty, get-empty, nat_cmp-IsAntisymmetric}
use Rattle.dt_host.specs.World.{World}
use Rattle.dt_tables.proofs.Found.{none_there}
use Rattle.dt_tables.proofs.Maps.{at_insert, at_remove, get-insert_same, put_back}
use Rattle.dt_rv64.specs.declared.machine.Machine.{Machine}
use Rattle.dt_calls.specs.declared.container.Served.{Served}
use Rattle.dt_calls.specs.declared.container.Served.TheVariants.{Done, Child, LastChild, Blocked, Progress, Ended, Unsupported}
use Rattle.dt_calls.specs.declared.shared.Shared.{Shared}
use Rattle.dt_calls.specs.Container.{Tasks}
use Rattle.dt_calls.specs.Ends.{has_ended}
use Rattle.dt_calls.specs.InCode.{machines_at_home, with_child_place, places_after_turn}
use Rattle.dt_calls.specs.Settle.{is_end_of_all, machine_after, with_own, with_child_machine}
use Rattle.dt_calls.specs.Sound.{LivesOn, LeavesSound}
use Rattle.dt_calls.proofs.Homes.{home-entered, home-given, home-gone, home-empty}

abbrev Places : Type 0
Places = FinMap nat_cmp (Option Machine)

module _ (tasks : Tasks) where
  -- each place is one of these processes
  abbrev Paired : Places → Type 0
  Paired places = (q : ℕ) → IsSome (get places q) → IsSome (get tasks q)

  pub paired-insert : (places : Places) (p : ℕ) (place : Option Machine) → Paired places → IsSome (get tasks p) → Paired (insert places p place)
  paired-insert places p place paired here q =
      at_insert nat_cmp_total nat_cmp-IsAntisymmetric (λ found. IsSome found → IsSome (get tasks q)) places p place q
      (λ is some. subst (λ k. IsSome (get tasks k)) (sym is) here) (λ apart. paired q)

  pub paired-entered : (places : Places) (next : ℕ) (child : Option Machine) → Paired places → IfSome child (λ _. IsSome (get tasks next)) → Paired (with_child_place places next child)
  paired-entered places next None paired here = paired
  paired-entered places next (Some m) paired here = paired-insert places next (Some m) paired here

  pub paired-empty : Paired empty
  paired-empty q some = let none = get-empty {X = Option Machine} nat_cmp q in absurd (none_there (get empty q) none some)

pub place-here : (places : Places) (p : ℕ) (place : Option Machine) → IsSome (get (insert places p place) p)
place-here places p place = subst (λ found. IsSome found) (sym (get-insert_same nat_cmp_total nat_cmp-IsAntisymmetric places p place)) refl

-- the machines at home after a turn of a process whose machine was
pub homes-after : (places : Places) (p next : ℕ) (m : Machine) (served : Served) (child : Option Machine) → get places p ≡ Some (Some m)
    → machines_at_home (places_after_turn places next p served child)
    ≡ cond (is_end_of_all p served) empty (with_child_machine (with_own (machines_at_home places) p (machine_after served m)) next child)
homes-after places p next m served child home = by_all (is_end_of_all p served) ∙ ap (cond (is_end_of_all p served) empty) (by_end (has_ended served))
  where
    by_all : (b : Bool) → machines_at_home (cond b empty (with_child_place (cond (has_ended served) (remove places p) places) next child)) ≡ cond b empty (machines_at_home (with_child_place (cond (has_ended served) (remove places p) places) next child))
    by_all true = home-empty
    by_all false = refl

    by_end : (b : Bool) → machines_at_home (with_child_place (cond b (remove places p) places) next child) ≡ with_child_machine (with_own (machines_at_home places) p (cond b None (Some m))) next child
    by_end true = home-entered (remove places p) next child ∙ ap (λ ms. with_child_machine ms next child) (home-gone places p)
    by_end false = home-entered places next child
        ∙ ap (λ ms. with_child_machine ms next child) (ap machines_at_home (sym (put_back nat_cmp_total nat_cmp-IsAntisymmetric places p (Some m) home)) ∙ home-given places p m)

-- who lives on while not all end: each but the process that ended
lives-after : (p : ℕ) (served : Served) (q : ℕ) → is_end_of_all p served ≡ false → (has_ended served ≡ true → q ≢ p) → LivesOn p served q
lives-after p Done q some apart = tt
lives-after p (Child v) q some apart = tt
lives-after p (LastChild v) q some apart = record { first = grind (arith, nat_tests, some); apart = apart refl }
lives-after p Blocked q some apart = tt
lives-after p Progress q some apart = tt
lives-after p Ended q some apart = record { first = grind (arith, nat_tests, some); apart = apart refl }
lives-after p (Unsupported number) q some apart = tt

-- each place is one of a live process after a turn
pub paired-after : (places : Places) (p : ℕ) (served : Served) (child : Option Machine) (old new : Shared) (w : World) → LeavesSound p served child old new w
    → ((q : ℕ) → IsSome (get places q) → IsSome (get old.tasks q)) → p ≢ old.pids.next
    → (q : ℕ) → IsSome (get (places_after_turn places old.pids.next p served child) q) → IsSome (get new.tasks q)
paired-after places p served child old new w leaves paired apart = by_all (is_end_of_all p served) refl
  where
    by_end : (b : Bool) → has_ended served ≡ b → is_end_of_all p served ≡ false → Paired new.tasks (cond b (remove places p) places)
    by_end true ended some q = at_remove nat_cmp_total nat_cmp-IsAntisymmetric (λ found. IsSome found → IsSome (get new.tasks q)) places p q
        (λ is there. cc) (λ other there. leaves.tasks q (lives-after p served q some (λ _. other)) (paired q there))
    by_end false ended some q = λ there.
        leaves.tasks q (lives-after p served q some (λ is. let no : true ≡ false = sym is ∙ ended in cc)) (paired q there)

    born : (made : Option Machine) → IfSome made (λ _. LivesOn p served old.pids.next → IsSome (get new.tasks old.pids.next)) → LivesOn p served old.pids.next → IfSome made (λ _. IsSome (get new.tasks old.pids.next))
    born None there lives = tt
    born (Some m) there lives = there lives

    by_all : (b : Bool) → is_end_of_all p served ≡ b → Paired new.tasks (cond b empty (with_child_place (cond (has_ended served) (remove places p) places) old.pids.next child))
    by_all true all = paired-empty new.tasks
    by_all false some = paired-entered new.tasks (cond (has_ended served) (remove places p) places) old.pids.next child (by_end (has_ended served) refl some)
        (born child leaves.child (lives-after p served old.pids.next some (λ _ is. apart (sym is))))

entered-stays : (places : Places) (next : ℕ) (child : Option Machine) (q : ℕ) → IsSome (get places q)
    → IsSome (get (with_child_place places next child) q)
entered-stays places next None q there = there
entered-stays places next (Some m) q there =
    at_insert nat_cmp_total nat_cmp-IsAntisymmetric (λ found. IsSome found) places next (Some m) q (λ _. refl) (λ _. there)

left-stays : (places : Places) (next p : ℕ) (child : Option Machine) (q : ℕ) (all : Bool) → all ≡ false → q ≢ p
    → IsSome (get places q) → IsSome (get (cond all empty (with_child_place (remove places p) next child)) q)
left-stays places next p child q true none apart there = cc
left-stays places next p child q false none apart there =
    entered-stays (remove places p) next child q
    (at_remove nat_cmp_total nat_cmp-IsAntisymmetric (λ found. IsSome found) places p q (λ is. absurd (apart is)) (λ _. there))

-- the place of a process that lives on stays
pub place-stays : (places : Places) (next p : ℕ) (served : Served) (child : Option Machine) (q : ℕ) → LivesOn p served q
    → IsSome (get places q) → IsSome (get (places_after_turn places next p served child) q)
place-stays places next p Done child q lives there = entered-stays places next child q there
place-stays places next p (Child v) child q lives there = entered-stays places next child q there
place-stays places next p (LastChild v) child q lives there =
    let first = lives.first in left-stays places next p child q (p == 1) (grind (arith, nat_tests)) lives.apart there
place-stays places next p Blocked child q lives there = entered-stays places next child q there
place-stays places next p Progress child q lives there = entered-stays places next child q there
place-stays places next p Ended child q lives there =
    let first = lives.first in left-stays places next p child q (p == 1) (grind (arith, nat_tests)) lives.apart there
place-stays places next p (Unsupported number) child q lives there = entered-stays places next child q there
