-- Places for machines, and the machines in them.
use Rattle.std.proofs.Common.{◌≡◌, ℕ, List, [], ◌∷◌, cond, Bool, true, false, Option, None, Some, refl, sym, ap, subst, ◌∙◌}
use Rattle.std.specs.Prelude.{IsSome}
use Rattle.std.specs.Option.{option_flatten}
use Rattle.std.specs.Ordering.{is_eq, nat_cmp}
use Rattle.std.specs.Cmp.{nat_cmp_total}
use Rattle.std.specs.FinMap.{FinMap, find, get, insert, remove, empty, entries, get-entries, get-insert, get-remove, get-empty, same_map, nat_cmp-IsAntisymmetric}
use Rattle.dt_tables.proofs.Maps.{at_remove, get-insert_other, get-remove_same, get-remove_other, insert_same}
use Rattle.dt_rv64.specs.declared.machine.Machine.{Machine}
use Rattle.dt_calls.specs.Container.{Machines}
use Rattle.dt_calls.specs.InCode.{machines_in, machines_at_home, with_child_place}
use Rattle.dt_calls.specs.Settle.{with_own, with_child_machine}

same : {X : Type 0} (m n : FinMap nat_cmp X) → ((q : ℕ) → get m q ≡ get n q) → m ≡ n
same m n is = same_map nat_cmp_total nat_cmp-IsAntisymmetric m n is

-- a place that is flattened, and a choice between two
chosen : (b : Bool) (x : Option Machine) (y : Option (Option Machine)) → cond b x (option_flatten y) ≡ option_flatten (cond b (Some x) y)
chosen true x y = refl
chosen false x y = refl

chosen_none : (b : Bool) (y : Option (Option Machine)) → cond b None (option_flatten y) ≡ option_flatten (cond b None y)
chosen_none true y = refl
chosen_none false y = refl

get-with_own : (machines : Machines) (p : ℕ) (place : Option Machine) (q : ℕ) → get (with_own machines p place) q ≡ cond (is_eq (nat_cmp q p)) place (get machines q)
get-with_own machines p None q = get-remove nat_cmp_total machines p q
get-with_own machines p (Some m) q = get-insert nat_cmp_total machines p m q

get-home_in : (es : List (ℕ × Option Machine)) (q : ℕ) → get (machines_in es) q ≡ option_flatten (find nat_cmp q es)
get-home_in [] q = get-empty nat_cmp q
get-home_in (e ∷ es) q =
    get-with_own (machines_in es) e.0 e.1 q
    ∙ ap (cond (is_eq (nat_cmp q e.0)) e.1) (get-home_in es q)
    ∙ chosen (is_eq (nat_cmp q e.0)) e.1 (find nat_cmp q es)

-- a machine is at home where its place has it
pub get-home_of : (places : FinMap nat_cmp (Option Machine)) (q : ℕ) → get (machines_at_home places) q ≡ option_flatten (get places q)
unfolding machines_at_home
get-home_of places q = get-home_in (entries places) q ∙ ap option_flatten (sym (get-entries places q))

-- a machine that leaves its place isn't at home
pub home-away : (places : FinMap nat_cmp (Option Machine)) (p : ℕ) → machines_at_home (insert places p None) ≡ remove (machines_at_home places) p
home-away places p = same _ _ (λ q.
    get-home_of (insert places p None) q
    ∙ ap option_flatten (get-insert nat_cmp_total places p None q)
    ∙ sym (chosen (is_eq (nat_cmp q p)) None (get places q))
    ∙ ap (cond (is_eq (nat_cmp q p)) None) (sym (get-home_of places q))
    ∙ sym (get-remove nat_cmp_total (machines_at_home places) p q))

-- one that comes to its place is
pub home-given : (places : FinMap nat_cmp (Option Machine)) (p : ℕ) (m : Machine) → machines_at_home (insert places p (Some m)) ≡ insert (machines_at_home places) p m
home-given places p m = same _ _ (λ q.
    get-home_of (insert places p (Some m)) q
    ∙ ap option_flatten (get-insert nat_cmp_total places p (Some m) q)
    ∙ sym (chosen (is_eq (nat_cmp q p)) (Some m) (get places q))
    ∙ ap (cond (is_eq (nat_cmp q p)) (Some m)) (sym (get-home_of places q))
    ∙ sym (get-insert nat_cmp_total (machines_at_home places) p m q))

-- and where the place goes its machine does
pub home-gone : (places : FinMap nat_cmp (Option Machine)) (p : ℕ) → machines_at_home (remove places p) ≡ remove (machines_at_home places) p
home-gone places p = same _ _ (λ q.
    get-home_of (remove places p) q
    ∙ ap option_flatten (get-remove nat_cmp_total places p q)
    ∙ sym (chosen_none (is_eq (nat_cmp q p)) (get places q))
    ∙ ap (cond (is_eq (nat_cmp q p)) None) (sym (get-home_of places q))
    ∙ sym (get-remove nat_cmp_total (machines_at_home places) p q))

pub home-empty : machines_at_home empty ≡ empty
home-empty = same _ _ (λ q. get-home_of empty q ∙ ap option_flatten (get-empty nat_cmp q) ∙ sym (get-empty nat_cmp q))

abbrev nowhere : Machines
nowhere = empty

gone_none : (p : ℕ) → remove nowhere p ≡ nowhere
gone_none p = same (remove nowhere p) nowhere (λ q.
    get-remove nat_cmp_total nowhere p q ∙ none (is_eq (nat_cmp q p)) (get nowhere q) (get-empty nat_cmp q))
  where
    none : (b : Bool) (found : Option Machine) → found ≡ None → cond b None found ≡ found
    none true found e = sym e
    none false found e = refl

-- a first place, which is empty, has no machine
pub home-first : (p : ℕ) → machines_at_home (insert empty p None) ≡ empty
home-first p = home-away empty p ∙ ap (λ machines. remove machines p) home-empty ∙ gone_none p

flat_some : (found : Option (Option Machine)) → IsSome (option_flatten found) → IsSome found
flat_some None h = cc
flat_some (Some place) h = refl

-- a machine at home has a place
pub home-place : (places : FinMap nat_cmp (Option Machine)) (p : ℕ) → IsSome (get (machines_at_home places) p) → IsSome (get places p)
home-place places p h = flat_some (get places p) (subst (λ found. IsSome found) (get-home_of places p) h)

-- which a process of that pid has, and no other
pub home-there : (places : FinMap nat_cmp (Option Machine)) (p : ℕ) (place : Option Machine) → get places p ≡ Some place → get (machines_at_home places) p ≡ place
home-there places p place is = get-home_of places p ∙ ap option_flatten is

-- a child's machine is at home
pub home-entered : (places : FinMap nat_cmp (Option Machine)) (next : ℕ) (child : Option Machine) → machines_at_home (with_child_place places next child) ≡ with_child_machine (machines_at_home places) next child
home-entered places next None = refl
home-entered places next (Some m) = home-given places next m

pub ruleset homes = (get-home_of, home-away, home-given, home-gone, home-empty, home-place, home-there, home-entered)

-- a machine that was put in a place and taken away is gone from it
gone_put : (machines : Machines) (p : ℕ) (m : Machine) → remove (insert machines p m) p ≡ remove machines p
gone_put machines p m = same _ _ (λ q.
    at_remove nat_cmp_total nat_cmp-IsAntisymmetric (λ found. found ≡ get (remove machines p) q) (insert machines p m) p q
    (λ is. sym (ap (get (remove machines p)) is ∙ get-remove_same nat_cmp_total nat_cmp-IsAntisymmetric machines p))
    (λ apart. get-insert_other nat_cmp_total nat_cmp-IsAntisymmetric machines p m q apart ∙ sym (get-remove_other nat_cmp_total nat_cmp-IsAntisymmetric machines p q apart)))

-- what a process leaves of its machine stands in its place, whatever stood there
pub own-over : (machines : Machines) (p : ℕ) (m : Machine) (own : Option Machine) → with_own (insert machines p m) p own ≡ with_own machines p own
own-over machines p m None = gone_put machines p m
own-over machines p m (Some n) = insert_same nat_cmp_total nat_cmp-IsAntisymmetric machines p m n
