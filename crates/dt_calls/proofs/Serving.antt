-- The stop of a process whose machine is at home, served and settled.
use Rattle.std.proofs.Common.{arith, ◌≡◌, ◌≢◌, ℕ, cond, Option, Some, refl, sym, ap, subst, ◌∙◌, List}
use Rattle.std.specs.Prelude.{IsSome, option_map}
use Rattle.std.specs.Cmp.{nat_cmp_total}
use Rattle.std.specs.FinMap.{get, insert, empty, nat_cmp-IsAntisymmetric}
use Rattle.dt_host.specs.World.{World}
use Rattle.dt_tables.proofs.Maps.{at_insert, get-insert_same}
use Rattle.dt_base.specs.declared.limits.TheConstants.{FIRST_PID}
use Rattle.dt_rv64.specs.declared.machine.Machine.{Machine}
use Rattle.dt_rv64.specs.declared.segments.Stop.{Stop}
use Rattle.dt_calls.specs.declared.call.effect.Effect.{Effect as EffectInCode}
use Rattle.dt_calls.specs.declared.shared.Shared.{Shared as SharedInCode}
use Rattle.dt_calls.specs.Container.{Tasks, task_in}
use Rattle.dt_calls.specs.Execve.{task_after_start}
use Rattle.dt_calls.specs.InCode.{ContainerView, machines_at_home, places_after_turn, shared_of, container_of, effect_as, container_turn_as}
use Rattle.dt_calls.specs.Settle.{with_process_turn, process_turn, effect_of_turn, turn_of_container, turn_of_machine, is_end_of_all, machine_after, with_own, with_child_machine, next_after}
use Rattle.dt_calls.specs.Sound.{IsSound, IsPaired, IsSoundContainer, LeavesSound}
use Rattle.dt_calls.specs.AtHome.{Places, Becomes, KeepPlaces}
use Rattle.dt_calls.proofs.Homes.{home-given, home-there, home-place, own-over}
use Rattle.dt_calls.proofs.Settled.{paired-insert, paired-after, homes-after, place-stays}
use Rattle.dt_calls.proofs.Tasks.{some-task, task-here, still-insert, sound-task}

-- a container that is sound but for how many places it has
pub record Uncounted (new : ContainerView) (w : World) : Type 0 where
  pub shared : IsSound new.shared w
  pub paired : IsPaired new

module _ (v s : ContainerView) (w : World) (p : ℕ) (sound : IsSoundContainer v w) (same : s ≡ v) (home : IsSome (get (machines_at_home v.places) p)) where
  same_shared : s.shared ≡ v.shared
  same_shared = ap (λ (x : ContainerView). x.shared) same

  same_places : s.places ≡ v.places
  same_places = ap (λ (x : ContainerView). x.places) same

  pub sound-served : IsSound s.shared w
  sound-served = subst (λ (x : SharedInCode). IsSound x w) (sym same_shared) sound.shared

  -- the process has a task
  task-there : IsSome (get v.shared.tasks p)
  task-there = sound.paired p (home-place v.places p home)

  pub task-served : IsSome (get s.shared.tasks p)
  task-served = subst (λ (x : SharedInCode). IsSome (get x.tasks p)) (sym same_shared) task-there

  -- its machine is at home in the code's hands too
  pub home-served : IsSome (get (machines_at_home s.places) p)
  home-served = subst (λ places. IsSome (get (machines_at_home places) p)) (sym same_places) home

  -- its pid was given before
  apart-served : (next : ℕ) → next ≡ s.shared.pids.next → p ≢ next
  apart-served next number = λ equal.
      let given = sound.shared.given p task-there in
      let now = number ∙ ap (λ (x : SharedInCode). x.pids.next) same_shared in
      absurd (omega arith)

  module _ (places : Places) (was now : Machine) (becomes : Becomes s.places places p was now) where
    was-home : get (machines_at_home v.places) p ≡ Some was
    was-home = home-there v.places p (Some was) (subst (λ x. get x p ≡ Some (Some was)) same_places becomes.home)

    -- each place is one of a live process while the machine runs
    paired-served : (q : ℕ) → IsSome (get places q) → IsSome (get s.shared.tasks q)
    paired-served q some =
        subst (λ (x : SharedInCode). IsSome (get x.tasks q)) (sym same_shared)
        (at_insert nat_cmp_total nat_cmp-IsAntisymmetric (λ found. IsSome found → IsSome (get v.shared.tasks q)) s.places p (Some now) q
        (λ is _. subst (λ k. IsSome (get v.shared.tasks k)) (sym is) task-there)
        (λ apart there. sound.paired q (subst (λ x. IsSome (get x q)) same_places there))
        (subst (λ x. IsSome (get x q)) becomes.rest some))

    -- a process that lives on has its place still
    pub places-kept : (next : ℕ) (e : EffectInCode) (new : ContainerView) (left : Places) → left ≡ places
        → new.places ≡ places_after_turn left next p e.served e.child → KeepPlaces p e.served v.places new.places
    places-kept next e new left same_left is q lives there =
        subst (λ x. IsSome (get x q)) (sym (is ∙ ap (λ x. places_after_turn x next p e.served e.child) (same_left ∙ becomes.rest)))
        (place-stays (insert s.places p (Some now)) next p e.served e.child q lives
        (at_insert nat_cmp_total nat_cmp-IsAntisymmetric (λ found. IsSome found) s.places p (Some now) q (λ _. refl)
        (λ _. subst (λ x. IsSome (get x q)) (sym same_places) there)))

    -- and once it was settled the container is sound again
    pub settles : (next : ℕ) (w2 : World) (e : EffectInCode) (shared : SharedInCode) (new : ContainerView) → next ≡ s.shared.pids.next
        → LeavesSound p e.served e.child s.shared shared w2
        → new ≡ record { shared = shared; places = places_after_turn places next p e.served e.child; events = e.events.items }
        → Uncounted new w2
    settles next w2 e shared new number leaves new_is =
        let settled : new ≡ record { shared = shared; places = places_after_turn places s.shared.pids.next p e.served e.child; events = e.events.items } =
        new_is ∙ ap (λ k. record { shared = shared; places = places_after_turn places k p e.served e.child; events = e.events.items }) number in
        record {
          shared = subst (λ (x : ContainerView). IsSound x.shared w2) (sym new_is) leaves.sound;
          paired = subst IsPaired (sym settled) (paired-after places p e.served e.child s.shared shared w2 leaves paired-served (apart-served s.shared.pids.next refl));
        }

    -- the machines at home with that of the process put back are those with it as it became
    own-served : (own : Option Machine) → with_own (machines_at_home places) p own ≡ with_own (machines_at_home v.places) p own
    own-served own =
        ap (λ x. with_own (machines_at_home x) p own) (becomes.rest ∙ ap (λ x. insert x p (Some now)) same_places)
        ∙ ap (λ ms. with_own ms p own) (home-given v.places p now) ∙ own-over (machines_at_home v.places) p now own

    -- the machine stands in its place
    place-served : get places p ≡ Some (Some now)
    place-served = ap (λ x. get x p) becomes.rest ∙ get-insert_same nat_cmp_total nat_cmp-IsAntisymmetric s.places p (Some now)

    -- what serving and settling came to is what the definition says
    pub serve-done : (stop : Stop) (next : ℕ) (w2 : World) (e : EffectInCode) (shared : SharedInCode) (new : ContainerView) → next ≡ s.shared.pids.next
        → effect_of_turn (shared_of s.shared w) s.shared.pids.next p was stop ≡ effect_as (shared_of shared w2) now e
        → shared.pids.next ≡ next_after s.shared.pids.next e.child
        → new ≡ record { shared = shared; places = places_after_turn places next p e.served e.child; events = e.events.items }
        → turn_of_container (container_of v w) p stop ≡ Some (container_turn_as (container_of new w2) e.served)
    unfolding turn_of_container turn_of_machine
    serve-done stop next w2 e shared new number did_as given new_is =
        let c = container_of v w in
        let same_next : next ≡ v.shared.pids.next = number ∙ ap (λ (x : SharedInCode). x.pids.next) same_shared in
        let machines : machines_at_home (places_after_turn places next p e.served e.child)
        ≡ cond (is_end_of_all p e.served) empty (with_child_machine (with_own c.machines p (machine_after e.served now)) c.next e.child) =
        homes-after places p next now e.served e.child place-served
        ∙ ap (λ ms. cond (is_end_of_all p e.served) empty (with_child_machine ms next e.child)) (own-served (machine_after e.served now))
        ∙ ap (λ k. cond (is_end_of_all p e.served) empty (with_child_machine (with_own c.machines p (machine_after e.served now)) k e.child)) same_next in
        let later : next_after c.next e.child ≡ shared.pids.next = ap (λ (x : SharedInCode). next_after x.pids.next e.child) (sym same_shared) ∙ sym given in
        ap (option_map (λ k. with_process_turn c p (turn_of_machine c.shared c.next p stop k))) was-home
        ∙ ap Some (ap (λ (x : SharedInCode). with_process_turn c p (process_turn (effect_of_turn (shared_of x w) x.pids.next p was stop))) (sym same_shared)
        ∙ ap (λ r. with_process_turn c p (process_turn r)) did_as
        ∙ (λ i. record {
          container = record { shared = shared_of shared w2; machines = sym machines i; next = later i; events = e.events.items };
          served = e.served;
        })
        ∙ ap (λ (x : ContainerView). container_turn_as (container_of x w2) e.served) (sym new_is))

-- what is read as standard input is of no other part
sound-input : (c : SharedInCode) (input : List ℕ) (w : World) → IsSound c w → IsSound (record c { fs = record c.fs { input = input } }) w
sound-input c input w s = record {
  stands = s.stands;
  pids = s.pids;
  all_in = s.all_in;
  directories = s.directories;
  holds = s.holds;
  piped = s.piped;
  named = s.named;
  given = s.given;
  lives = s.lives;
  fresh = s.fresh;
}

-- and so is one whose first process was started
pub launches : (inside v : ContainerView) (w : World) (m : Machine) (break_start : ℕ) (tasks : Tasks) (input : List ℕ) (new : ContainerView)
    → IsSoundContainer v w → inside ≡ v → IsSome (get v.shared.tasks FIRST_PID)
    → tasks ≡ insert inside.shared.tasks FIRST_PID (task_after_start break_start (task_in inside.shared.tasks FIRST_PID))
    → new ≡ record { shared = record inside.shared { fs = record inside.shared.fs { input = input }; tasks = tasks }; places = insert inside.places FIRST_PID (Some m); events = inside.events }
    → Uncounted new w
launches inside v w m break_start tasks input new sound is there put_is new_is =
    let own = task_in v.shared.tasks FIRST_PID in
    let started = task_after_start break_start own in
    let fed : SharedInCode = record v.shared { fs = record v.shared.fs { input = input } } in
    let given : new ≡ record { shared = record fed { tasks = insert v.shared.tasks FIRST_PID started }; places = insert v.places FIRST_PID (Some m); events = v.events } =
    new_is
    ∙ ap (λ (x : Tasks). record { shared = record inside.shared { fs = record inside.shared.fs { input = input }; tasks = x }; places = insert inside.places FIRST_PID (Some m); events = inside.events }) put_is
    ∙ ap (λ (x : ContainerView). record { shared = record x.shared { fs = record x.shared.fs { input = input }; tasks = insert x.shared.tasks FIRST_PID (task_after_start break_start (task_in x.shared.tasks FIRST_PID)) }; places = insert x.places FIRST_PID (Some m); events = x.events }) is in
    record {
      shared = subst (λ (x : ContainerView). IsSound x.shared w) (sym given) (sound-task fed FIRST_PID w own started (sound-input v.shared input w sound.shared) (some-task v.shared.tasks FIRST_PID there) refl refl);
      paired = subst IsPaired (sym given)
          (paired-insert (insert v.shared.tasks FIRST_PID started) v.places FIRST_PID (Some m)
          (λ q some. still-insert v.shared.tasks FIRST_PID started q (sound.paired q some))
          (task-here v.shared.tasks FIRST_PID started));
    }
