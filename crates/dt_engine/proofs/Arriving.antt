-- What the arrival of a segment comes to.
use Rattle.std.proofs.Common.{◌≡◌, ◌≢◌, ℕ, zero, suc, ◌+◌, ◌<◌, ◌≤◌, ◌==◌, not, Bool, true, false, cond, List, [], ◌∷◌, map, length, Option, Some, refl, sym, ap, subst, ◌∙◌, arith}
use Rattle.std.specs.Prelude.{IsSome, IsTrue, option_map}
use Rattle.std.proofs.lemmas.Bool.Decides.{nat_tests}
use Rattle.std.proofs.lemmas.List.Elements.{All-from_recursion, All-contains}
use Rattle.std.specs.List.{AllByRecursion, Contains, filter, slice_index_or}
use Rattle.std.specs.Ordering.{nat_cmp}
use Rattle.std.specs.Cmp.{nat_cmp_total}
use Rattle.std.specs.FinMap.{FinMap, get, insert, keys, nat_cmp-IsAntisymmetric}
use Rattle.dt_base.specs.declared.limits.TheConstants.{SEGMENT_LIMIT}
use Rattle.dt_host.specs.World.{World}
use Rattle.dt_tables.proofs.Maps.{at_insert, get-insert_same, get-insert_other}
use Rattle.dt_tables.proofs.Totals.{total-insert}
use Rattle.dt_procs.specs.declared.member.TheConstants.{PROCESS_LIMIT}
use Rattle.dt_rv64.specs.declared.machine.Machine.{Machine}
use Rattle.dt_rv64.specs.declared.segments.Seg.{Seg}
use Rattle.dt_rv64.specs.declared.segments.Stop.{Stop}
use Rattle.dt_rv64.specs.Segment.{SegmentRun, segment_of}
use Rattle.dt_rv64.proofs.Runs.{segment-is}
use Rattle.dt_sched.specs.declared.process.Process.{Process}
use Rattle.dt_sched.specs.declared.process.Phase.{Phase}
use Rattle.dt_sched.specs.declared.process.Phase.TheVariants.{Owes, Ran, Waits}
use Rattle.dt_sched.specs.Core.{CoreView, owing_vpids, is_distinct, is_owing, is_queued, is_segment_count, core_after_arrival, process_after_arrival}
use Rattle.dt_sched.proofs.Tables.{owing-arrived}
use Rattle.dt_calls.specs.Container.{Machines}
use Rattle.dt_calls.specs.InCode.{ContainerView, shared_of, machines_at_home}
use Rattle.dt_calls.specs.Sound.{IsSoundContainer}
use Rattle.dt_calls.specs.AtHome.{Places, RunsAt}
use Rattle.dt_calls.proofs.Homes.{home-place, home-given, home-there as machine-there}
use Rattle.dt_engine.specs.declared.state.State.{State as StateInCode}
use Rattle.dt_engine.specs.Work.{with_segment, prepared_of, work_after_segment}
use Rattle.dt_engine.specs.Ahead.{with_segment_of, works_with_segment}
use Rattle.dt_engine.specs.inner.InCode.{Stops, phase_at, noted_stop, with_stop, phase_in, work_in, works_in, schedule_of, state_of}
use Rattle.dt_engine.specs.inner.Good.{IsPlaced, IsGood, steps_left}
use Rattle.dt_engine.proofs.Works.{Only, get-works_in, works_in-insert}
use Rattle.dt_engine.proofs.Standings.{phase-first, phase-other, phase-arrived, phase-arrived-other}
use Rattle.dt_engine.proofs.Queued.{pids-arrived}
use Rattle.dt_engine.proofs.Placed.{once-apart, keys-total, weight-some}

-- a segment that was run has a count that may arrive
pub run-counts : (was now : Machine) (seg : Seg) → segment_of was ≡ record { count = seg.count; stop = seg.stop; machine = now } → IsTrue (is_segment_count seg.count)
run-counts was now seg run =
    let is = segment-is was in
    let least : 1 ≤ seg.count = subst (λ (made : SegmentRun). 1 ≤ made.count) run is.least in
    let most : seg.count ≤ SEGMENT_LIMIT = subst (λ (made : SegmentRun). made.count ≤ SEGMENT_LIMIT) run is.most in
    grind (arith, nat_tests)

-- a process that owes, with its machine at home
pub record IsOwed (queue : List Process) (machines : Machines) (stops : Stops) (next p : ℕ) : Type 0 where
  pub owes : phase_at p queue ≡ Owes
  pub queued : is_queued p queue ≡ true
  pub home : IsSome (get machines p)
  pub noted : IsSome (get stops p)
  pub given : p < next

pub owes-in : (phase : Phase ℕ) → is_owing phase ≡ true → phase ≡ Owes
owes-in Owes is = refl
owes-in (Ran count) is = cc
owes-in Waits is = cc

module _ (machines : Machines) (stops : Stops) (next : ℕ) where
  -- likewise in a longer queue
  owed-behind : (x : Process) (xs : List Process) (p : ℕ) → is_queued x.vpid xs ≡ false
      → IsOwed xs machines stops next p → IsOwed (x ∷ xs) machines stops next p
  owed-behind x xs p absent h =
      let apart : p ≢ x.vpid = λ e. absurd (let both = sym absent ∙ ap (λ n. is_queued n xs) (sym e) ∙ h.queued in cc) in
      record {
        owes = phase-other p x xs apart ∙ h.owes;
        queued = grind (arith, nat_tests, h.queued);
        home = h.home;
        noted = h.noted;
        given = h.given;
      }

  all-behind : (x : Process) (xs : List Process) (ns : List ℕ) → is_queued x.vpid xs ≡ false
      → AllByRecursion (IsOwed xs machines stops next) ns → AllByRecursion (IsOwed (x ∷ xs) machines stops next) ns
  all-behind x xs [] absent all = tt
  all-behind x xs (n ∷ ns) absent all = (owed-behind x xs n absent all.0, all-behind x xs ns absent all.1)

  owed-first : (x : Process) (xs : List Process) (b : Bool) → is_owing x.phase ≡ b → is_queued x.vpid xs ≡ false
      → IsPlaced machines stops next x → AllByRecursion (IsOwed xs machines stops next) (owing_vpids xs)
      → AllByRecursion (IsOwed (x ∷ xs) machines stops next) (cond b (x.vpid ∷ owing_vpids xs) (owing_vpids xs))
  owed-first x xs true is absent placed all = (
    record {
      owes = phase-first x xs ∙ owes-in x.phase is;
      queued = grind (arith, nat_tests);
      home = placed.home;
      noted = placed.noted;
      given = placed.given;
    },
    all-behind x xs (owing_vpids xs) absent all,
  )
  owed-first x xs false is absent placed all = all-behind x xs (owing_vpids xs) absent all

  pub all-owed : (xs : List Process) → IsTrue (is_distinct xs) → AllByRecursion (IsPlaced machines stops next) xs
      → AllByRecursion (IsOwed xs machines stops next) (owing_vpids xs)
  all-owed [] once placed = tt
  all-owed (x ∷ xs) once placed =
      let tests = once-apart (is_queued x.vpid xs) (is_distinct xs) once in
      owed-first x xs (is_owing x.phase) refl tests.0 placed.0 (all-owed xs tests.1 placed.1)

-- a process that may arrive
pub owed : (s : StateInCode) (p : ℕ) → IsGood s → IsTrue (is_distinct s.core.queue) → Contains (owing_vpids s.core.queue) p
    → IsOwed s.core.queue (machines_at_home s.container.places) s.stops s.container.shared.pids.next p
owed s p good once is =
    let machines = machines_at_home s.container.places in
    let next = s.container.shared.pids.next in
    All-contains (IsOwed s.core.queue machines s.stops next) (owing_vpids s.core.queue) p
    (All-from_recursion (IsOwed s.core.queue machines s.stops next) (owing_vpids s.core.queue)
    (all-owed machines s.stops next s.core.queue once good.placed)) is

-- what the code has after the arrival
pub record HasArrived (s : StateInCode) (p : ℕ) (m : Machine) (seg : Seg) (new : StateInCode) : Type 0 where
  pub container : new.container ≡ record s.container { places = insert s.container.places p (Some m) }
  pub home : machines_at_home new.container.places ≡ insert (machines_at_home s.container.places) p m
  pub core : new.core ≡ core_after_arrival p seg.count s.core
  pub stops : new.stops ≡ insert s.stops p seg.stop

-- after a segment was run in its place
pub has_arrived : (s : StateInCode) (p : ℕ) (seg : Seg) (new : StateInCode)
    → (r : RunsAt s.container.places new.container.places p seg)
    → new.container ≡ record s.container { places = new.container.places } → new.core ≡ core_after_arrival p seg.count s.core
    → new.stops ≡ insert s.stops p seg.stop → HasArrived s p r.now seg new
has_arrived s p seg new r rest core stops = record {
  container = rest ∙ ap (λ places. record s.container { places = places }) r.becomes.rest;
  home = ap machines_at_home r.becomes.rest ∙ home-given s.container.places p r.now;
  core = core;
  stops = stops;
}

-- the machine that ran it was at home
pub was_there : (s : StateInCode) (p : ℕ) (seg : Seg) (after : Places) (r : RunsAt s.container.places after p seg)
    → get (machines_at_home s.container.places) p ≡ Some r.was
was_there s p seg after r = machine-there s.container.places p (Some r.was) r.becomes.home

-- where processes stand after the arrival
module _ (queue : List Process) (stops : Stops) (p : ℕ) (seg : Seg) where
  abbrev arrived_phases : ℕ → Phase Seg
  arrived_phases = phase_in (map (process_after_arrival p seg.count) queue) (insert stops p seg.stop)

  pub arrived-only : Only p (phase_in queue stops) arrived_phases
  arrived-only q apart =
      let phases = phase-arrived-other p seg.count q queue apart in
      let stopped = ap noted_stop (get-insert_other nat_cmp_total nat_cmp-IsAntisymmetric stops p seg.stop q apart) in
      λ i. with_stop (phases i) (stopped i)

  pub arrived-own : is_queued p queue ≡ true → arrived_phases p ≡ Ran seg
  arrived-own there =
      let phases = phase-arrived p seg.count queue there in
      let stopped = ap noted_stop (get-insert_same nat_cmp_total nat_cmp-IsAntisymmetric stops p seg.stop) in
      λ i. with_stop (phases i) (stopped i)

-- the segment that was run is that of the definitions
pub arrive-ran : (s : StateInCode) (w : World) (p : ℕ) (m now : Machine) (seg : Seg) (new : StateInCode)
    → get (machines_at_home s.container.places) p ≡ Some m
    → phase_at p s.core.queue ≡ Owes → is_queued p s.core.queue ≡ true
    → segment_of m ≡ record { count = seg.count; stop = seg.stop; machine = now } → HasArrived s p now seg new
    → state_of new w ≡ with_segment_of p (state_of s w)
unfolding with_segment_of with_segment prepared_of
arrive-ran s w p m now seg new home owes there run h =
    let machines = machines_at_home s.container.places in
    let before = phase_in s.core.queue s.stops in
    let after = arrived_phases s.core.queue s.stops p seg in
    let found : get (works_in machines before) p ≡ Some (record { machine = m; phase = Owes }) =
    get-works_in machines before p ∙ ap (option_map (work_in (before p))) home
    ∙ ap (λ phase. Some (record { machine = m; phase = with_stop phase (noted_stop (get s.stops p)) })) owes in
    let queue : new.core.queue ≡ map (process_after_arrival p seg.count) s.core.queue = ap (λ (core : CoreView). core.queue) h.core in
    let works : works_in (machines_at_home new.container.places) (phase_in new.core.queue new.stops)
    ≡ works_with_segment (works_in machines before) p (get (works_in machines before) p) =
    (λ i. works_in (h.home i) (phase_in (queue i) (h.stops i)))
    ∙ works_in-insert machines before after p now (arrived-only s.core.queue s.stops p seg)
    ∙ ap (λ phase. insert (works_in machines before) p (work_in phase now)) (arrived-own s.core.queue s.stops p seg there)
    ∙ ap (λ r. insert (works_in machines before) p (work_after_segment r)) (sym run)
    ∙ ap (works_with_segment (works_in machines before) p) (sym found) in
    let schedules : schedule_of new.core ≡ schedule_of s.core = ap schedule_of h.core
    ∙ ap (λ order. record (schedule_of s.core) { order = order }) (pids-arrived p seg.count s.core.queue) in
    λ i. record {
      shared = shared_of (h.container i).shared w;
      works = works i;
      schedule = schedules i;
      next =
          (h.container i).shared.pids.next;
    }

-- where a machine is at home it is once another came home
pub home-there : (machines : Machines) (p : ℕ) (m : Machine) (q : ℕ) → IsSome (get machines q)
    → IsSome (get (insert machines p m) q)
home-there machines p m q was = at_insert nat_cmp_total nat_cmp-IsAntisymmetric (λ found. IsSome found) machines p m q
    (λ _. refl) (λ _. was)

-- a stop that is noted is noted once another is
pub noted-there : (stops : Stops) (p : ℕ) (stop : Stop) (q : ℕ) → IsSome (get stops q) → IsSome (get (insert stops p stop) q)
noted-there stops p stop q was = at_insert nat_cmp_total nat_cmp-IsAntisymmetric (λ found. IsSome found) stops p stop q
    (λ _. refl) (λ _. was)

module _ (machines : Machines) (stops : Stops) (next p : ℕ) (m : Machine) (seg : Seg) where
  one-placed : (b : Bool) (x : Process) → IsPlaced machines stops next x
      → IsPlaced (insert machines p m) (insert stops p seg.stop) next (cond b (record x { phase = Ran seg.count }) x)
  one-placed true x placed = record {
    home = home-there machines p m x.vpid placed.home;
    noted = noted-there stops p seg.stop x.vpid placed.noted;
    given = placed.given;
  }
  one-placed false x placed = record {
    home = home-there machines p m x.vpid placed.home;
    noted = noted-there stops p seg.stop x.vpid placed.noted;
    given = placed.given;
  }

  all-placed : (ps : List Process) → AllByRecursion (IsPlaced machines stops next) ps
      → AllByRecursion (IsPlaced (insert machines p m) (insert stops p seg.stop) next) (map (process_after_arrival p seg.count) ps)
  all-placed [] placed = tt
  all-placed (x ∷ xs) placed = (one-placed (x.vpid == p) x placed.0, all-placed xs placed.1)

-- all is good then
pub arrive-good : (s : StateInCode) (p : ℕ) (m : Machine) (seg : Seg) (new : StateInCode) → IsGood s
    → p < s.container.shared.pids.next → HasArrived s p m seg new → IsGood new
arrive-good s p m seg new good given h =
    let machines = machines_at_home s.container.places in
    let old = s.container.shared.pids.next in
    let next : new.container.shared.pids.next ≡ old = ap (λ (c : ContainerView). c.shared.pids.next) h.container in
    let queue : new.core.queue ≡ map (process_after_arrival p seg.count) s.core.queue = ap (λ (core : CoreView). core.queue) h.core in
    let placed = all-placed machines s.stops old p m seg s.core.queue good.placed in
    record {
      placed = subst (λ ps. AllByRecursion
          (IsPlaced (machines_at_home new.container.places) new.stops new.container.shared.pids.next) ps) (sym queue)
          (subst (λ stops. AllByRecursion
          (IsPlaced (machines_at_home new.container.places) stops new.container.shared.pids.next)
          (map (process_after_arrival p seg.count) s.core.queue)) (sym h.stops)
          (subst (λ machines. AllByRecursion (IsPlaced machines (insert s.stops p seg.stop) new.container.shared.pids.next)
          (map (process_after_arrival p seg.count) s.core.queue)) (sym h.home)
          (subst (λ n. AllByRecursion (IsPlaced (insert machines p m) (insert s.stops p seg.stop) n)
          (map (process_after_arrival p seg.count) s.core.queue)) (sym next) placed)));
    }

-- a place that is filled is one of those that were there
pub place-was : (places : FinMap nat_cmp (Option Machine)) (p : ℕ) (place : Option Machine) (q : ℕ) → IsSome (get places p)
    → IsSome (get (insert places p place) q) → IsSome (get places q)
place-was places p place q there =
    at_insert nat_cmp_total nat_cmp-IsAntisymmetric (λ found. IsSome found → IsSome (get places q)) places p place q
    (λ e _. subst (λ n. IsSome (get places n)) (sym e) there) (λ _ h. h)

pub keys-same : (places : FinMap nat_cmp (Option Machine)) (p : ℕ) (place : Option Machine) → IsSome (get places p)
    → length (keys (insert places p place)) ≡ length (keys places)
keys-same places p place there =
    let sum = total-insert nat_cmp_total (λ (x : Option Machine). 1) places p place in
    let one = weight-some (get places p) there in
    let before = keys-total places in
    let now = keys-total (insert places p place) in
    omega arith

-- what is shared stays sound
pub arrive-sound : (s : StateInCode) (w : World) (p : ℕ) (m : Machine) (seg : Seg) (new : StateInCode)
    → IsSome (get (machines_at_home s.container.places) p) → HasArrived s p m seg new → IsSoundContainer s.container w
    → IsSoundContainer new.container w
arrive-sound s w p m seg new home h sound =
    let there = home-place s.container.places p home in
    subst (λ v. IsSoundContainer v w) (sym h.container) (record {
      shared = sound.shared;
      paired = λ q some. sound.paired q (place-was s.container.places p (Some m) q there some);
      few = subst (λ n. n ≤ PROCESS_LIMIT) (sym (keys-same s.container.places p (Some m) there)) sound.few;
    })

-- one process fewer owes
one-more : (b : Bool) (x : ℕ) (xs : List ℕ) (n : ℕ) → length xs ≤ n → length (cond b (x ∷ xs) xs) ≤ n + 1
one-more true x xs n h = omega arith
one-more false x xs n h = omega arith

no-more : (p : ℕ) (xs : List ℕ) → length (filter (λ other. not (other == p)) xs) ≤ length xs
no-more p [] = omega arith
no-more p (x ∷ xs) = let some = one-more (not (x == p)) x (filter (λ other. not (other == p)) xs) (length xs)
    (no-more p xs) in omega arith

one-less : (b : Bool) (x : ℕ) (xs : List ℕ) (n : ℕ) → b ≡ false → length xs ≤ n → length (cond b (x ∷ xs) xs) ≤ n
one-less true x xs n is h = cc
one-less false x xs n is h = h

fewer : (p k : ℕ) (xs : List ℕ) → k < length xs → slice_index_or xs k p ≡ p
    → length (filter (λ other. not (other == p)) xs) < length xs
fewer p k [] within is = absurd (omega arith)
fewer p zero (x ∷ xs) within is =
    let some = one-less (not (x == p)) x (filter (λ other. not (other == p)) xs) (length xs) (grind (arith, nat_tests))
    (no-more p xs) in omega arith
fewer p (suc k) (x ∷ xs) within is =
    let rest = fewer p k xs (omega arith) is in
    let some = one-more (not (x == p)) x (filter (λ other. not (other == p)) xs)
    (length (filter (λ other. not (other == p)) xs)) (omega arith) in omega arith

pub arrive-smaller : (core new : CoreView) (p cost : ℕ) → Contains (owing_vpids core.queue) p → new ≡ core_after_arrival p cost core
    → steps_left new < steps_left core
arrive-smaller core new p cost held is =
    let less = fewer p held.0 (owing_vpids core.queue) held.1 held.2 in
    let owing_now : owing_vpids new.queue
    ≡ filter (λ other. not (other == p)) (owing_vpids core.queue) = ap (λ (core : CoreView). owing_vpids core.queue) is
    ∙ owing-arrived p cost core.queue in
    let count = ap (λ (xs : List ℕ). length xs) owing_now in
    let left : new.left ≡ core.left = ap (λ (core : CoreView). core.left) is in
    omega arith
