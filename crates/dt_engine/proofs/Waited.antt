-- What follows where all processes wait after a turn.
use Rattle.std.proofs.Common.{◌≡◌, ◌≢◌, ℕ, ◌<◌, ◌==◌, Bool, true, false, cond, List, [], ◌∷◌, length, Option, Some, None, refl, sym, ap, subst, ◌∙◌, arith}
use Rattle.std.specs.Prelude.{IsTrue}
use Rattle.std.specs.List.{AllByRecursion}
use Rattle.std.proofs.lemmas.Bool.Decides.{nat_tests}
use Rattle.std.proofs.lemmas.List.{length-map}
use Rattle.dt_base.specs.declared.event.Event.{Event}
use Rattle.dt_base.specs.declared.event.Verdict.{Verdict}
use Rattle.dt_base.specs.declared.event.Verdict.TheVariants as verdict
use Rattle.dt_host.specs.World.{World}
use Rattle.dt_rv64.specs.declared.machine.Machine.{Machine}
use Rattle.dt_sched.specs.declared.process.Process.{Process}
use Rattle.dt_sched.specs.declared.settled.Head.{Head}
use Rattle.dt_sched.specs.declared.settled.Head.TheVariants.{NotArrived, Ready, AllWait, Over}
use Rattle.dt_sched.specs.Core as sched
use Rattle.dt_sched.specs.Core.{CoreView, IsCore, head, head_unless_over, queue_head, is_owing, core_after_wake, core_after_deadlock, core_after_arrival, process_after_arrival}
use Rattle.dt_sched.specs.Order.{Schedule, is_all_waiting, schedule_after_wake}
use Rattle.dt_calls.specs.Container.{Shared}
use Rattle.dt_calls.specs.InCode.{shared_of, container_of, machines_at_home}
use Rattle.dt_calls.specs.Settle.{shared_after_waiting, container_after_jump}
use Rattle.dt_calls.specs.Timers.{earliest_of, earliest_in, shared_after_jump}
use Rattle.dt_engine.specs.declared.state.State.{State as StateInCode}
use Rattle.dt_engine.specs.Work.{Work}
use Rattle.dt_engine.specs.Turn.{State, Turn, Act, act_by_earliest, act_unless_over, act_after_waiting, works_after_act, turn_of_act}
use Rattle.dt_engine.specs.InPlay.{IsKeptProcess, IsKept, IsAwake}
use Rattle.dt_engine.specs.inner.InCode.{Stops, schedule_of, state_of, works_in, phase_in, turn_as, turn_by_earliest, turn_unless_over, turn_after_waiting}
use Rattle.dt_engine.specs.inner.Good.{IsPlaced, IsGood}

-- what follows on an act follows on its turn
module _ (s : State) (p : ℕ) (c : Shared) (q : Schedule) (own : Option Work) (child : Option Machine) (events : List Event) where
  abbrev acted : Option Verdict → Act
  acted v = record { shared = c; schedule = q; own = own; child = child; events = events; verdict = v }

  waits-by-due : (due : Option ℕ) → turn_of_act s p (act_by_earliest (acted None) due) ≡ turn_by_earliest (turn_of_act s p (acted None)) due
  unfolding works_after_act
  waits-by-due None = refl
  waits-by-due (Some due) = refl

  waits-by-all : (all : Bool) → turn_of_act s p (cond all (act_by_earliest (acted None) (earliest_of c)) (acted None))
      ≡ cond all (turn_by_earliest (turn_of_act s p (acted None)) (earliest_of c)) (turn_of_act s p (acted None))
  waits-by-all true = waits-by-due (earliest_of c)
  waits-by-all false = refl

  waits-by : (v : Option Verdict) → turn_of_act s p (act_unless_over (acted v) v) ≡ turn_unless_over (turn_of_act s p (acted v)) v
  waits-by None = waits-by-all (is_all_waiting q)
  waits-by (Some v) = refl

pub turn-waits : (s : State) (p : ℕ) (a : Act) → turn_of_act s p (act_after_waiting a) ≡ turn_after_waiting (turn_of_act s p a)
unfolding act_after_waiting turn_after_waiting
turn-waits s p a = waits-by s p a.shared a.schedule a.own a.child a.events a.verdict

-- where all wait
all-tests : (b : Bool) (h : Head) → h ≢ AllWait → (let waits : Head = cond b AllWait h in waits) ≡ AllWait → b ≡ true
all-tests true h other is = refl
all-tests false h other is = absurd (other is)

queue-not : (left : ℕ) (queue : List Process) → queue_head left queue ≢ AllWait
queue-not left [] = λ is. cc
queue-not left (x ∷ xs) = by (is_owing x.phase) _
  where
    by : (a b : Bool) → (let h : Head = cond a (NotArrived x.vpid) (cond b (Ready x.vpid) (Over verdict.Budget)) in h) ≢ AllWait
    by true b = λ is. cc
    by false true = λ is. cc
    by false false = λ is. cc

waits-by-verdict : (v : Option Verdict) (blocked left : ℕ) (queue : List Process) → head_unless_over v blocked left queue ≡ AllWait
    → (v ≡ None) × ((blocked == length queue) ≡ true)
waits-by-verdict None blocked left queue is = (refl, all-tests (blocked == length queue) (queue_head left queue) (queue-not left queue) is)
waits-by-verdict (Some v) blocked left queue is = cc

counts : (core : CoreView) → is_all_waiting (schedule_of core) ≡ (core.blocked == length core.queue)
unfolding is_all_waiting
counts core = ap (λ n. core.blocked == n) (length-map core.queue (λ (p : Process). p.vpid))

pub all-wait : (core : CoreView) → head core ≡ AllWait → (core.verdict ≡ None) × (is_all_waiting (schedule_of core) ≡ true)
all-wait core is =
    let tests = waits-by-verdict core.verdict core.blocked core.left core.queue is in (tests.0, counts core ∙ tests.1)

-- where not all do
not-by : (v : Option Verdict) (b : Bool) (blocked left : ℕ) (queue : List Process) → (blocked == length queue) ≡ b → v ≡ None
    → head_unless_over v blocked left queue ≢ AllWait → b ≡ false
not-by (Some v) b blocked left queue is running other = cc
not-by None true blocked left queue is running other = absurd (other (ap (λ b. cond b AllWait (queue_head left queue)) is))
not-by None false blocked left queue is running other = refl

pub some-wait : (core : CoreView) → head core ≢ AllWait → core.verdict ≡ None → (core.blocked == length core.queue) ≡ false
some-wait core other running = not-by core.verdict _ core.blocked core.left core.queue refl running other

pub nobody-waits : (core : CoreView) → IsAwake core → head core ≡ AllWait → ⊥
nobody-waits core awake is =
    let tests = waits-by-verdict core.verdict core.blocked core.left core.queue is in
    let less = awake tests.0 in
    let same = tests.1 in
    absurd (grind (arith, nat_tests, less, same))

-- a turn stays as it was where not all wait
pub turn-goes-on : (s : StateInCode) (w : World) (events : List Event) → head s.core ≢ AllWait
    → turn_after_waiting (turn_as (state_of s w) events s.core.verdict) ≡ turn_as (state_of s w) events s.core.verdict
unfolding turn_after_waiting
turn-goes-on s w events other = by_verdict s.core.verdict refl
  where
    by_verdict : (v : Option Verdict) → s.core.verdict ≡ v → turn_unless_over (turn_as (state_of s w) events s.core.verdict) v ≡ turn_as (state_of s w) events s.core.verdict
    by_verdict None is =
        ap (λ b. cond b (turn_by_earliest (turn_as (state_of s w) events s.core.verdict) (earliest_of (shared_of s.container.shared w))) (turn_as (state_of s w) events s.core.verdict))
        (counts s.core ∙ some-wait s.core other is)
    by_verdict (Some v) is = refl

pub awake-goes-on : (core : CoreView) → IsCore core → head core ≢ AllWait → IsAwake core
awake-goes-on core good other = λ running.
    let going = good.going running in
    let most = going.blocked in
    let apart = some-wait core other running in
    grind (arith, nat_tests, most, apart)

-- where all wait the turn is the same but for what follows
turn-by : (t : Turn) (due : Option ℕ) → t.verdict ≡ None → is_all_waiting t.next.schedule ≡ true → earliest_of t.next.shared ≡ due
    → turn_after_waiting t ≡ turn_by_earliest t due
unfolding turn_after_waiting
turn-by t due running all earliest =
    ap (turn_unless_over t) running
    ∙ ap (λ b. cond b (turn_by_earliest t (earliest_of t.next.shared)) t) all
    ∙ ap (turn_by_earliest t) earliest

pub turn-wakes : (s new : StateInCode) (w : World) (events : List Event) (due : ℕ) → head s.core ≡ AllWait → earliest_in s.container.shared ≡ Some due
    → container_of new.container w ≡ container_after_jump (container_of s.container w) → new.core ≡ core_after_wake s.core → new.stops ≡ s.stops
    → turn_after_waiting (turn_as (state_of s w) events s.core.verdict) ≡ turn_as (state_of new w) events new.core.verdict
unfolding schedule_after_wake
turn-wakes s new w events due waits earliest jumped woken stops =
    let all = all-wait s.core waits in
    let jump : container_of new.container w ≡ record (container_of s.container w) { shared = shared_after_jump due (shared_of s.container.shared w) } =
    jumped ∙ ap (λ (d : Option ℕ). record (container_of s.container w) { shared = shared_after_waiting (shared_of s.container.shared w) d }) earliest in
    turn-by (turn_as (state_of s w) events s.core.verdict) (Some due) all.0 all.1 earliest
    ∙ (λ i. let container = sym jump i in
    let core = sym woken i in
    turn_as (record {
      shared = container.shared;
      works = works_in container.machines (phase_in core.queue (sym stops i));
      schedule = schedule_of core;
      next = container.next;
    }) events core.verdict)

pub turn-dies : (s : StateInCode) (w : World) (events : List Event) → head s.core ≡ AllWait → earliest_in s.container.shared ≡ None
    → (core : CoreView) → core ≡ core_after_deadlock s.core
    → turn_after_waiting (turn_as (state_of s w) events s.core.verdict) ≡ turn_as (state_of (record s { core = core }) w) events core.verdict
turn-dies s w events waits earliest core dead =
    let all = all-wait s.core waits in
    turn-by (turn_as (state_of s w) events s.core.verdict) None all.0 all.1 earliest
    ∙ ap (λ (core : CoreView). turn_as (state_of (record s { core = core }) w) events core.verdict) (sym dead)

-- some process is there
some-queued : (queue : List Process) → IsTrue (sched.is_queued 1 queue) → 0 < length queue
some-queued [] is = cc
some-queued (x ∷ xs) is = omega arith

pub awake-woken : (core new : CoreView) → IsCore core → head core ≡ AllWait → new ≡ core_after_wake core → IsAwake new
awake-woken core new good waits woken = λ _.
    let all = all-wait core waits in
    let going = good.going all.0 in
    subst (λ (x : CoreView). x.blocked < length x.queue) (sym woken) (some-queued core.queue going.first)

pub awake-dead : (core new : CoreView) → new ≡ core_after_deadlock core → IsAwake new
awake-dead core new dead = λ running. let no : Some verdict.Deadlock ≡ None = sym (ap (λ (x : CoreView). x.verdict) dead) ∙ running in cc

-- what holds of the processes holds still where their places, stops and pids stay
pub same-kept : (s new : StateInCode) → new.container.places ≡ s.container.places → new.container.shared.pids.next ≡ s.container.shared.pids.next
    → new.core.queue ≡ s.core.queue → new.stops ≡ s.stops → IsKept s → IsKept new
same-kept s new places next queue stops kept = record {
  kept = subst (λ xs. AllByRecursion (IsKeptProcess new.container.places new.stops new.container.shared.pids.next) xs) (sym queue)
      (subst (λ ps. AllByRecursion (IsKeptProcess ps new.stops new.container.shared.pids.next) s.core.queue) (sym places)
      (subst (λ (x : Stops). AllByRecursion (IsKeptProcess s.container.places x new.container.shared.pids.next) s.core.queue) (sym stops)
      (subst (λ n. AllByRecursion (IsKeptProcess s.container.places s.stops n) s.core.queue) (sym next) kept.kept)));
}

pub same-good : (s new : StateInCode) → new.container.places ≡ s.container.places → new.container.shared.pids.next ≡ s.container.shared.pids.next
    → new.core.queue ≡ s.core.queue → new.stops ≡ s.stops → IsGood s → IsGood new
same-good s new places next queue stops good = record {
  placed = subst (λ xs. AllByRecursion (IsPlaced (machines_at_home new.container.places) new.stops new.container.shared.pids.next) xs) (sym queue)
      (subst (λ ps. AllByRecursion (IsPlaced (machines_at_home ps) new.stops new.container.shared.pids.next) s.core.queue) (sym places)
      (subst (λ (x : Stops). AllByRecursion (IsPlaced (machines_at_home s.container.places) x new.container.shared.pids.next) s.core.queue) (sym stops)
      (subst (λ n. AllByRecursion (IsPlaced (machines_at_home s.container.places) s.stops n) s.core.queue) (sym next) good.placed)));
}

-- an arrival lets nobody wait
pub awake-arrived : (core new : CoreView) (p cost : ℕ) → new ≡ core_after_arrival p cost core → IsAwake core → IsAwake new
awake-arrived core new p cost is awake = λ running.
    let was = awake (ap (λ (x : CoreView). x.verdict) (sym is) ∙ running) in
    subst (λ (x : CoreView). x.blocked < length x.queue) (sym is)
    (subst (λ n. core.blocked < n) (sym (length-map core.queue (process_after_arrival p cost))) was)
