-- What a turn comes to once the head's stop was served.
use Rattle.std.proofs.Common.{◌≡◌, ℕ, ◌+◌, ◌-◌, ◌*◌, ◌<◌, ◌≤◌, ◌==◌, ◌&&◌, Bool, true, false, cond, List, [], ◌∷◌, ◌++◌, length, Option, Some, None, refl, sym, ap, subst, ◌∙◌, arith, nat_le, length-append}
use Rattle.std.specs.Prelude.{IsSome, IsTrue, option_map}
use Rattle.std.proofs.lemmas.Bool.Decides.{nat_tests}
use Rattle.std.specs.List.{AllByRecursion}
use Rattle.std.specs.Cmp.{nat_cmp_total}
use Rattle.std.specs.FinMap.{empty, get, nat_cmp-IsAntisymmetric}
use Rattle.dt_tables.proofs.Maps.{put_back}
use Rattle.dt_base.specs.declared.event.Event.{Event}
use Rattle.dt_base.specs.declared.event.Verdict.TheVariants as verdict
use Rattle.dt_host.specs.World.{World}
use Rattle.dt_rv64.specs.declared.machine.Machine.{Machine}
use Rattle.dt_rv64.specs.declared.segments.Stop.{Stop}
use Rattle.dt_sched.specs.declared.process.Process.{Process}
use Rattle.dt_sched.specs.declared.settled.Head.TheVariants.{Ready}
use Rattle.dt_sched.specs.declared.settled.Settled.{Settled as Told}
use Rattle.dt_sched.specs.declared.settled.Settled.TheVariants as as_told
use Rattle.dt_sched.specs.declared.settled.Settled.TheVariants.{Again, Moved, Gone, Stopped}
use Rattle.dt_sched.specs.Core as sched
use Rattle.dt_sched.specs.Core.{CoreView, IsCore, head, owing_vpids, is_owing, is_waiting, is_vpid_waiting, is_queued, has_segment_count, have_segment_counts}
use Rattle.dt_sched.proofs.Tables.{length-owing}
use Rattle.dt_calls.specs.declared.container.Served.{Served}
use Rattle.dt_calls.specs.declared.container.Served.TheVariants.{Done, Child, LastChild, Blocked, Progress, Ended, Unsupported}
use Rattle.dt_calls.specs.Container.{Container}
use Rattle.dt_calls.specs.InCode.{ContainerView, shared_of, container_of, machines_at_home, container_turn_as}
use Rattle.dt_calls.specs.AtHome.{KeepPlaces}
use Rattle.dt_calls.specs.Settle as calls
use Rattle.dt_calls.specs.Settle.{ProcessTurn, ContainerTurn, with_process_turn, turn_of_container, turn_of_machine, machines_after_turn, next_after}
use Rattle.dt_calls.specs.Sound.{IsSoundContainer}
use Rattle.dt_sched.specs.declared.process.Phase.{Phase}
use Rattle.dt_sched.specs.declared.process.Phase.TheVariants.{Owes, Ran, Waits}
use Rattle.dt_sched.specs.Order.{verdict_after, schedule_after_turn, verdict_of_turn}
use Rattle.dt_engine.specs.declared.state.State.{State as StateInCode}
use Rattle.dt_engine.specs.Work.{Work, Prepared, prepared_of}
use Rattle.dt_engine.specs.Turn.{State, Turn, settled_of, act, turn_of_act, paid_act, unpaid_act, act_of_turn, works_after_act, is_ended_verdict, turn_of_work, turn_of_head, head_pid, turn}
use Rattle.dt_engine.specs.inner.InCode.{work_in, works_in, phase_in, with_stop, noted_stop, due_stop, schedule_of, state_of, turn_as, turn_after_waiting, stops_after}
use Rattle.dt_engine.specs.inner.Good.{IsPlaced, IsPlacedIn, IsGood, steps_left}
use Rattle.dt_engine.specs.InPlay.{IsKeptProcess, IsKeptIn, IsKept}
use Rattle.dt_engine.proofs.Works.{get-works_in}
use Rattle.dt_calls.proofs.Fits.{Fits, served-fits}
use Rattle.dt_engine.proofs.Noted.{the_work, works_with, works-after}
use Rattle.dt_engine.proofs.Standings.{phase-first}
use Rattle.dt_engine.proofs.Queued.{pids, IsHead, IsSpent, ready-head, schedule-settled, verdict-settled}
use Rattle.dt_engine.proofs.Placed.{once-apart, queue-placed}
use Rattle.dt_engine.proofs.Waited.{turn-waits}
use Rattle.dt_engine.proofs.Kept.{unqueued, queue-kept, finds-room}

-- a turn of a head by what it brings, and which the budget pays for
turn-ready : (s : State) (p : ℕ) (rest : List ℕ) (w : Work) (d : Prepared) → s.schedule.order ≡ p ∷ rest → get s.works p ≡ Some w
    → prepared_of w ≡ d → nat_le d.cost s.schedule.left ≡ true
    → turn s ≡ turn_of_act s p (paid_act s.shared (record s.schedule { left = s.schedule.left - d.cost }) s.next p d)
unfolding turn act
turn-ready s p rest w d order found due pays =
    ap (λ ps. turn_of_head s (head_pid ps)) order
    ∙ ap (turn_of_work s p) found
    ∙ ap (λ d. turn_of_act s p (act s.shared s.schedule s.next p d)) due
    ∙ ap (λ b. turn_of_act s p (cond b (paid_act s.shared (record s.schedule { left = s.schedule.left - d.cost }) s.next p d)
    (unpaid_act s.shared s.schedule d.work))) pays

-- and of one for which it doesn't pay
pub turn-spent : (s : State) (p : ℕ) (rest : List ℕ) (w : Work) (d : Prepared) → s.schedule.order ≡ p ∷ rest → get s.works p ≡ Some w
    → prepared_of w ≡ d → nat_le d.cost s.schedule.left ≡ false
    → turn s ≡ turn_of_act s p (unpaid_act s.shared s.schedule d.work)
unfolding turn act
turn-spent s p rest w d order found due spent =
    ap (λ ps. turn_of_head s (head_pid ps)) order
    ∙ ap (turn_of_work s p) found
    ∙ ap (λ d. turn_of_act s p (act s.shared s.schedule s.next p d)) due
    ∙ ap (λ b. turn_of_act s p (cond b (paid_act s.shared (record s.schedule { left = s.schedule.left - d.cost }) s.next p d)
    (unpaid_act s.shared s.schedule d.work))) spent

-- what a process that doesn't owe is prepared with
abbrev ready : Machine → Phase ℕ → Stop → Prepared
ready m phase stop = record {
  work = record { machine = m; phase = with_stop phase stop };
  stop = due_stop (is_waiting phase) stop;
  cost = sched.cost_of phase;
}

prepared-ready : (m : Machine) (phase : Phase ℕ) (stop : Stop) → is_owing phase ≡ false → IsTrue (has_segment_count phase)
    → prepared_of (record { machine = m; phase = with_stop phase stop }) ≡ ready m phase stop
unfolding prepared_of
prepared-ready m Owes stop arrived counted = cc
prepared-ready m (Ran count) stop arrived counted =
    ap (λ n. record { work = record { machine = m; phase = with_stop (Ran count) stop }; stop = stop; cost = n })
    (grind (arith, nat_tests))
prepared-ready m Waits stop arrived counted = refl

-- whether the head of a queue waits
waits-alone : (p : ℕ) (xs : List Process) → is_queued p xs ≡ false → is_vpid_waiting p xs ≡ false
waits-alone p [] absent = refl
waits-alone p (x ∷ xs) absent = grind (arith, nat_tests, waits-alone p xs)

waits-head : (x : Process) (xs : List Process) → is_queued x.vpid xs ≡ false → is_vpid_waiting x.vpid (x ∷ xs) ≡ is_waiting x.phase
waits-head x xs absent = grind (arith, nat_tests, waits-alone x.vpid xs absent)

-- where the head of the queue stands
pub head-phase : (s : StateInCode) (x : Process) (rest : List Process) → s.core.queue ≡ x ∷ rest
    → phase_in s.core.queue s.stops x.vpid ≡ with_stop x.phase (noted_stop (get s.stops x.vpid))
head-phase s x rest is =
    ap (λ queue. phase_in queue s.stops x.vpid) is
    ∙ ap (λ phase. with_stop phase (noted_stop (get s.stops x.vpid))) (phase-first x rest)

-- its work
head-work : (s : StateInCode) (x : Process) (rest : List Process) (m : Machine) → s.core.queue ≡ x ∷ rest
    → get (machines_at_home s.container.places) x.vpid ≡ Some m
    → get (works_in (machines_at_home s.container.places) (phase_in s.core.queue s.stops)) x.vpid ≡ Some (the_work s.stops x m)
head-work s x rest m is home =
    get-works_in (machines_at_home s.container.places) (phase_in s.core.queue s.stops) x.vpid
    ∙ ap (option_map (work_in (phase_in s.core.queue s.stops x.vpid))) home
    ∙ ap (λ phase. Some (work_in phase m)) (head-phase s x rest is)

-- all have ended where the container is empty
first-ended : (b : Bool) → is_ended_verdict (cond b (Some verdict.Ended) None) ≡ b
first-ended true = refl
first-ended false = refl

ended-alike : (p : ℕ) (served : Served) → is_ended_verdict (verdict_after p (settled_of served)) ≡ calls.is_end_of_all p served
ended-alike p Done = refl
ended-alike p (Child vpid) = refl
ended-alike p (LastChild vpid) = first-ended (p == 1)
ended-alike p Blocked = refl
ended-alike p Progress = refl
ended-alike p Ended = first-ended (p == 1)
ended-alike p (Unsupported number) = refl

-- a process's machine is at home
pub the-machine : (found : Option Machine) → IsSome found → (m : Machine) × (found ≡ Some m)
the-machine None some = cc
the-machine (Some m) some = (m, refl)

serve-home : (c : Container) (p : ℕ) (stop : Stop) (m : Machine) (t : ContainerTurn) → get c.machines p ≡ Some m
    → turn_of_container c p stop ≡ Some t → with_process_turn c p (turn_of_machine c.shared c.next p stop m) ≡ t
unfolding turn_of_container
serve-home c p stop m t home is =
    let one : Some (with_process_turn c p (turn_of_machine c.shared c.next p stop m))
    ≡ Some t = ap (option_map (λ m. with_process_turn c p (turn_of_machine c.shared c.next p stop m))) (sym home) ∙ is in cc

-- the counts of a queue that is sound
first-counted : (a b : Bool) → IsTrue (a && b) → IsTrue a
first-counted true b all = refl
first-counted false b all = cc

-- what became of a process whose stop, or whose waiting call, was served
abbrev the_settled : StateInCode → World → Process → Machine → ProcessTurn
the_settled s w x m = turn_of_machine (shared_of s.container.shared w) s.container.shared.pids.next x.vpid
    (due_stop (is_waiting x.phase) (noted_stop (get s.stops x.vpid))) m

-- how the head stands, and the turn of the container that was taken
pub record Came (s : StateInCode) (w : World) (p : ℕ) (to : ContainerView) (now : World) (served : Served) : Type 0 where
  pub head : IsHead s.core p
  pub machine : Machine
  pub home : get (machines_at_home s.container.places) head.first.vpid ≡ Some machine
  pub given : head.first.vpid < s.container.shared.pids.next
  pub kept : IsKept s
  pub once : IsTrue (sched.is_distinct s.core.queue)
  pub apart : is_queued head.first.vpid head.rest ≡ false
  pub counted : IsTrue (has_segment_count head.first.phase)
  pub is : with_process_turn (container_of s.container w) head.first.vpid (the_settled s w head.first machine)
      ≡ container_turn_as (container_of to now) served

-- what holds of each process of the queue holds of its head
pub head-kept : (s : StateInCode) (p : ℕ) (h : IsHead s.core p) → IsKept s → AllByRecursion (IsKeptIn s) (h.first ∷ h.rest)
head-kept s p h kept = subst (AllByRecursion (IsKeptIn s)) h.queue kept.kept

pub head-placed : (s : StateInCode) (p : ℕ) (h : IsHead s.core p) → IsGood s
    → AllByRecursion (IsPlacedIn s) (h.first ∷ h.rest)
head-placed s p h good = subst (AllByRecursion (IsPlacedIn s)) h.queue good.placed

pub came : (s : StateInCode) (w : World) (p : ℕ) (to : ContainerView) (now : World) (served : Served)
    → IsKept s → IsCore s.core → head s.core ≡ Ready p
    → turn_of_container (container_of s.container w) p (due_stop (is_vpid_waiting p s.core.queue) (noted_stop (get s.stops p)))
    ≡ Some (container_turn_as (container_of to now) served)
    → Came s w p to now served
came s w p to now served kept sound ready is =
    let h = ready-head s.core p ready in
    let head = head-kept s p h kept in
    let found = the-machine (get (machines_at_home s.container.places) h.first.vpid) (head.0.home h.arrived) in
    let tests = once-apart (is_queued h.first.vpid h.rest) (sched.is_distinct h.rest)
    (subst (λ l. IsTrue (sched.is_distinct l)) h.queue sound.each_once) in
    let waiting : is_vpid_waiting h.first.vpid s.core.queue ≡ is_waiting h.first.phase =
    ap (is_vpid_waiting h.first.vpid) h.queue ∙ waits-head h.first h.rest tests.0 in
    let one = subst (λ n. turn_of_container (container_of s.container w) n
    (due_stop (is_vpid_waiting n s.core.queue) (noted_stop (get s.stops n)))
    ≡ Some (container_turn_as (container_of to now) served)) (sym h.vpid) is in
    let two = subst (λ waits. turn_of_container (container_of s.container w) h.first.vpid
    (due_stop waits (noted_stop (get s.stops h.first.vpid)))
    ≡ Some (container_turn_as (container_of to now) served)) waiting one in
    record {
      head = h;
      machine = found.0;
      home = found.1;
      given = head.0.given;
      kept = kept;
      once = sound.each_once;
      apart = tests.0;
      counted = first-counted _ _ (subst (λ l. IsTrue (have_segment_counts l)) h.queue sound.counted);
      is = serve-home (container_of s.container w) h.first.vpid
          (due_stop (is_waiting h.first.phase) (noted_stop (get s.stops h.first.vpid))) found.0
          (container_turn_as (container_of to now) served) found.1 two;
    }

-- the state in code after a turn
abbrev pub turned_state : StateInCode → ContainerView → ℕ → Served → StateInCode
turned_state s to n served = record {
  container = record to { events = [] };
  core = sched.core_after_turn s.core (settled_of served);
  stops = stops_after s.stops n served;
}

-- a turn of the code as the definitions see it, by what the turn of the container came to
abbrev seen : StateInCode → ℕ → ContainerTurn → Turn
seen s n t = let core = sched.core_after_turn s.core (settled_of t.served) in turn_as (record {
  shared = t.container.shared;
  works = works_in t.container.machines (phase_in core.queue (stops_after s.stops n t.served));
  schedule = schedule_of core;
  next = t.container.next;
}) t.container.events core.verdict

-- the works after a turn, whether all have ended or not
works-seen : (s : StateInCode) (x : Process) (rest : List Process) (m : Machine) (r : ProcessTurn) → s.core.queue ≡ x ∷ rest
    → Fits s.container.shared.pids.next r → is_queued x.vpid rest ≡ false → is_queued s.container.shared.pids.next rest ≡ false
    → x.vpid < s.container.shared.pids.next
    → let machines = machines_at_home s.container.places in
    let next = s.container.shared.pids.next in
    let core = sched.core_after_turn s.core (settled_of r.served) in
    cond (calls.is_end_of_all x.vpid r.served) empty
    (works_with (works_in machines (phase_in s.core.queue s.stops)) next x.vpid (the_work s.stops x m) r)
    ≡ works_in (machines_after_turn machines next x.vpid r) (phase_in core.queue (stops_after s.stops x.vpid r.served))
works-seen s x rest m r is fits apart new given =
    let machines = machines_at_home s.container.places in
    let next = s.container.shared.pids.next in
    ap (λ queue. cond (calls.is_end_of_all x.vpid r.served) empty
    (works_with (works_in machines (phase_in queue s.stops)) next x.vpid (the_work s.stops x m) r)) is
    ∙ works-after machines s.stops next x rest (the_work s.stops x m) r fits apart new (λ e. omega arith) refl
    ∙ ap (λ queue. let core = sched.core_after_turn_of s.core queue (settled_of r.served) in
    works_in (machines_after_turn machines next x.vpid r) (phase_in core.queue (stops_after s.stops x.vpid r.served))) (sym is)

-- what becomes of the head, as the code has it
acted-seen : (s : StateInCode) (w : World) (x : Process) (rest : List Process) (m : Machine) (r : ProcessTurn)
    → s.core.queue ≡ x ∷ rest → Fits s.container.shared.pids.next r → is_queued x.vpid rest ≡ false
    → is_queued s.container.shared.pids.next rest ≡ false → x.vpid < s.container.shared.pids.next
    → turn_of_act (state_of s w) x.vpid
    (act_of_turn (record (schedule_of s.core) { left = s.core.left - sched.cost_of x.phase }) x.vpid (the_work s.stops x m) r)
    ≡ seen s x.vpid (with_process_turn (container_of s.container w) x.vpid r)
unfolding act_of_turn works_after_act verdict_of_turn
acted-seen s w x rest m r is fits apart new given =
    let machines = machines_at_home s.container.places in
    let next = s.container.shared.pids.next in
    let t = settled_of r.served in
    let to = schedule_after_turn (record (schedule_of s.core) { left = s.core.left - sched.cost_of x.phase }) x.vpid t in
    let core = sched.core_after_turn s.core t in
    let schedules : to ≡ schedule_of core = schedule-settled s.core x rest t is in
    let verdicts : verdict_of_turn x.vpid t ≡ core.verdict = verdict-settled s.core x rest t is in
    let works = ap (λ b. cond b empty
    (works_with (works_in machines (phase_in s.core.queue s.stops)) next x.vpid (the_work s.stops x m) r))
    (ended-alike x.vpid r.served)
    ∙ works-seen s x rest m r is fits apart new given in
    λ i. record {
      next = record { shared = r.shared; works = works i; schedule = schedules i; next = next_after next r.child };
      events = r.events;
      verdict = verdicts i;
    }

module _ (s : StateInCode) (w : World) (p : ℕ) (to : ContainerView) (now : World) (served : Served)
    (c : Came s w p to now served) where
  no-next : is_queued s.container.shared.pids.next c.head.rest ≡ false
  no-next =
      let head = head-kept s p c.head c.kept in
      unqueued s.container.places s.stops s.container.shared.pids.next c.head.rest head.1

  -- the turn is the one that is defined, but for what follows where all wait then
  pub turn-came : let new = turned_state s to c.head.first.vpid served in turn (state_of s w)
      ≡ turn_after_waiting (turn_as (state_of new now) to.events new.core.verdict)
  unfolding paid_act
  turn-came =
      let x = c.head.first in
      turn-ready (state_of s w) x.vpid (pids c.head.rest) (the_work s.stops x c.machine)
      (ready c.machine x.phase (noted_stop (get s.stops x.vpid))) (ap pids c.head.queue)
      (head-work s x c.head.rest c.machine c.head.queue c.home)
      (prepared-ready c.machine x.phase (noted_stop (get s.stops x.vpid)) c.head.arrived c.counted) c.head.pays
      ∙ turn-waits (state_of s w) x.vpid
      (act_of_turn (record (schedule_of s.core) { left = s.core.left - sched.cost_of x.phase }) x.vpid (the_work s.stops x c.machine) (the_settled s w x c.machine))
      ∙ ap turn_after_waiting (acted-seen s w x c.head.rest c.machine (the_settled s w x c.machine) c.head.queue
      (served-fits _ _ x.vpid _ c.machine) c.apart no-next c.given
      ∙ ap (seen s x.vpid) c.is)

  abbrev was : ProcessTurn
  was = the_settled s w c.head.first c.machine

  fits : Fits s.container.shared.pids.next was
  fits = served-fits _ _ c.head.first.vpid _ c.machine

  homes : machines_after_turn (machines_at_home s.container.places) s.container.shared.pids.next c.head.first.vpid was
      ≡ machines_at_home to.places
  homes = ap (λ (t : ContainerTurn). t.container.machines) c.is

  -- where all machines were at home they are then
  pub good-came : IsGood s → IsGood (turned_state s to c.head.first.vpid served)
  good-came good =
      let n = c.head.first.vpid in
      let placed = queue-placed (machines_at_home s.container.places) s.stops s.container.shared.pids.next c.head.first c.head.rest
      was.served was.own was.child
      (calls.is_end_of_all n was.served) refl fits.own fits.child c.apart (head-placed s p c.head good) in
      record {
        placed = subst (λ l. let core = sched.core_after_turn_of s.core l (settled_of served) in AllByRecursion
            (IsPlaced (machines_at_home to.places) (stops_after s.stops n served) to.shared.pids.next) core.queue) (sym c.head.queue)
            (subst (λ (t : ContainerTurn). AllByRecursion
            (IsPlaced t.container.machines (stops_after s.stops n t.served) t.container.next)
            (sched.processes_after_turn c.head.first c.head.rest (settled_of t.served))) c.is placed);
      }

  module _ (keeps : KeepPlaces c.head.first.vpid served s.container.places to.places) where
    keeps-was : KeepPlaces c.head.first.vpid was.served s.container.places to.places
    keeps-was = subst (λ served. KeepPlaces c.head.first.vpid served s.container.places to.places)
        (sym (ap (λ (t : ContainerTurn). t.served) c.is)) keeps

    -- what holds of each process of the queue holds then
    pub kept-came : IsKept (turned_state s to c.head.first.vpid served)
    kept-came =
        let n = c.head.first.vpid in
        let kept = queue-kept s.container.places to.places s.stops s.container.shared.pids.next c.head.first c.head.rest
        was.served was.own was.child (calls.is_end_of_all n was.served) refl fits.own fits.child keeps-was (sym homes) c.apart
        (head-kept s p c.head c.kept) in
        record {
          kept = subst (λ l. let core = sched.core_after_turn_of s.core l (settled_of served) in AllByRecursion
              (IsKeptProcess to.places (stops_after s.stops n served) to.shared.pids.next) core.queue) (sym c.head.queue)
              (subst (λ (t : ContainerTurn). AllByRecursion
              (IsKeptProcess to.places (stops_after s.stops n t.served) t.container.next)
              (sched.processes_after_turn c.head.first c.head.rest (settled_of t.served))) c.is kept);
        }

    -- a child finds room
    pub room-came : IsSoundContainer to now → IsTrue (sched.has_room s.core.queue (settled_of served))
    room-came sound =
        let n = c.head.first.vpid in
        subst (λ (t : ContainerTurn). IsTrue (sched.has_room s.core.queue (settled_of t.served))) c.is
        (finds-room s.container.places to.places s.stops s.container.shared.pids.next n was.own was.child s.core.queue was.served
        c.once c.kept.kept fits.child keeps-was sound.few
        (λ on. sym homes ∙ ap (λ (b : Bool). cond b empty (calls.with_child_machine
        (calls.with_own (machines_at_home s.container.places) n was.own) s.container.shared.pids.next was.child)) on))

-- what the code has after a turn
pub record Has (s : StateInCode) (p : ℕ) (to : ContainerView) (served : Served) (new : StateInCode) : Type 0 where
  pub container : new.container ≡ record to { events = [] }
  pub told_so : Told
  pub told_is : told_so ≡ settled_of served
  pub core : new.core ≡ sched.core_after_turn s.core told_so
  pub stops : new.stops ≡ stops_after s.stops p served

same_state : (s : StateInCode) (p n : ℕ) (to : ContainerView) (served : Served) (new : StateInCode) → n ≡ p
    → Has s p to served new → new ≡ turned_state s to n served
same_state s p n to served new vpid h =
    let cores = h.core ∙ ap (sched.core_after_turn s.core) h.told_is in
    let stops = h.stops ∙ ap (λ n. stops_after s.stops n served) (sym vpid) in
    λ i. record { container = h.container i; core = cores i; stops = stops i }

module _ (s : StateInCode) (w : World) (p : ℕ) (to : ContainerView) (now : World) (served : Served)
    (c : Came s w p to now served) (new : StateInCode) (h : Has s p to served new) where
  same : new ≡ turned_state s to c.head.first.vpid served
  same = same_state s p c.head.first.vpid to served new c.head.vpid h

  pub turn-has : (events : List Event) → events ≡ to.events
      → turn (state_of s w) ≡ turn_after_waiting (turn_as (state_of new now) events new.core.verdict)
  turn-has events is =
      turn-came s w p to now served c
      ∙ (λ i. let new = sym same i in turn_after_waiting (turn_as (state_of new now) (sym is i) new.core.verdict))

  pub good-has : IsGood s → IsGood new
  good-has good = subst IsGood (sym same) (good-came s w p to now served c good)

  pub kept-has : KeepPlaces p served s.container.places to.places → IsKept new
  kept-has keeps = subst IsKept (sym same) (kept-came s w p to now served c
      (subst (λ n. KeepPlaces n served s.container.places to.places) (sym c.head.vpid) keeps))

-- a turn takes from the budget, and adds few that owe
length-left : (b : Bool) (ps : List Process) (n : ℕ) → length ps ≤ n → length (cond b [] ps) ≤ n
length-left true ps n h = omega arith
length-left false ps n h = h

length-one : (rest : List Process) (p : Process) → length (rest ++ p ∷ []) ≤ length rest + 2
length-one rest p = omega (arith, length-append rest (p ∷ []))

length-after : (q : Process) (rest : List Process) (t : Told) → length (sched.processes_after_turn q rest t) ≤ length rest + 2
length-after q rest Again = length-one rest _
length-after q rest (as_told.Child vpid) = omega (arith, length-append rest (sched.owing_process q.vpid ∷ sched.owing_process vpid ∷ []))
length-after q rest (as_told.LastChild vpid) = length-left (q.vpid == 1) _ _ (length-one rest (sched.owing_process vpid))
length-after q rest as_told.Waits = length-one rest _
length-after q rest Moved = length-one rest _
length-after q rest Gone = length-left (q.vpid == 1) rest _ (omega arith)
length-after q rest (Stopped number) = omega arith

fewer-steps : (left new_left owing owing_new : ℕ) → new_left < left → owing_new ≤ 65
    → new_left * 100 + owing_new < left * 100 + owing
fewer-steps left new_left owing owing_new falls few = omega arith

pub steps-came : (core new : CoreView) (p : ℕ) (t : Told) → IsCore core → head core ≡ Ready p
    → new ≡ sched.core_after_turn core t → new.left < core.left → steps_left new < steps_left core
steps-came core new p t sound ready is falls =
    let h = ready-head core p ready in
    let queue : new.queue ≡ sched.processes_after_turn h.first h.rest t = ap (λ (core : CoreView). core.queue) is
    ∙ ap (λ l. let core = sched.core_after_turn_of core l t in core.queue) h.queue in
    let some : length (owing_vpids new.queue) ≤ length (sched.processes_after_turn h.first h.rest t) = subst
    (λ l. length (owing_vpids l) ≤ length (sched.processes_after_turn h.first h.rest t)) (sym queue)
    (length-owing (sched.processes_after_turn h.first h.rest t)) in
    let more = length-after h.first h.rest t in
    let old = subst (λ l. length l ≤ 64) h.queue sound.few in
    fewer-steps core.left new.left (length (owing_vpids core.queue)) (length (owing_vpids new.queue)) falls (omega (arith, old))

-- the machine of a head that is ready is at home
pub ready-home : (s : StateInCode) (p : ℕ) → IsKept s → head s.core ≡ Ready p
    → IsSome (get (machines_at_home s.container.places) p)
ready-home s p kept ready =
    let h = ready-head s.core p ready in
    let head = head-kept s p h kept in
    subst (λ n. IsSome (get (machines_at_home s.container.places) n)) h.vpid (head.0.home h.arrived)

-- and its stop is noted
pub ready-noted : (s : StateInCode) (p : ℕ) → IsKept s → head s.core ≡ Ready p → IsSome (get s.stops p)
ready-noted s p kept ready =
    let h = ready-head s.core p ready in
    let head = head-kept s p h kept in
    subst (λ n. IsSome (get s.stops n)) h.vpid head.0.noted

-- a turn that the budget doesn't pay for
unpaid-seen : (s : State) (p : ℕ) (w : Work) → get s.works p ≡ Some w
    → turn_of_act s p (unpaid_act s.shared s.schedule w) ≡ turn_as s [] (Some verdict.Budget)
unfolding works_after_act
unpaid-seen s p w found =
    ap (λ works. turn_as (record s { works = works }) [] (Some verdict.Budget))
    (put_back nat_cmp_total nat_cmp-IsAntisymmetric s.works p w found)

pub spent-turn : (s : StateInCode) (w : World) → IsKept s → IsCore s.core → IsSpent s.core
    → turn (state_of s w) ≡ turn_as (state_of s w) [] (Some verdict.Budget)
spent-turn s w kept sound spent =
    let x = spent.first in
    let head = subst (AllByRecursion (IsKeptIn s)) spent.queue kept.kept in
    let machine = the-machine (get (machines_at_home s.container.places) x.vpid) (head.0.home spent.arrived) in
    let found = head-work s x spent.rest machine.0 spent.queue machine.1 in
    let counted = first-counted _ _ (subst (λ l. IsTrue (have_segment_counts l)) spent.queue sound.counted) in
    turn-spent (state_of s w) x.vpid (pids spent.rest) (the_work s.stops x machine.0)
    (ready machine.0 x.phase (noted_stop (get s.stops x.vpid))) (ap pids spent.queue) found
    (prepared-ready machine.0 x.phase (noted_stop (get s.stops x.vpid)) spent.arrived counted) spent.spent
    ∙ unpaid-seen (state_of s w) x.vpid (the_work s.stops x machine.0) found
