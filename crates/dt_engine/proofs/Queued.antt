-- The queue as the definitions see it: its head, and what a turn or an arrival makes of it.
use Rattle.std.proofs.Common.{◌≡◌, ℕ, ◌-◌, ◌<◌, ◌==◌, Bool, true, false, cond, List, [], ◌∷◌, ◌++◌, map, drop, length, Option, Some, None, refl, sym, ap, subst, ◌∙◌, arith, nat_le, inl, inr}
use Rattle.std.specs.Prelude.{IsTrue, ◌⊎◌}
use Rattle.std.proofs.lemmas.List.{map-append}
use Rattle.dt_base.specs.declared.event.Verdict.{Verdict}
use Rattle.dt_base.specs.declared.event.Verdict.TheVariants as verdict
use Rattle.dt_sched.specs.declared.process.Process.{Process}
use Rattle.dt_sched.specs.declared.process.Phase.TheVariants as as_queued
use Rattle.dt_sched.specs.declared.settled.Head.{Head}
use Rattle.dt_sched.specs.declared.settled.Head.TheVariants.{NotArrived, Ready, AllWait, Over}
use Rattle.dt_sched.specs.declared.settled.Settled.{Settled}
use Rattle.dt_sched.specs.declared.settled.Settled.TheVariants.{Again, Child, LastChild, Waits as Blocked, Moved, Gone, Stopped}
use Rattle.dt_sched.specs.Core as sched
use Rattle.dt_sched.specs.Core.{CoreView, IsCore, head, head_unless_over, queue_head, owing_process, owing_vpids, is_owing, core_after_arrival, process_after_arrival, core_after_turn, core_after_turn_of}
use Rattle.dt_sched.specs.Order.{order_after_turn, blocked_after, schedule_after_turn, verdict_of_turn}
use Rattle.dt_engine.specs.inner.InCode.{schedule_of}

-- the pids of processes
abbrev pub pids : List Process → List ℕ
pids ps = map (λ (p : Process). p.vpid) ps

-- the head of a queue that can take its turn
pub record IsHead (core : CoreView) (p : ℕ) : Type 0 where
  pub first : Process
  pub rest : List Process
  pub queue : core.queue ≡ first ∷ rest
  pub vpid : first.vpid ≡ p
  pub arrived : is_owing first.phase ≡ false
  pub pays : nat_le (sched.cost_of first.phase) core.left ≡ true
  pub running : core.verdict ≡ None

-- unless all wait the head is that of the queue
unless-waits-ready : (all : Bool) (p : ℕ) (h : Head) → (let head : Head = cond all AllWait h in head) ≡ Ready p → h ≡ Ready p
unless-waits-ready true p h is = cc
unless-waits-ready false p h is = is

pub unless-waits-late : (all : Bool) (p : ℕ) (h : Head) → (let head : Head = cond all AllWait h in head) ≡ NotArrived p → h ≡ NotArrived p
unless-waits-late true p h is = cc
unless-waits-late false p h is = is

unless-waits-over : (all : Bool) (v : Verdict) (h : Head) → (let head : Head = cond all AllWait h in head) ≡ Over v → h ≡ Over v
unless-waits-over true v h is = cc
unless-waits-over false v h is = is

ready-tests : (x : Process) (p : ℕ) (a b : Bool)
    → cond a (NotArrived x.vpid) (cond b (Ready x.vpid) (Over verdict.Budget)) ≡ Ready p
    → (a ≡ false) × ((b ≡ true) × (x.vpid ≡ p))
ready-tests x p true b is = cc
ready-tests x p false true is = (refl, (refl, cc))
ready-tests x p false false is = cc

ready-by : (core : CoreView) (p : ℕ) (v : Option Verdict) (queue : List Process) → core.verdict ≡ v → core.queue ≡ queue
    → head_unless_over v core.blocked core.left queue ≡ Ready p → IsHead core p
ready-by core p (Some v) queue running is ready = cc
ready-by core p None [] running is ready = let head = unless-waits-ready (core.blocked == 0) p (Over verdict.Ended) ready in cc
ready-by core p None (x ∷ rest) running is ready =
    let head = unless-waits-ready (core.blocked == length (x ∷ rest)) p (queue_head core.left (x ∷ rest)) ready in
    let tests = ready-tests x p (is_owing x.phase) (nat_le (sched.cost_of x.phase) core.left) head in
    record { first = x; rest = rest; queue = is; vpid = tests.1.1; arrived = tests.0; pays = tests.1.0; running = running }

pub ready-head : (core : CoreView) (p : ℕ) → head core ≡ Ready p → IsHead core p
ready-head core p ready = ready-by core p core.verdict core.queue refl refl ready

-- where no segment has arrived of the head, some are owed
owed-tests : (x : Process) (rest : List Process) (p : ℕ) (a b : Bool) → is_owing x.phase ≡ a
    → cond a (NotArrived x.vpid) (cond b (Ready x.vpid) (Over verdict.Budget)) ≡ NotArrived p
    → 0 < length (owing_vpids (x ∷ rest))
owed-tests x rest p true b owed is = subst (λ t. 0 < length (cond t (x.vpid ∷ owing_vpids rest) (owing_vpids rest))) (sym owed) (omega arith)
owed-tests x rest p false true owed is = cc
owed-tests x rest p false false owed is = cc

owed-by : (core : CoreView) (p : ℕ) (v : Option Verdict) (queue : List Process)
    → head_unless_over v core.blocked core.left queue ≡ NotArrived p → (v ≡ None) × (0 < length (owing_vpids queue))
owed-by core p (Some v) queue is = cc
owed-by core p None [] is = let head = unless-waits-late (core.blocked == 0) p (Over verdict.Ended) is in cc
owed-by core p None (x ∷ rest) is =
    let head = unless-waits-late (core.blocked == length (x ∷ rest)) p (queue_head core.left (x ∷ rest)) is in
    (refl, owed-tests x rest p (is_owing x.phase) (nat_le (sched.cost_of x.phase) core.left) refl head)

pub owed-head : (core : CoreView) (p : ℕ) → head core ≡ NotArrived p
    → (core.verdict ≡ None) × (0 < length (owing_vpids core.queue))
owed-head core p is = owed-by core p core.verdict core.queue is

-- a queue whose head the budget doesn't pay for
pub record IsSpent (core : CoreView) : Type 0 where
  pub first : Process
  pub rest : List Process
  pub queue : core.queue ≡ first ∷ rest
  pub arrived : is_owing first.phase ≡ false
  pub spent : nat_le (sched.cost_of first.phase) core.left ≡ false

-- a run is over after a turn's verdict, or where the budget doesn't pay for its next turn
abbrev pub IsOver : CoreView → Verdict → Type 0
IsOver core v = (core.verdict ≡ Some v) ⊎ ((core.verdict ≡ None) × ((v ≡ verdict.Budget) × IsSpent core))

over-tests : (x : Process) (v : Verdict) (a b : Bool)
    → cond a (NotArrived x.vpid) (cond b (Ready x.vpid) (Over verdict.Budget)) ≡ Over v
    → (a ≡ false) × ((b ≡ false) × (v ≡ verdict.Budget))
over-tests x v true b is = cc
over-tests x v false true is = cc
over-tests x v false false is = (refl, (refl, cc))

over-by : (core : CoreView) (w : Verdict) (v : Option Verdict) (queue : List Process) → core.verdict ≡ v
    → core.queue ≡ queue → (core.verdict ≡ None → IsTrue (sched.is_queued 1 core.queue))
    → head_unless_over v core.blocked core.left queue ≡ Over w → IsOver core w
over-by core w (Some v) queue running is first over = inl (let same : v ≡ w = cc in running ∙ ap Some same)
over-by core w None [] running is first over = absurd
    (let held = first running in let bad = subst (λ l. IsTrue (sched.is_queued 1 l)) is held in cc)
over-by core w None (x ∷ rest) running is first over =
    let head = unless-waits-over (core.blocked == length (x ∷ rest)) w (queue_head core.left (x ∷ rest)) over in
    let tests = over-tests x w (is_owing x.phase) (nat_le (sched.cost_of x.phase) core.left) head in
    inr (running, (tests.1.1, record { first = x; rest = rest; queue = is; arrived = tests.0; spent = tests.1.0 }))

pub over-head : (core : CoreView) (w : Verdict) → IsCore core → head core ≡ Over w → IsOver core w
over-head core w good over =
    over-by core w core.verdict core.queue refl refl (λ running. let going = good.going running in going.first) over

-- the order after a turn
pids-append : (ps : List Process) (q : Process) → pids (ps ++ q ∷ []) ≡ pids ps ++ q.vpid ∷ []
pids-append ps q = map-append (λ (p : Process). p.vpid) ps (q ∷ [])

pids-two : (ps : List Process) (q r : Process) → pids (ps ++ q ∷ r ∷ []) ≡ pids ps ++ q.vpid ∷ r.vpid ∷ []
pids-two ps q r = map-append (λ (p : Process). p.vpid) ps (q ∷ r ∷ [])

left-pids : (b : Bool) (ns : List ℕ) (ps : List Process) → ns ≡ pids ps → cond b [] ns ≡ pids (cond b [] ps)
left-pids true ns ps is = refl
left-pids false ns ps is = is

order-settled : (q : Process) (rest : List Process) (t : Settled)
    → order_after_turn q.vpid q.vpid q.vpid (λ child. child) (pids rest) t ≡ pids (sched.processes_after_turn q rest t)
order-settled q rest Again = sym (pids-append rest (owing_process q.vpid))
order-settled q rest (Child vpid) = sym (pids-two rest (owing_process q.vpid) (owing_process vpid))
order-settled q rest (LastChild vpid) = left-pids (q.vpid == 1) _ (rest ++ owing_process vpid ∷ []) (sym (pids-append rest (owing_process vpid)))
order-settled q rest Blocked = sym (pids-append rest _)
order-settled q rest Moved = sym (pids-append rest _)
order-settled q rest Gone = left-pids (q.vpid == 1) _ rest refl
order-settled q rest (Stopped number) = refl

-- the schedule after a turn of the head
pub schedule-settled : (core : CoreView) (q : Process) (rest : List Process) (t : Settled) → core.queue ≡ q ∷ rest
    → schedule_after_turn (record (schedule_of core) { left = core.left - sched.cost_of q.phase }) q.vpid t ≡ schedule_of (core_after_turn core t)
unfolding schedule_after_turn
schedule-settled core q rest t is =
    ap (λ l. record {
      order = order_after_turn q.vpid q.vpid q.vpid (λ child. child) (drop 1 (pids l)) t;
      blocked = blocked_after core.blocked t;
      left = core.left - sched.cost_of q.phase;
    }) is
    ∙ ap (λ order. record { order = order; blocked = blocked_after core.blocked t; left = core.left - sched.cost_of q.phase })
    (order-settled q rest t)
    ∙ ap (λ l. schedule_of (core_after_turn_of core l t)) (sym is)

-- its verdict
pub verdict-settled : (core : CoreView) (q : Process) (rest : List Process) (t : Settled) → core.queue ≡ q ∷ rest
    → let new = core_after_turn core t in verdict_of_turn q.vpid t ≡ new.verdict
unfolding verdict_of_turn
verdict-settled core q rest t is = ap (λ l. let new = core_after_turn_of core l t in new.verdict) (sym is)

-- an arrival moves no process
same-pid : (b : Bool) (p q : Process) → q.vpid ≡ p.vpid → (let x : Process = cond b q p in x.vpid) ≡ p.vpid
same-pid true p q is = is
same-pid false p q is = refl

pub pids-arrived : (vpid cost : ℕ) (ps : List Process) → pids (map (process_after_arrival vpid cost) ps) ≡ pids ps
pids-arrived vpid cost [] = refl
pids-arrived vpid cost (p ∷ ps) = λ i. same-pid (p.vpid == vpid) p
    (record p { phase = as_queued.Ran cost }) refl i ∷ pids-arrived vpid cost ps i
