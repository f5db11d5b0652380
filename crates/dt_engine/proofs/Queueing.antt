-- The queue of a run in play: who is awaited, and who owes.
use Rattle.std.proofs.Common.{◌≡◌, ◌≢◌, ℕ, suc, ◌==◌, ◌&&◌, ◌||◌, not, Bool, true, false, cond, List, [], ◌∷◌, length, Option, Some, None, refl, sym, ap, subst, ◌∙◌, arith, nat_le}
use Rattle.std.specs.Prelude.{IsSome, IsTrue, option_map}
use Rattle.std.proofs.lemmas.Bool.Decides.{nat_tests}
use Rattle.std.specs.List.{AllByRecursion, Contains, filter, list_any}
use Rattle.std.specs.FinMap.{get}
use Rattle.dt_host.specs.World.{World}
use Rattle.dt_rv64.specs.declared.machine.Machine.{Machine}
use Rattle.dt_rv64.specs.declared.segments.Seg.{Seg}
use Rattle.dt_rv64.specs.declared.segments.Stop.{Stop}
use Rattle.dt_base.specs.declared.event.Verdict.{Verdict}
use Rattle.dt_base.specs.declared.event.Verdict.TheVariants as verdict
use Rattle.dt_sched.specs.declared.process.Process.{Process}
use Rattle.dt_sched.specs.declared.process.Phase.{Phase}
use Rattle.dt_sched.specs.declared.process.Phase.TheVariants.{Owes, Ran, Waits}
use Rattle.dt_sched.specs.declared.settled.Head.TheVariants.{NotArrived, Ready, Over}
use Rattle.dt_sched.specs.Core as sched
use Rattle.dt_sched.specs.Core.{CoreView, IsCore, head, head_unless_over, queue_head, is_distinct, is_owing, is_queued, owing_vpids}
use Rattle.dt_calls.specs.InCode.{machines_at_home}
use Rattle.dt_engine.specs.declared.state.State.{State as StateInCode}
use Rattle.dt_engine.specs.Turn.{head_pid}
use Rattle.dt_engine.specs.Admission.{is_ready_work, awaited, awaited_of}
use Rattle.dt_engine.specs.Happenings.{is_owing_work, is_live}
use Rattle.dt_engine.specs.InPlay.{IsKeptIn, IsKept, IsFull, owing_of}
use Rattle.dt_engine.specs.inner.InCode.{phase_at, noted_stop, with_stop, phase_in, work_in, works_in, state_of}
use Rattle.dt_engine.specs.inner.Good.{IsPlacedIn, IsGood}
use Rattle.dt_engine.proofs.Works.{get-works_in}
use Rattle.dt_engine.proofs.Queued.{pids, IsSpent, unless-waits-late, ready-head}
use Rattle.dt_engine.proofs.Standings.{phase-first, phase-other}
use Rattle.dt_engine.proofs.Placed.{once-apart, held-other}
use Rattle.dt_engine.proofs.Kept.{all-weaker, good-kept}

-- a process owes or not whatever its last stop was
pub owing-stop : (phase : Phase ℕ) (stop : Stop) → is_owing (with_stop phase stop) ≡ is_owing phase
owing-stop Owes stop = refl
owing-stop (Ran count) stop = refl
owing-stop Waits stop = refl

-- whether a work is ready, by how its process stands and whether its machine is at home
ready-by : (phase : Phase Seg) (found : Option Machine) (b : Bool) → is_owing phase ≡ b → (b ≡ false → IsSome found)
    → is_ready_work (option_map (work_in phase) found) ≡ not b
ready-by phase None true is home = refl
ready-by phase None false is home = let some = home refl in cc
ready-by phase (Some m) b is home = ap not is

-- whether a process's work is ready, which stands in the queue as it is said
ready-at : (s : StateInCode) (x : Process) → phase_at x.vpid s.core.queue ≡ x.phase → IsKeptIn s x
    → is_ready_work (get (works_in (machines_at_home s.container.places) (phase_in s.core.queue s.stops)) x.vpid) ≡ not (is_owing x.phase)
ready-at s x stands kept =
    let stop = noted_stop (get s.stops x.vpid) in
    ap is_ready_work (get-works_in (machines_at_home s.container.places) (phase_in s.core.queue s.stops) x.vpid)
    ∙ ap (λ phase. is_ready_work (option_map (work_in (with_stop phase stop)) (get (machines_at_home s.container.places) x.vpid))) stands
    ∙ ready-by (with_stop x.phase stop) (get (machines_at_home s.container.places) x.vpid) (is_owing x.phase)
    (owing-stop x.phase stop) kept.home

-- who is awaited, by the head of the queue
pub awaited-by : (s : StateInCode) (w : World) (x : Process) (rest : List Process) (b : Bool) → s.core.queue ≡ x ∷ rest → IsKept s
    → is_owing x.phase ≡ b → awaited (state_of s w) ≡ cond (not b) None (Some x.vpid)
awaited-by s w x rest b queue kept is =
    let kept_head = subst (AllByRecursion (IsKeptIn s)) queue kept.kept in
    let stands : phase_at x.vpid s.core.queue ≡ x.phase = ap (phase_at x.vpid) queue ∙ phase-first x rest in
    let works = works_in (machines_at_home s.container.places) (phase_in s.core.queue s.stops) in
    ap (λ ps. awaited_of works (head_pid (pids ps))) queue
    ∙ ap (λ ready. cond ready None (Some x.vpid)) (ready-at s x stands kept_head.0 ∙ ap not is)

-- the head of a queue whose segment has not arrived
record IsLate (core : CoreView) (p : ℕ) : Type 0 where
  first : Process
  rest : List Process
  queue : core.queue ≡ first ∷ rest
  vpid : first.vpid ≡ p
  owes : is_owing first.phase ≡ true

late-tests : (x : Process) (p : ℕ) (a b : Bool)
    → cond a (NotArrived x.vpid) (cond b (Ready x.vpid) (Over verdict.Budget)) ≡ NotArrived p → (a ≡ true) × (x.vpid ≡ p)
late-tests x p true b is = (refl, cc)
late-tests x p false true is = cc
late-tests x p false false is = cc

late-by : (core : CoreView) (p : ℕ) (v : Option Verdict) (queue : List Process) → core.queue ≡ queue
    → head_unless_over v core.blocked core.left queue ≡ NotArrived p → IsLate core p
late-by core p (Some v) queue is late = cc
late-by core p None [] is late = let head = unless-waits-late (core.blocked == 0) p (Over verdict.Ended) late in cc
late-by core p None (x ∷ rest) is late =
    let head = unless-waits-late (core.blocked == length (x ∷ rest)) p (queue_head core.left (x ∷ rest)) late in
    let tests = late-tests x p (is_owing x.phase) (nat_le (sched.cost_of x.phase) core.left) head in
    record { first = x; rest = rest; queue = is; vpid = tests.1; owes = tests.0 }

pub awaited-late : (s : StateInCode) (w : World) (p : ℕ) → IsKept s → head s.core ≡ NotArrived p → awaited (state_of s w) ≡ Some p
awaited-late s w p kept late =
    let h = late-by s.core p s.core.verdict s.core.queue refl late in
    awaited-by s w h.first h.rest true h.queue kept h.owes ∙ ap Some h.vpid

pub awaited-ready : (s : StateInCode) (w : World) (p : ℕ) → IsKept s → head s.core ≡ Ready p → awaited (state_of s w) ≡ None
awaited-ready s w p kept ready =
    let h = ready-head s.core p ready in awaited-by s w h.first h.rest false h.queue kept h.arrived

pub awaited-spent : (s : StateInCode) (w : World) → IsKept s → IsSpent s.core → awaited (state_of s w) ≡ None
awaited-spent s w kept spent = awaited-by s w spent.first spent.rest false spent.queue kept spent.arrived

-- each process of the queue stands there as it does
pub stand-there : (queue : List Process) → IsTrue (is_distinct queue)
    → AllByRecursion (λ (x : Process). phase_at x.vpid queue ≡ x.phase) queue
stand-there [] once = tt
stand-there (x ∷ xs) once =
    let tests = once-apart (is_queued x.vpid xs) (is_distinct xs) once in
    (phase-first x xs, behind xs tests.0 (stand-there xs tests.1))
  where
    behind : (ys : List Process) → is_queued x.vpid ys ≡ false → AllByRecursion (λ (y : Process). phase_at y.vpid xs ≡ y.phase) ys
        → AllByRecursion (λ (y : Process). phase_at y.vpid (x ∷ xs) ≡ y.phase) ys
    behind [] apart all = tt
    behind (y ∷ ys) apart all =
        let tests = held-other x.vpid y ys apart in (phase-other y.vpid x xs tests.0 ∙ all.0, behind ys tests.1 all.1)

pub all-both : {X : Type 0} (P Q R : X → Type 0) → ((x : X) → P x → Q x → R x) → (xs : List X) → AllByRecursion P xs
    → AllByRecursion Q xs → AllByRecursion R xs
all-both P Q R both [] p q = tt
all-both P Q R both (x ∷ xs) p q = (both x p.0 q.0, all-both P Q R both xs p.1 q.1)

-- those of a queue that pass a test, where that is whether they owe
filter-owing : (test : ℕ → Bool) (xs : List Process) → AllByRecursion (λ (x : Process). test x.vpid ≡ is_owing x.phase) xs
    → filter test (pids xs) ≡ owing_vpids xs
filter-owing test [] all = refl
filter-owing test (x ∷ xs) all =
    ap (λ b. cond b (x.vpid ∷ filter test (pids xs)) (filter test (pids xs))) all.0
    ∙ ap (λ ps. cond (is_owing x.phase) (x.vpid ∷ ps) ps) (filter-owing test xs all.1)

not-not : (b : Bool) → not (not b) ≡ b
not-not true = refl
not-not false = refl

-- who owes
pub owing-is : (s : StateInCode) (w : World) → IsKept s → IsTrue (is_distinct s.core.queue)
    → owing_of (state_of s w) ≡ owing_vpids s.core.queue
owing-is s w kept once =
    let works = works_in (machines_at_home s.container.places) (phase_in s.core.queue s.stops) in
    filter-owing (λ p. not (is_ready_work (get works p))) s.core.queue
    (all-both (λ (x : Process). phase_at x.vpid s.core.queue ≡ x.phase) (IsKeptIn s)
    (λ (x : Process). not (is_ready_work (get works x.vpid)) ≡ is_owing x.phase)
    (λ x stands kept. ap not (ready-at s x stands kept) ∙ not-not (is_owing x.phase))
    s.core.queue (stand-there s.core.queue once) kept.kept)

-- a process whose machine isn't at home lives just where it owes
pub live-away : (s : StateInCode) (p : ℕ) (xs : List Process) → get (machines_at_home s.container.places) p ≡ None
    → AllByRecursion (IsKeptIn s) xs → list_any (λ q. q == p) (pids xs) ≡ list_any (λ q. q == p) (owing_vpids xs)
live-away s p [] away kept = refl
live-away s p (x ∷ xs) away kept =
    ap (λ b. (x.vpid == p) || b) (live-away s p xs away kept.1) ∙ by_owing (is_owing x.phase) refl
  where
    by_owing : (b : Bool) → is_owing x.phase ≡ b
        → ((x.vpid == p) || list_any (λ q. q == p) (owing_vpids xs))
        ≡ list_any (λ q. q == p) (cond b (x.vpid ∷ owing_vpids xs) (owing_vpids xs))
    by_owing true is = refl
    by_owing false is =
        let apart : x.vpid ≢ p = λ e. let home = kept.0.home is in
        let none = ap (get (machines_at_home s.container.places)) e ∙ away in cc in
        grind (arith, nat_tests)

any-first : (test : ℕ → Bool) (b : Bool) (p : ℕ) (ps : List ℕ)
    → list_any test (cond b (p ∷ ps) ps) ≡ cond b (test p || list_any test ps) (list_any test ps)
any-first test true p ps = refl
any-first test false p ps = refl

and-false : (b : Bool) → (b && false) ≡ false
and-false true = refl
and-false false = refl

-- one more of those among whom p is, where `here` says whether it is the one, and `b` whether that owes
one-owing : (b here o left right : Bool) → (here ≡ true → o ≡ b) → left ≡ (right && o)
    → cond b (here || left) left ≡ ((here || right) && o)
one-owing true true o left right same rest = sym (same refl)
one-owing true false o left right same rest = rest
one-owing false true o left right same rest = rest ∙ ap (λ o. right && o) (same refl) ∙ and-false right ∙ sym (same refl)
one-owing false false o left right same rest = rest

-- a process owes and lives, where what is known of its work fits those of the queue
owing-live : (o : Bool) (p : ℕ) (xs : List Process) → AllByRecursion (λ (x : Process). x.vpid ≡ p → o ≡ is_owing x.phase) xs
    → list_any (λ q. q == p) (owing_vpids xs) ≡ (list_any (λ q. q == p) (pids xs) && o)
owing-live o p [] all = refl
owing-live o p (x ∷ xs) all =
    any-first (λ q. q == p) (is_owing x.phase) x.vpid (owing_vpids xs)
    ∙ one-owing (is_owing x.phase) (x.vpid == p) o _ _ (λ here. all.0 (grind (arith, nat_tests))) (owing-live o p xs all.1)

pub owing-by : (phase : Phase Seg) (found : Option Machine) → IsSome found → is_owing_work (option_map (work_in phase) found) ≡ is_owing phase
owing-by phase None some = cc
owing-by phase (Some m) some = refl

owing-at : (s : StateInCode) (x : Process) → phase_at x.vpid s.core.queue ≡ x.phase → IsPlacedIn s x
    → is_owing_work (get (works_in (machines_at_home s.container.places) (phase_in s.core.queue s.stops)) x.vpid) ≡ is_owing x.phase
owing-at s x stands placed =
    let stop = noted_stop (get s.stops x.vpid) in
    ap is_owing_work (get-works_in (machines_at_home s.container.places) (phase_in s.core.queue s.stops) x.vpid)
    ∙ ap (λ phase. is_owing_work (option_map (work_in (with_stop phase stop)) (get (machines_at_home s.container.places) x.vpid))) stands
    ∙ owing-by (with_stop x.phase stop) (get (machines_at_home s.container.places) x.vpid) placed.home
    ∙ owing-stop x.phase stop

-- whether a process owes and lives, where all machines are at home
pub owes-alive : (s : StateInCode) (w : World) (p : ℕ) → IsGood s → IsTrue (is_distinct s.core.queue)
    → list_any (λ q. q == p) (owing_vpids s.core.queue)
    ≡ (is_live p (state_of s w) && is_owing_work (get (works_in (machines_at_home s.container.places) (phase_in s.core.queue s.stops)) p))
owes-alive s w p good once =
    let works = works_in (machines_at_home s.container.places) (phase_in s.core.queue s.stops) in
    owing-live (is_owing_work (get works p)) p s.core.queue
    (all-both (λ (x : Process). phase_at x.vpid s.core.queue ≡ x.phase) (IsPlacedIn s)
    (λ (x : Process). x.vpid ≡ p → is_owing_work (get works p) ≡ is_owing x.phase)
    (λ x stands placed is. ap (λ q. is_owing_work (get works q)) (sym is) ∙ owing-at s x stands placed)
    s.core.queue (stand-there s.core.queue once) good.placed)

-- all machines are at home in code just where they are by definition
all-pids : (P : ℕ → Type 0) (xs : List Process) → AllByRecursion (λ (x : Process). P x.vpid) xs → AllByRecursion P (pids xs)
all-pids P [] all = tt
all-pids P (x ∷ xs) all = (all.0, all-pids P xs all.1)

of-pids : (P : ℕ → Type 0) (xs : List Process) → AllByRecursion P (pids xs) → AllByRecursion (λ (x : Process). P x.vpid) xs
of-pids P [] all = tt
of-pids P (x ∷ xs) all = (all.0, of-pids P xs all.1)

some-mapped : (phase : Phase Seg) (found : Option Machine) → IsSome found → IsSome (option_map (work_in phase) found)
some-mapped phase None some = cc
some-mapped phase (Some m) some = refl

some-before : (phase : Phase Seg) (found : Option Machine) → IsSome (option_map (work_in phase) found) → IsSome found
some-before phase None some = cc
some-before phase (Some m) some = refl

pub good-full : (s : StateInCode) (w : World) → IsGood s → IsFull (state_of s w)
good-full s w good =
    let machines = machines_at_home s.container.places in
    let phases = phase_in s.core.queue s.stops in
    all-pids (λ p. IsSome (get (works_in machines phases) p)) s.core.queue
    (all-weaker (IsPlacedIn s) (λ (x : Process). IsSome (get (works_in machines phases) x.vpid))
    (λ x placed. subst IsSome (sym (get-works_in machines phases x.vpid)) (some-mapped (phases x.vpid) (get machines x.vpid) placed.home))
    s.core.queue good.placed)

pub full-good : (s : StateInCode) (w : World) → IsKept s → IsFull (state_of s w) → IsGood s
full-good s w kept full =
    let machines = machines_at_home s.container.places in
    let phases = phase_in s.core.queue s.stops in
    good-kept s
    (all-weaker (λ (x : Process). IsSome (get (works_in machines phases) x.vpid)) (λ (x : Process). IsSome (get machines x.vpid))
    (λ x some. some-before (phases x.vpid) (get machines x.vpid) (subst IsSome (get-works_in machines phases x.vpid) some))
    s.core.queue (of-pids (λ p. IsSome (get (works_in machines phases) p)) s.core.queue full))
    kept

-- a process that is found among those that owe: it stands in the queue, and has what is kept of each
pub record IsThere (s : StateInCode) (p : ℕ) (xs : List Process) : Type 0 where
  pub place : IsSome (get s.container.places p)
  pub noted : IsSome (get s.stops p)
  pub queued : is_queued p xs ≡ true

either-way : (b left : Bool) → cond b (false || left) left ≡ true → left ≡ true
either-way true left is = is
either-way false left is = is

there-by : (s : StateInCode) (p : ℕ) (x : Process) (xs : List Process) (here : Bool) → (x.vpid == p) ≡ here → IsKeptIn s x
    → (let left = list_any (λ q. q == p) (owing_vpids xs) in cond (is_owing x.phase) ((x.vpid == p) || left) left ≡ true)
    → (list_any (λ q. q == p) (owing_vpids xs) ≡ true → IsThere s p xs)
    → IsThere s p (x ∷ xs)
there-by s p x xs true is kept found rest =
    let e : x.vpid ≡ p = grind (arith, nat_tests) in
    record {
      place = subst (λ n. IsSome (get s.container.places n)) e kept.place;
      noted = subst (λ n. IsSome (get s.stops n)) e kept.noted;
      queued = ap (λ b. b || is_queued p xs) is;
    }
there-by s p x xs false is kept found rest =
    let left = list_any (λ q. q == p) (owing_vpids xs) in
    let there = rest (either-way (is_owing x.phase) left (sym (ap (λ b. cond (is_owing x.phase) (b || left) left) is) ∙ found)) in
    record { place = there.place; noted = there.noted; queued = ap (λ b. b || is_queued p xs) is ∙ there.queued }

pub owing-there : (s : StateInCode) (p : ℕ) (xs : List Process) → AllByRecursion (IsKeptIn s) xs
    → list_any (λ q. q == p) (owing_vpids xs) ≡ true → IsThere s p xs
owing-there s p [] kept found = cc
owing-there s p (x ∷ xs) kept found =
    there-by s p x xs (x.vpid == p) refl kept.0
    (sym (any-first (λ q. q == p) (is_owing x.phase) x.vpid (owing_vpids xs)) ∙ found)
    (λ left. owing-there s p xs kept.1 left)

-- it lives
pub queued-live : (p : ℕ) (xs : List Process) → is_queued p xs ≡ list_any (λ q. q == p) (pids xs)
queued-live p [] = refl
queued-live p (x ∷ xs) = ap (λ b. (x.vpid == p) || b) (queued-live p xs)

-- one that is found is an element
contained-by : (p x : ℕ) (xs : List ℕ) (here : Bool) → (x == p) ≡ here → (here || list_any (λ q. q == p) xs) ≡ true
    → (list_any (λ q. q == p) xs ≡ true → Contains xs p) → Contains (x ∷ xs) p
contained-by p x xs true is found rest = (0, omega arith, grind (arith, nat_tests))
contained-by p x xs false is found rest = let r = rest found in (suc r.0, omega (arith, r.1), r.2)

pub found-contained : (p : ℕ) (xs : List ℕ) → list_any (λ q. q == p) xs ≡ true → Contains xs p
found-contained p [] found = absurd cc
found-contained p (x ∷ xs) found = contained-by p x xs (x == p) refl found (found-contained p xs)
