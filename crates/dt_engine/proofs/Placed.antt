-- The processes of the queue stay placed after a turn, and a child finds room.
use Rattle.std.proofs.Common.{◌≡◌, ◌≢◌, ℕ, ◌+◌, ◌<◌, ◌≤◌, ◌&&◌, not, Bool, true, false, cond, List, [], ◌∷◌, ◌++◌, map, length, Option, Some, None, refl, sym, subst, arith, nat_lt}
use Rattle.std.specs.Prelude.{IsSome, IsTrue}
use Rattle.std.proofs.lemmas.Bool.Decides.{nat_tests}
use Rattle.std.specs.List.{AllByRecursion}
use Rattle.std.specs.Ordering.{nat_cmp}
use Rattle.std.specs.Cmp.{nat_cmp_total}
use Rattle.std.specs.FinMap.{FinMap, empty, entries, keys, get, remove, nat_cmp-IsAntisymmetric}
use Rattle.dt_tables.specs.Total.{total, total_in}
use Rattle.dt_tables.specs.inner.Weight.{weight}
use Rattle.dt_tables.proofs.Maps.{at_insert, at_remove, get-insert_same, get-remove_other}
use Rattle.dt_tables.proofs.Totals.{total-remove}
use Rattle.dt_rv64.specs.declared.machine.Machine.{Machine}
use Rattle.dt_sched.specs.declared.process.Process.{Process}
use Rattle.dt_sched.specs.declared.process.Phase.{Phase}
use Rattle.dt_sched.specs.Core as sched
use Rattle.dt_sched.specs.Core.{is_distinct, is_queued, owing_process, has_room}
use Rattle.dt_calls.specs.declared.container.Served.{Served}
use Rattle.dt_calls.specs.declared.container.Served.TheVariants.{Done, Child, LastChild, Blocked, Progress, Ended, Unsupported}
use Rattle.dt_calls.specs.Container.{Machines}
use Rattle.dt_calls.specs.Settle.{is_end_of_all, with_own, with_child_machine, next_after}
use Rattle.dt_engine.specs.Turn.{settled_of}
use Rattle.dt_engine.specs.inner.InCode.{Stops, stops_after}
use Rattle.dt_engine.specs.inner.Good.{IsPlaced}
use Rattle.dt_calls.proofs.Fits.{FitsOwn, FitsChild}
use Rattle.dt_engine.proofs.Noted.{fits-next}
use Rattle.dt_engine.proofs.Standings.{GoesOn, makes_child, noted-stays, own-noted, child-noted}

all-append : {X : Type 0} (P : X → Type 0) (xs ys : List X) → AllByRecursion P xs → AllByRecursion P ys
    → AllByRecursion P (xs ++ ys)
all-append P [] ys h k = k
all-append P (x ∷ xs) ys h k = (h.0, all-append P xs ys h.1 k)

-- a machine at home after a turn
pub own-there : (machines : Machines) (p : ℕ) (own : Option Machine) (q : ℕ) → (q ≡ p → IsSome own)
    → IsSome (get machines q) → IsSome (get (with_own machines p own) q)
own-there machines p None q here was = at_remove nat_cmp_total nat_cmp-IsAntisymmetric
    (λ found. IsSome found) machines p q here (λ _. was)
own-there machines p (Some m) q here was = at_insert nat_cmp_total nat_cmp-IsAntisymmetric
    (λ found. IsSome found) machines p m q (λ _. refl) (λ _. was)

pub own-home : (machines : Machines) (p : ℕ) (own : Option Machine) → IsSome own → IsSome (get (with_own machines p own) p)
own-home machines p None some = cc
own-home machines p (Some m) some = subst IsSome (sym (get-insert_same nat_cmp_total nat_cmp-IsAntisymmetric machines p m)) refl

pub child-there : (machines : Machines) (next : ℕ) (child : Option Machine) (q : ℕ) → IsSome (get machines q)
    → IsSome (get (with_child_machine machines next child) q)
child-there machines next None q was = was
child-there machines next (Some m) q was = at_insert nat_cmp_total nat_cmp-IsAntisymmetric
    (λ found. IsSome found) machines next m q (λ _. refl) (λ _. was)

pub child-home : (machines : Machines) (next : ℕ) (child : Option Machine) → IsSome child
    → IsSome (get (with_child_machine machines next child) next)
child-home machines next None some = cc
child-home machines next (Some m) some = subst IsSome
    (sym (get-insert_same nat_cmp_total nat_cmp-IsAntisymmetric machines next m)) refl

pub next-later : (next : ℕ) (child : Option Machine) → next ≤ next_after next child
next-later next None = omega arith
next-later next (Some m) = omega arith

pub next-child : (next : ℕ) (child : Option Machine) → IsSome child → next < next_after next child
next-child next None some = cc
next-child next (Some m) some = omega arith

-- a process that isn't in the rest isn't any of it
pub held-other : (p : ℕ) (x : Process) (xs : List Process) → is_queued p (x ∷ xs) ≡ false → (x.vpid ≢ p) × (is_queued p xs ≡ false)
held-other p x xs apart = (λ e. absurd (grind (arith, nat_tests)), grind (arith, nat_tests))

pub once-apart : (a b : Bool) → IsTrue (not a && b) → (a ≡ false) × IsTrue b
once-apart true b once = cc
once-apart false b once = (refl, once)

-- a child was made where there is its machine
pub born-child : (next : ℕ) (served : Served) (child : Option Machine) → FitsChild next served child → IsTrue (makes_child served)
    → IsSome child
born-child next Done child fits made = cc
born-child next (Child vpid) child fits made = fits.machine
born-child next (LastChild vpid) child fits made = fits.machine
born-child next Blocked child fits made = cc
born-child next Progress child fits made = cc
born-child next Ended child fits made = cc
born-child next (Unsupported number) child fits made = cc

module _ (machines : Machines) (stops : Stops) (next : ℕ) (q : Process) (own child : Option Machine) where
  -- the machines after a turn, unless all have ended
  abbrev after_turn : Machines
  after_turn = with_child_machine (with_own machines q.vpid own) next child

  abbrev Stays : Served → Process → Type 0
  Stays served x = IsPlaced after_turn (stops_after stops q.vpid served) (next_after next child) x

  rest-placed : (served : Served) (rest : List Process) → is_queued q.vpid rest ≡ false
      → AllByRecursion (IsPlaced machines stops next) rest → AllByRecursion (Stays served) rest
  rest-placed served [] apart placed = tt
  rest-placed served (x ∷ xs) apart placed =
      let tests = held-other q.vpid x xs apart in
      let later = next-later next child in (
        record {
          home = child-there (with_own machines q.vpid own) next child x.vpid
              (own-there machines q.vpid own x.vpid (λ e. absurd (tests.0 e)) placed.0.home);
          noted = noted-stays stops q.vpid served x.vpid tests.0 placed.0.noted;
          given = omega (arith, placed.0.given, later);
        },
        rest-placed served xs tests.1 placed.1,
      )

  module _ (head : IsPlaced machines stops next q) where
    head-given : q.vpid < next_after next child
    head-given = let later = next-later next child in omega (arith, head.given, later)

    -- the process whose turn it was, wherever it stands then
    own-placed : (served : Served) (phase : Phase ℕ) → IsSome own → GoesOn served → Stays served (record q { phase = phase })
    own-placed served phase lives on = record {
      home = child-there (with_own machines q.vpid own) next child q.vpid (own-home machines q.vpid own lives);
      noted = own-noted stops q.vpid served on head.noted;
      given = head-given;
    }

    module _ (served : Served) (fits : FitsChild next served child) where
      child-placed : (vpid : ℕ) → vpid ≡ next → IsTrue (makes_child served) → Stays served (owing_process vpid)
      child-placed vpid is made =
          let born = born-child next served child fits made in
          subst (λ n. Stays served (owing_process n)) (sym is) (record {
            home = child-home (with_own machines q.vpid own) next child born;
            noted = child-noted stops q.vpid next served (fits-next next served child fits) made;
            given = next-child next child born;
          })

    module _ (rest : List Process) (apart : is_queued q.vpid rest ≡ false)
        (placed : AllByRecursion (IsPlaced machines stops next) rest) where
      behind : (served : Served) (ps : List Process) → AllByRecursion (Stays served) ps
          → AllByRecursion (Stays served) (rest ++ ps)
      behind served ps more = all-append (Stays served) rest ps (rest-placed served rest apart placed) more

      -- unless all have ended the processes of the queue are placed
      on-placed : (served : Served) → FitsOwn served own → FitsChild next served child
          → is_end_of_all q.vpid served ≡ false
          → AllByRecursion (Stays served) (sched.processes_after_turn q rest (settled_of served))
      on-placed Done lives born on = behind Done _ (own-placed Done _ lives tt, tt)
      on-placed (Child vpid) lives born on = behind (Child vpid) _
          (own-placed (Child vpid) _ lives tt, (child-placed (Child vpid) born vpid born.is_next refl, tt))
      on-placed (LastChild vpid) lives born on =
          subst (λ b. AllByRecursion (Stays (LastChild vpid)) (cond b [] (rest ++ owing_process vpid ∷ []))) (sym on)
          (behind (LastChild vpid) _ (child-placed (LastChild vpid) born vpid born.is_next refl, tt))
      on-placed Blocked lives born on = behind Blocked _ (own-placed Blocked _ lives tt, tt)
      on-placed Progress lives born on = behind Progress _ (own-placed Progress _ lives tt, tt)
      on-placed Ended lives born on =
          subst (λ b. AllByRecursion (Stays Ended) (cond b [] rest)) (sym on) (rest-placed Ended rest apart placed)
      on-placed (Unsupported number) lives born on =
          (own-placed (Unsupported number) q.phase lives tt, rest-placed (Unsupported number) rest apart placed)

-- where all have ended the queue is empty
pub none-left : (P : Process → Type 0) (q : Process) (rest : List Process) (served : Served)
    → is_end_of_all q.vpid served ≡ true → AllByRecursion P (sched.processes_after_turn q rest (settled_of served))
none-left P q rest Done over = cc
none-left P q rest (Child vpid) over = cc
none-left P q rest (LastChild vpid) over = subst (λ b. AllByRecursion P (cond b [] (rest ++ owing_process vpid ∷ []))) (sym over) tt
none-left P q rest Blocked over = cc
none-left P q rest Progress over = cc
none-left P q rest Ended over = subst (λ b. AllByRecursion P (cond b [] rest)) (sym over) tt
none-left P q rest (Unsupported number) over = cc

-- the processes of the queue are placed after a turn
pub queue-placed : (machines : Machines) (stops : Stops) (next : ℕ) (q : Process) (rest : List Process)
    (served : Served) (own child : Option Machine) (b : Bool)
    → is_end_of_all q.vpid served ≡ b → FitsOwn served own → FitsChild next served child
    → is_queued q.vpid rest ≡ false → AllByRecursion (IsPlaced machines stops next) (q ∷ rest)
    → AllByRecursion (IsPlaced (cond b empty (with_child_machine (with_own machines q.vpid own) next child))
    (stops_after stops q.vpid served) (next_after next child)) (sched.processes_after_turn q rest (settled_of served))
queue-placed machines stops next q rest served own child true over lives born apart placed = none-left _ q rest served over
queue-placed machines stops next q rest served own child false over lives born apart placed
    = on-placed machines stops next q own child placed.0 rest apart placed.1 served lives born over

-- a pid that is still to be given is none of the queue's
pub unheld : (machines : Machines) (stops : Stops) (next : ℕ) (ps : List Process)
    → AllByRecursion (IsPlaced machines stops next) ps → is_queued next ps ≡ false
unheld machines stops next [] placed = refl
unheld machines stops next (p ∷ ps) placed =
    let less = placed.0.given in
    let rest = unheld machines stops next ps placed.1 in
    grind (arith, nat_tests)

-- processes that each stand under a key of a map are no more than its keys
one_each : {X : Type 0} (es : List (ℕ × X)) → total_in (λ (x : X). 1) es ≡ length (map (λ e. e.0) es)
one_each [] = refl
one_each (e ∷ es) = let rest = one_each es in omega arith

pub keys-total : {X : Type 0} (m : FinMap nat_cmp X) → total (λ (x : X). 1) m ≡ length (keys m)
unfolding total
keys-total m = one_each (entries m)

pub weight-some : {X : Type 0} (found : Option X) → IsSome found → weight (λ (x : X). 1) found ≡ 1
weight-some None some = cc
weight-some (Some x) some = refl

still-there : {X : Type 0} (m : FinMap nat_cmp X) (p : ℕ) (ps : List Process) → is_queued p ps ≡ false
    → AllByRecursion (λ (x : Process). IsSome (get m x.vpid)) ps
    → AllByRecursion (λ (x : Process). IsSome (get (remove m p) x.vpid)) ps
still-there m p [] apart there = tt
still-there m p (x ∷ xs) apart there =
    let tests = held-other p x xs apart in
    (subst IsSome (sym (get-remove_other nat_cmp_total nat_cmp-IsAntisymmetric m p x.vpid tests.0)) there.0, still-there m p xs tests.1 there.1)

pub no_more : {X : Type 0} (ps : List Process) (m : FinMap nat_cmp X) → IsTrue (is_distinct ps)
    → AllByRecursion (λ (x : Process). IsSome (get m x.vpid)) ps → length ps ≤ total (λ (x : X). 1) m
no_more [] m once there = omega arith
no_more {X} (p ∷ ps) m once there =
    let tests = once-apart (is_queued p.vpid ps) (is_distinct ps) once in
    let sum = total-remove nat_cmp_total (λ (x : X). 1) nat_cmp-IsAntisymmetric m p.vpid in
    let one = weight-some (get m p.vpid) there.0 in
    let rest = no_more ps (remove m p.vpid) tests.1 (still-there m p.vpid ps tests.0 there.1) in
    omega arith

-- the processes of the queue, and a child, are at home after a turn
there-after : (machines : Machines) (stops : Stops) (next p : ℕ) (own child : Option Machine) (ps : List Process)
    → IsSome own → AllByRecursion (IsPlaced machines stops next) ps
    → AllByRecursion (λ (x : Process). IsSome (get (with_child_machine (with_own machines p own) next child) x.vpid)) ps
there-after machines stops next p own child [] lives placed = tt
there-after machines stops next p own child (x ∷ xs) lives placed = (
  child-there (with_own machines p own) next child x.vpid
      (own-there machines p own x.vpid
      (λ _. lives) placed.0.home),
  there-after machines stops next p own child xs lives placed.1,
)

module _ (machines : Machines) (stops : Stops) (next p : ℕ) (own child : Option Machine) (ps : List Process)
    (once : IsTrue (is_distinct ps)) (placed : AllByRecursion (IsPlaced machines stops next) ps) where
  new_pid : is_queued next ps ≡ false
  new_pid = unheld machines stops next ps placed

  is_new : IsTrue (not (is_queued next ps))
  is_new = subst (λ b. IsTrue (not b)) (sym new_pid) refl

  -- with a child that is at home no more stand in the queue than have a key
  with-child : {X : Type 0} (m : FinMap nat_cmp X) → IsSome own → IsSome child
      → ((q : ℕ) → IsSome (get (with_child_machine (with_own machines p own) next child) q) → IsSome (get m q))
      → length ps + 1 ≤ length (keys m)
  with-child {X} m lives born key =
      let both : AllByRecursion (λ (x : Process). IsSome (get m x.vpid)) (owing_process next ∷ ps) =
      keyed (owing_process next ∷ ps)
      (child-home (with_own machines p own) next child born, there-after machines stops next p own child ps lives placed) in
      let more = no_more (owing_process next ∷ ps) m (subst (λ b. IsTrue (not b && is_distinct ps)) (sym new_pid) once) both in
      let same = keys-total m in
      omega arith
    where
      keyed : (xs : List Process)
          → AllByRecursion (λ (x : Process). IsSome (get (with_child_machine (with_own machines p own) next child) x.vpid)) xs
          → AllByRecursion (λ (x : Process). IsSome (get m x.vpid)) xs
      keyed [] h = tt
      keyed (x ∷ xs) h = (key x.vpid h.0, keyed xs h.1)

-- a child finds room
pub room-tests : (held : Bool) (n : ℕ) → held ≡ false → n + 1 ≤ 64 → IsTrue (not held && nat_lt n 64)
room-tests true n new few = cc
room-tests false n new few = grind (arith, nat_tests)

pub room : {X : Type 0} (machines : Machines) (stops : Stops) (next p : ℕ) (own child : Option Machine)
    (ps : List Process) (m : FinMap nat_cmp X) (served : Served)
    → IsTrue (is_distinct ps) → AllByRecursion (IsPlaced machines stops next) ps → FitsOwn served own
    → FitsChild next served child → length (keys m) ≤ 64
    → (is_end_of_all p served ≡ false → (q : ℕ) → IsSome (get (with_child_machine (with_own machines p own) next child) q) → IsSome (get m q))
    → IsTrue (has_room ps (settled_of served))
room machines stops next p own child ps m Done once placed lives born few key = refl
room machines stops next p own child ps m (Child vpid) once placed lives born few key =
    let more = with-child machines stops next p own child ps once placed m lives born.machine (key refl) in
    subst (λ n. IsTrue (not (is_queued n ps) && nat_lt (length ps) 64)) (sym born.is_next)
    (room-tests (is_queued next ps) (length ps) (unheld machines stops next ps placed) (omega arith))
room machines stops next p own child ps m (LastChild vpid) once placed lives born few key =
    subst (λ n. IsTrue (not (is_queued n ps))) (sym born.is_next) (is_new machines stops next p own child ps once placed)
room machines stops next p own child ps m Blocked once placed lives born few key = refl
room machines stops next p own child ps m Progress once placed lives born few key = refl
room machines stops next p own child ps m Ended once placed lives born few key = refl
room machines stops next p own child ps m (Unsupported number) once placed lives born few key = refl
