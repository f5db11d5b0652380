-- Processes that stand once, and what arrivals and moves make of them.
use Rattle.std.proofs.Common.{ℕ, Bool, zero, suc, ◌≡◌, ◌≢◌, ◌+◌, ◌-◌, ◌≤◌, ◌&&◌, ◌||◌, ◌==◌, true, false, not, cond, List, [], ◌∷◌, ◌++◌, map, length, get_or, slice_set, remove, take, drop, append-nil, IsTrue, refl, sym, ap, subst, ◌∙◌, ◌<◌, Option, Some, None, length-append, arith}
use Rattle.std.proofs.lemmas.List.{length-map, drop_all, take_all}
use Rattle.std.proofs.lemmas.Bool.Decides.{nat_tests}
use Rattle.std.proofs.lemmas.Grind.{get_or_default_zero}
use Rattle.std.specs.List.{filter}
use Rattle.dt_sched.specs.declared.queue.TheConstants.{QUEUE_LIMIT}
use Rattle.dt_sched.specs.declared.settled.Head.{Head}
use Rattle.dt_sched.specs.declared.settled.Head.TheVariants.{Ready, AllWait, Over}
use Rattle.dt_base.specs.declared.event.Verdict.{Verdict}
use Rattle.dt_sched.specs.inner.Queue.{IsQueue, owing_indices, indices_without_head, first_process, has_ready_head, after_turn_of_head}
use Rattle.dt_sched.specs.declared.process.Process.{Process}
use Rattle.dt_sched.specs.declared.process.Phase.TheVariants.{Ran}
use Rattle.dt_sched.specs.declared.settled.Settled.{Settled}
use Rattle.dt_sched.specs.declared.settled.Settled.TheVariants.{Again, Child, LastChild, Waits as Blocked, Moved, Gone, Stopped}
use Rattle.dt_sched.specs.Core.{is_queued, is_distinct, owing_vpids, is_owing, is_vpid_waiting, process_after_arrival, processes_after_turn, IsOngoing, CoreView, IsReady, head, queue_head, head_unless_over, is_segment_count, have_segment_counts}
use Rattle.dt_sched.specs.Order.{blocked_after, verdict_after}

-- two arrivals at one process
pub arrived_at-twice : (p q first second : ℕ) (x : Process) → p ≢ q
    → process_after_arrival p first (process_after_arrival q second x) ≡ process_after_arrival q second (process_after_arrival p first x)
arrived_at-twice p q first second x apart = grind (arith, nat_tests)

pub arrived-twice : (p q first second : ℕ) (xs : List Process) → p ≢ q
    → map (process_after_arrival p first) (map (process_after_arrival q second) xs) ≡ map (process_after_arrival q second) (map (process_after_arrival p first) xs)
arrived-twice p q first second [] apart = refl
arrived-twice p q first second (x ∷ xs) apart =
    grind (arith, arrived_at-twice p q first second x apart, arrived-twice p q first second xs apart)

-- an arrival moves no process
pub holds-arrived : (vpid cost other : ℕ) (xs : List Process)
    → is_queued other (map (process_after_arrival vpid cost) xs) ≡ is_queued other xs
holds-arrived vpid cost other [] = refl
holds-arrived vpid cost other (x ∷ xs) = grind (arith, nat_tests, holds-arrived vpid cost other xs)

pub each_once-arrived : (vpid cost : ℕ) (xs : List Process) → is_distinct (map (process_after_arrival vpid cost) xs) ≡ is_distinct xs
each_once-arrived vpid cost [] = refl
each_once-arrived vpid cost (x ∷ xs) =
    grind (arith, nat_tests, holds-arrived vpid cost x.vpid xs, each_once-arrived vpid cost xs)

-- a process that arrives owes no longer
pub owing-arrived : (vpid cost : ℕ) (xs : List Process)
    → owing_vpids (map (process_after_arrival vpid cost) xs) ≡ filter (λ other. not (other == vpid)) (owing_vpids xs)
owing-arrived vpid cost [] = refl
owing-arrived vpid cost (x ∷ xs) = grind (arith, nat_tests, owing-arrived vpid cost xs)

-- as many owe as there are, at most
pub length-owing : (xs : List Process) → length (owing_vpids xs) ≤ length xs
length-owing [] = omega arith
length-owing (x ∷ xs) = grind (arith, length-owing xs)

-- those before and those behind
pub holds-append : (vpid : ℕ) (xs ys : List Process) → is_queued vpid (xs ++ ys) ≡ (is_queued vpid xs || is_queued vpid ys)
holds-append vpid [] ys = refl
holds-append vpid (x ∷ xs) ys = grind (arith, nat_tests, holds-append vpid xs ys)

pub owing-append : (xs ys : List Process) → owing_vpids (xs ++ ys) ≡ owing_vpids xs ++ owing_vpids ys
owing-append [] ys = refl
owing-append (x ∷ xs) ys = grind (arith, owing-append xs ys)

-- a new process at the tail
pub each_once-push : (xs : List Process) (x : Process) → IsTrue (is_distinct xs) → is_queued x.vpid xs ≡ false
    → IsTrue (is_distinct (xs ++ x ∷ []))
each_once-push [] x once new = grind arith
each_once-push (y ∷ ys) x once new = grind (arith, nat_tests, each_once-push ys x, holds-append y.vpid ys (x ∷ []))

pub ruleset at_the_tail = (length-owing, owing-append, each_once-push, holds-append)

second-of : (a b : Bool) → IsTrue (a && b) → IsTrue b
second-of true b both = both
second-of false b both = grind arith

-- an arrival leaves those among which the process is not
pub absent-arrived : (vpid cost : ℕ) (xs : List Process) → is_queued vpid xs ≡ false → map (process_after_arrival vpid cost) xs ≡ xs
absent-arrived vpid cost [] absent = refl
absent-arrived vpid cost (x ∷ xs) absent = grind (arith, nat_tests, absent-arrived vpid cost xs)

-- a process that stands at an index is there
pub holds-index : (vpid k : ℕ) (xs : List Process) (d : Process) → k < length xs → (get_or xs k d).vpid ≡ vpid
    → is_queued vpid xs ≡ true
holds-index vpid k [] d within is = absurd (omega arith)
holds-index vpid zero (x ∷ xs) d within is = grind (arith, nat_tests)
holds-index vpid (suc k) (x ∷ xs) d within is = grind (arith, nat_tests, holds-index vpid k xs d (omega arith) is)

-- the process at an index gets its cost, and the others stay
pub arrived-index : (vpid cost k : ℕ) (xs : List Process) (p q : Process) → k < length xs → IsTrue (is_distinct xs)
    → p ≡ get_or xs k p → q ≡ get_or xs k q → p.vpid ≡ vpid
    → slice_set xs k (record { vpid = q.vpid; phase = Ran cost }) ≡ map (process_after_arrival vpid cost) xs
arrived-index vpid cost k [] p q within each here there is = absurd (omega arith)
arrived-index vpid cost zero (x ∷ xs) p q within each here there is = grind (arith, nat_tests, absent-arrived vpid cost xs)
arrived-index vpid cost (suc k) (x ∷ xs) p q within each here there is =
    let held = holds-index vpid k xs p (omega arith) (ap (λ (x : Process). x.vpid) (sym here) ∙ is) in
    grind (arith, nat_tests, arrived-index vpid cost k xs p q (omega arith) (second-of (not (is_queued x.vpid xs)) (is_distinct xs) each) here there is)

-- a virtual pid is one of these
abbrev pub among : ℕ → List ℕ → Bool
among vpid [] = false
among vpid (x ∷ xs) = (x == vpid) || among vpid xs

-- none of these stands there twice
abbrev pub once : List ℕ → Bool
once [] = true
once (x ∷ xs) = not (among x xs) && once xs

-- the others
abbrev pub without : ℕ → List ℕ → List ℕ
without vpid xs = filter (λ other. not (other == vpid)) xs

-- none of those that owe is there twice
pub among-owing : (vpid : ℕ) (xs : List Process) → is_queued vpid xs ≡ false → among vpid (owing_vpids xs) ≡ false
among-owing vpid [] absent = refl
among-owing vpid (x ∷ xs) absent = grind (arith, nat_tests, among-owing vpid xs)

pub once-owing : (xs : List Process) → IsTrue (is_distinct xs) → IsTrue (once (owing_vpids xs))
once-owing [] each = each
once-owing (x ∷ xs) each = grind (arith, nat_tests, once-owing xs, among-owing x.vpid xs)

-- what is taken away at an index is taken away wherever it stands
pub absent-without : (vpid : ℕ) (xs : List ℕ) → among vpid xs ≡ false → without vpid xs ≡ xs
absent-without vpid [] absent = refl
absent-without vpid (x ∷ xs) absent = grind (arith, nat_tests, absent-without vpid xs)

pub among-index : (vpid k : ℕ) (xs : List ℕ) (d : ℕ) → k < length xs → get_or xs k d ≡ vpid → among vpid xs ≡ true
among-index vpid k [] d within is = absurd (omega arith)
among-index vpid zero (x ∷ xs) d within is = grind (arith, nat_tests)
among-index vpid (suc k) (x ∷ xs) d within is = grind (arith, nat_tests, among-index vpid k xs d (omega arith) is)

pub without-index : (vpid k : ℕ) (xs : List ℕ) (d : ℕ) → k < length xs → IsTrue (once xs) → d ≡ get_or xs k d → d ≡ vpid
    → remove xs k ≡ without vpid xs
without-index vpid k [] d within each here is = absurd (omega arith)
without-index vpid zero (x ∷ xs) d within each here is = grind (arith, nat_tests, absent-without vpid xs)
without-index vpid (suc k) (x ∷ xs) d within each here is =
    let held = among-index vpid k xs d (omega arith) (sym here ∙ is) in
    grind (arith, nat_tests, without-index vpid k xs d (omega arith) (second-of (not (among x xs)) (once xs) each) here is)

-- one that waits is before or behind
pub waits_append : (vpid : ℕ) (xs ys : List Process) → is_vpid_waiting vpid (xs ++ ys) ≡ (is_vpid_waiting vpid xs || is_vpid_waiting vpid ys)
waits_append vpid [] ys = refl
waits_append vpid (x ∷ xs) ys = grind (arith, nat_tests, waits_append vpid xs ys)

-- as many indices as processes owe
pub length-from : (first : ℕ) (xs : List Process) → length (owing_indices first xs) ≡ length (owing_vpids xs)
length-from first [] = refl
length-from first (x ∷ xs) = grind (arith, length-from (first + 1) xs)

-- the indices of those before and of those behind
pub from-append : (first : ℕ) (xs ys : List Process)
    → owing_indices first (xs ++ ys) ≡ owing_indices first xs ++ owing_indices (first + length xs) ys
from-append first [] ys = grind arith
from-append first (x ∷ xs) ys = grind (arith, from-append (first + 1) xs ys)

-- all move up by one
pub from-moved_up : (first : ℕ) (xs : List Process) → indices_without_head (owing_indices (first + 1) xs) ≡ owing_indices first xs
from-moved_up first [] = refl
from-moved_up first (x ∷ xs) = grind (arith, from-moved_up (first + 1) xs)

-- a process stands at an index, where the first of all has this one
pub record StandsAt (first index vpid : ℕ) (xs : List Process) : Type 0 where
  pub behind : ℕ
  pub is : index ≡ first + behind
  pub within : behind < length xs
  pub there : (d : Process) → (get_or xs behind d).vpid ≡ vpid

stands-by : (first n : ℕ) (x : Process) (xs : List Process) (d e : ℕ) (b : Bool)
    → n < length (cond b (x.vpid ∷ owing_vpids xs) (owing_vpids xs))
    → ((m : ℕ) → m < length (owing_vpids xs) → StandsAt (first + 1) (get_or (owing_indices (first + 1) xs) m d) (get_or (owing_vpids xs) m e) xs)
    → StandsAt first (get_or (cond b (first ∷ owing_indices (first + 1) xs) (owing_indices (first + 1) xs)) n d)
    (get_or (cond b (x.vpid ∷ owing_vpids xs) (owing_vpids xs)) n e) (x ∷ xs)
stands-by first zero x xs d e true within rest = record { behind = 0; is = omega arith; within = omega arith; there = λ d. refl }
stands-by first (suc n) x xs d e true within rest =
    let h = rest n (omega arith) in
    record { behind = suc h.behind; is = omega (arith, h.is); within = omega (arith, h.within); there = h.there }
stands-by first n x xs d e false within rest =
    let h = rest n within in
    record { behind = suc h.behind; is = omega (arith, h.is); within = omega (arith, h.within); there = h.there }

-- each that owes stands at its index
pub stands : (first n : ℕ) (xs : List Process) (d e : ℕ) → n < length (owing_vpids xs)
    → StandsAt first (get_or (owing_indices first xs) n d) (get_or (owing_vpids xs) n e) xs
stands first n [] d e within = absurd (omega arith)
stands first n (x ∷ xs) d e within = stands-by first n x xs d e (is_owing x.phase) within (λ m less. stands (first + 1) m xs d e less)

owing-held : (n : ℕ) (xs : List Process) (e : ℕ) → n < length (owing_vpids xs) → is_queued (get_or (owing_vpids xs) n e) xs ≡ true
owing-held n xs e within =
    let h = stands 0 n xs 0 e within in
    holds-index (get_or (owing_vpids xs) n e) h.behind xs (record { vpid = 0; phase = Ran 0 }) h.within
    (h.there (record { vpid = 0; phase = Ran 0 }))

removed-by : (first n cost e : ℕ) (x : Process) (xs : List Process) (b : Bool) → is_owing x.phase ≡ b
    → is_queued x.vpid xs ≡ false → n < length (cond b (x.vpid ∷ owing_vpids xs) (owing_vpids xs))
    → ((m : ℕ) → m < length (owing_vpids xs) → remove (owing_indices (first + 1) xs) m
    ≡ owing_indices (first + 1) (map (process_after_arrival (get_or (owing_vpids xs) m e) cost) xs))
    → remove (cond b (first ∷ owing_indices (first + 1) xs) (owing_indices (first + 1) xs)) n
    ≡ owing_indices first (map (process_after_arrival (get_or (cond b (x.vpid ∷ owing_vpids xs) (owing_vpids xs)) n e) cost) (x ∷ xs))
removed-by first zero cost e x xs true is apart within rest = grind (arith, nat_tests, absent-arrived x.vpid cost xs)
removed-by first (suc n) cost e x xs true is apart within rest =
    let held = owing-held n xs e (omega arith) in
    let less = rest n (omega arith) in
    grind (arith, nat_tests)
removed-by first n cost e x xs false is apart within rest = let less = rest n within in grind (arith, nat_tests)

-- one that arrives owes no longer
pub indices-removed : (first n cost e : ℕ) (xs : List Process) → IsTrue (is_distinct xs) → n < length (owing_vpids xs)
    → remove (owing_indices first xs) n ≡ owing_indices first (map (process_after_arrival (get_or (owing_vpids xs) n e) cost) xs)
indices-removed first n cost e [] each within = absurd (omega arith)
indices-removed first n cost e (x ∷ xs) each within =
    removed-by first n cost e x xs (is_owing x.phase) refl (grind (arith, nat_tests)) within
    (λ m less. indices-removed (first + 1) m cost e xs (second-of (not (is_queued x.vpid xs)) (is_distinct xs) each) less)

pub owed-removed : (n cost e : ℕ) (xs : List Process) → IsTrue (is_distinct xs) → n < length (owing_vpids xs)
    → remove (owing_vpids xs) n ≡ owing_vpids (map (process_after_arrival (get_or (owing_vpids xs) n e) cost) xs)
owed-removed n cost e xs each within =
    without-index (get_or (owing_vpids xs) n e) n (owing_vpids xs) (get_or (owing_vpids xs) n e) within (once-owing xs each)
    (get_or_default_zero (owing_vpids xs) n e within ∙ sym (get_or_default_zero (owing_vpids xs) n (get_or (owing_vpids xs) n e) within)) refl
    ∙ sym (owing-arrived (get_or (owing_vpids xs) n e) cost xs)

-- as many indices as processes owe
pub index-there : (n : ℕ) (xs queue : List Process) (owed indices : List ℕ) → IsQueue xs owed indices → xs ≡ queue
    → n < length (owing_vpids queue) → n < length indices
index-there n xs queue owed indices table same within =
    let many = ap length table.placed ∙ length-from 0 xs ∙ ap (λ l. length (owing_vpids l)) same in omega arith

-- the process at the index that is kept beside its virtual pid
pub place-there : (n place : ℕ) (xs queue : List Process) (owed indices : List ℕ) → IsQueue xs owed indices → xs ≡ queue
    → n < length (owing_vpids queue) → place ≡ get_or indices n place → StandsAt 0 place (get_or (owing_vpids xs) n 0) xs
place-there n place xs queue owed indices table same within is =
    subst (λ p. StandsAt 0 p (get_or (owing_vpids xs) n 0) xs) (sym (is ∙ ap (λ l. get_or l n place) table.placed))
    (stands 0 n xs place 0 (subst (λ l. n < length (owing_vpids l)) (sym same) within))

-- the queue once that process has its cost
pub arrived-there : (n place cost : ℕ) (xs queue : List Process) (owed indices : List ℕ) (q : Process)
    → IsQueue xs owed indices → xs ≡ queue → n < length (owing_vpids queue) → place ≡ get_or indices n place
    → q ≡ get_or xs place q
    → slice_set xs place (record { vpid = q.vpid; phase = Ran cost }) ≡ map (process_after_arrival (get_or (owing_vpids xs) n 0) cost) xs
arrived-there n place cost xs queue owed indices q table same within is here =
    let h = place-there n place xs queue owed indices table same within is in
    let at : place ≡ h.behind = omega (arith, h.is) in
    arrived-index (get_or (owing_vpids xs) n 0) cost place xs q q (omega (arith, h.within)) table.each_once here here
    (ap (λ (x : Process). x.vpid) (here ∙ ap (λ k. get_or xs k q) at) ∙ h.there q)

-- the indices once all have moved up, as a whole
pub moved-whole : (len : ℕ) (new items : List ℕ) → len ≡ length items → new ≡ indices_without_head items
    → take len (new ++ drop (length new) items) ≡ indices_without_head items
moved-whole len new items size is =
    let same : length new ≡ length items = ap length is ∙ length-map items (λ index. index - 1) in
    ap (λ xs. take len (new ++ xs)) (drop_all (length new) items (omega (arith, same)))
    ∙ ap (take len) (append-nil new) ∙ take_all len new (omega (arith, same, size)) ∙ is

-- the table without its head
pub table-taken : (p : Process) (xs ys : List Process) (owed indices others : List ℕ) → IsQueue xs owed indices
    → xs ≡ p ∷ ys → is_owing p.phase ≡ false → others ≡ indices_without_head indices → IsQueue ys owed others
table-taken p xs ys owed indices others table joined ready up =
    let first = subst (λ l. IsQueue l owed indices) joined table in
    let few = first.few in
    record {
      each_once = second-of (not (is_queued p.vpid ys)) (is_distinct ys) first.each_once;
      few = omega arith;
      exact = first.exact ∙ ap (λ b. cond b (p.vpid ∷ owing_vpids ys) (owing_vpids ys)) ready;
      placed = up ∙ ap indices_without_head (first.placed ∙ ap (λ b. cond b (0 ∷ owing_indices 1 ys) (owing_indices 1 ys)) ready) ∙ from-moved_up 0 ys;
    }

-- what its turn costs is known of a head that is ready
pub ready-first : (p : Process) (xs ys queue : List Process) → xs ≡ queue → xs ≡ p ∷ ys → IsTrue (has_ready_head queue)
    → is_owing p.phase ≡ false
ready-first p xs ys queue same joined ready =
    let first : IsTrue (not (is_owing p.phase)) = subst (λ l. IsTrue (has_ready_head l)) (sym same ∙ joined) ready in
    grind (arith, nat_tests)

-- fewer owe than there is room for
pub owed-few : (xs queue : List Process) (owed indices : List ℕ) → IsQueue xs owed indices → xs ≡ queue
    → length queue < QUEUE_LIMIT → (length owed < QUEUE_LIMIT) × (length indices < QUEUE_LIMIT)
owed-few xs queue owed indices table same room =
    let size : length xs ≡ length queue = ap length same in
    let most = length-owing xs in
    let exact : length owed ≡ length (owing_vpids xs) = ap length table.exact in
    let placed : length indices ≡ length (owing_vpids xs) = ap length table.placed ∙ length-from 0 xs in
    (omega arith, omega arith)

-- the table after an arrival
pub table-arrived : (n cost e : ℕ) (xs queue ys : List Process) (owed left indices others : List ℕ)
    → IsQueue xs owed indices → xs ≡ queue → n < length (owing_vpids queue)
    → ys ≡ map (process_after_arrival (get_or (owing_vpids xs) n e) cost) xs
    → left ≡ remove owed n → others ≡ remove indices n → IsQueue ys left others
table-arrived n cost e xs queue ys owed left indices others table same inside new less fewer =
    let within = subst (λ l. n < length (owing_vpids l)) (sym same) inside in
    record {
      each_once = subst (λ l. IsTrue (is_distinct l)) (sym new) (subst IsTrue (sym (each_once-arrived _ cost xs)) table.each_once);
      few = rw (new, length-map) table.few;
      exact = rw (less, table.exact, new) (owed-removed n cost e xs table.each_once within);
      placed = rw (fewer, table.placed, new) (indices-removed 0 n cost e xs table.each_once within);
    }

-- the table with a new process
pub table-push : (xs queue ys : List Process) (x : Process) (index : ℕ) (owed more indices others : List ℕ)
    → IsQueue xs owed indices → xs ≡ queue → is_queued x.vpid queue ≡ false → length queue < QUEUE_LIMIT
    → index ≡ length xs → ys ≡ xs ++ x ∷ [] → more ≡ owed ++ owing_vpids (x ∷ [])
    → others ≡ indices ++ owing_indices index (x ∷ []) → IsQueue ys more others
table-push xs queue ys x index owed more indices others table same new fits last joined longer further =
    let size : length xs ≡ length queue = ap length same in
    let long : length ys ≡ length xs + 1 = ap length joined ∙ length-append xs (x ∷ []) in
    record {
      each_once = subst (λ l. IsTrue (is_distinct l)) (sym joined)
          (each_once-push xs x table.each_once (subst (λ l. is_queued x.vpid l ≡ false) (sym same) new));
      few = omega arith;
      exact = rw (longer, table.exact, joined) (sym (owing-append xs (x ∷ [])));
      placed = rw (further, table.placed, joined, last) (grind (arith, from-append 0 xs (x ∷ [])));
    }

-- process 1 lives on where there is no verdict
pub first-after : (p : Process) (rest : List Process) (blocked : ℕ) (turn : Settled) → IsTrue (is_queued 1 (p ∷ rest))
    → verdict_after p.vpid turn ≡ None
    → IsTrue (is_queued 1 (processes_after_turn p rest turn))
first-after p rest blocked Again first none = grind (arith, nat_tests, holds-append)
first-after p rest blocked (Child child) first none = grind (arith, nat_tests, holds-append)
first-after p rest blocked (LastChild child) first none = grind (arith, nat_tests, holds-append)
first-after p rest blocked Blocked first none = grind (arith, nat_tests, holds-append)
first-after p rest blocked Moved first none = grind (arith, nat_tests, holds-append)
first-after p rest blocked Gone first none = grind (arith, nat_tests, holds-append)
first-after p rest blocked (Stopped number) first none = grind (arith, nat_tests, holds-append)

-- a queue that holds a process is not empty
pub some : (vpid : ℕ) (xs : List Process) → IsTrue (is_queued vpid xs) → 0 < length xs
some vpid [] held = grind arith
some vpid (x ∷ xs) held = grind arith

-- no more turns in a row were blocked than there are processes where there is no verdict
pub fewer-after : (p : Process) (rest : List Process) (blocked : ℕ) (turn : Settled)
    → IsTrue (is_queued 1 (p ∷ rest)) → blocked < length (p ∷ rest)
    → verdict_after p.vpid turn ≡ None
    → blocked_after blocked turn ≤ length (processes_after_turn p rest turn)
fewer-after p rest blocked Again first below none = grind (arith, nat_tests, length-append {A = Process}, some)
fewer-after p rest blocked (Child child) first below none = grind (
  arith,
  nat_tests,
  length-append {A =
      Process},
  some,
)
fewer-after p rest blocked (LastChild child) first below none = grind (
  arith,
  nat_tests,
  length-append {A =
      Process},
  some,
)
fewer-after p rest blocked Blocked first below none = grind (arith, nat_tests, length-append {A = Process}, some)
fewer-after p rest blocked Moved first below none = grind (arith, nat_tests, length-append {A = Process}, some)
fewer-after p rest blocked Gone first below none = grind (arith, nat_tests, length-append {A = Process}, some)
fewer-after p rest blocked (Stopped number) first below none = grind (
  arith,
  nat_tests,
  length-append {A =
      Process},
  some,
)

-- a head is ready only where there is no verdict
pub none-ready : (verdict : Option Verdict) (blocked left : ℕ) (queue : List Process)
    → IsReady (head_unless_over verdict blocked left queue) → verdict ≡ None
none-ready None blocked left queue ready = refl
none-ready (Some v) blocked left queue ready = let e : Over v ≡ Ready ready.0 = ready.1 in cc

-- and only where not all wait
not-all : (b : Bool) (next : Head) → IsReady (cond b AllWait next) → b ≡ false
not-all false next ready = refl
not-all true next ready = let e : AllWait ≡ Ready ready.0 = ready.1 in cc

pub fewer-ready : (verdict : Option Verdict) (blocked left : ℕ) (queue : List Process)
    → IsReady (head_unless_over verdict blocked left queue) → blocked ≤ length queue → blocked < length queue
fewer-ready None blocked left queue ready most =
    let apart = not-all (blocked == length queue) (queue_head left queue) ready in grind (arith, nat_tests)
fewer-ready (Some v) blocked left queue ready most = let e : Over v ≡ Ready ready.0 = ready.1 in cc

going-at : (xs : List Process) (before : ℕ) (new : CoreView) (p : Process) (turn : Settled)
    → first_process xs ≡ Some p → IsTrue (is_queued 1 xs)
    → before < length xs → new.queue ≡ after_turn_of_head xs turn → new.blocked ≡ blocked_after before turn
    → verdict_after p.vpid turn ≡ None → IsOngoing new
going-at [] before new p turn first held below queue blocked none = absurd (omega arith)
going-at (x ∷ rest) before new p turn first held below queue blocked none =
    let same : x ≡ p = cc in
    let ended : verdict_after x.vpid turn ≡ None = rw same none in
    record {
      first = rw queue (first-after x rest before turn held ended);
      blocked = rw (blocked, queue) (fewer-after x rest before turn held below ended);
    }

-- the run goes on where there is no verdict
pub going-after : (old new : CoreView) (p : Process) (turn : Settled) → first_process old.queue ≡ Some p → IsOngoing old
    → IsReady (head old) → new.queue ≡ after_turn_of_head old.queue turn → new.blocked ≡ blocked_after old.blocked turn
    → new.verdict ≡ verdict_after p.vpid turn → new.verdict ≡ None → IsOngoing new
going-after old new p turn first going ready queue blocked verdict none =
    let fewer = fewer-ready old.verdict old.blocked old.left old.queue ready going.blocked in
    going-at old.queue old.blocked new p turn first going.first fewer queue blocked (sym verdict ∙ none)

-- counts stay those of segments
pub counted-arrived : (vpid cost : ℕ) (xs : List Process) → IsTrue (is_segment_count cost) → IsTrue (have_segment_counts xs)
    → IsTrue (have_segment_counts (map (process_after_arrival vpid cost) xs))
counted-arrived vpid cost [] count all = all
counted-arrived vpid cost (x ∷ xs) count all = grind (arith, nat_tests, counted-arrived vpid cost xs)

pub counted-append : (xs ys : List Process) → have_segment_counts (xs ++ ys) ≡ (have_segment_counts xs && have_segment_counts ys)
counted-append [] ys = refl
counted-append (x ∷ xs) ys = grind (arith, counted-append xs ys)

pub counted-after : (p : Process) (rest : List Process) (turn : Settled) → IsTrue (have_segment_counts (p ∷ rest))
    → IsTrue (have_segment_counts (processes_after_turn p rest turn))
counted-after p rest Again all = grind (arith, nat_tests, counted-append)
counted-after p rest (Child child) all = grind (arith, nat_tests, counted-append)
counted-after p rest (LastChild child) all = grind (arith, nat_tests, counted-append)
counted-after p rest Blocked all = grind (arith, nat_tests, counted-append)
counted-after p rest Moved all = grind (arith, nat_tests, counted-append)
counted-after p rest Gone all = grind (arith, nat_tests, counted-append)
counted-after p rest (Stopped number) all = grind (arith, nat_tests, counted-append)

pub counted-settled : (xs new : List Process) (turn : Settled) → IsTrue (have_segment_counts xs)
    → new ≡ after_turn_of_head xs turn → IsTrue (have_segment_counts new)
counted-settled [] new turn all same = rw same all
counted-settled (x ∷ rest) new turn all same = rw same (counted-after x rest turn all)
