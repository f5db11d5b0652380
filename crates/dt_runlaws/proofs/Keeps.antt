-- What a turn leaves of a state, also where it ends the run: each live process has its work still, and stands once in the order
-- of turns.
use Rattle.std.proofs.Common.{◌≡◌, ◌≢◌, ℕ, ◌-◌, ◌<◌, ◌==◌, Bool, true, false, cond, List, [], ◌∷◌, drop, Option, Some, None, refl, sym, subst, arith, nat_le}
use Rattle.std.specs.Prelude.{IsSome, IsTrue, option_map}
use Rattle.std.specs.List.{AllByRecursion}
use Rattle.std.specs.Cmp.{nat_cmp_total}
use Rattle.std.specs.FinMap.{empty, get, insert, nat_cmp-IsAntisymmetric}
use Rattle.dt_tables.proofs.Maps.{at_insert, at_remove, get-insert_same}
use Rattle.dt_base.specs.declared.event.Verdict.{Verdict}
use Rattle.dt_base.specs.declared.event.Verdict.TheVariants as verdict
use Rattle.dt_rv64.specs.declared.machine.Machine.{Machine}
use Rattle.dt_calls.specs.declared.container.Served.{Served}
use Rattle.dt_calls.specs.declared.container.Served.TheVariants.{Done, Child, LastChild, Blocked, Progress, Ended, Unsupported}
use Rattle.dt_calls.specs.Settle.{ProcessTurn, is_end_of_all, turn_of_machine, with_own, next_after}
use Rattle.dt_calls.specs.Timers.{earliest_of}
use Rattle.dt_calls.proofs.Fits.{Fits, served-fits}
use Rattle.dt_sched.specs.declared.settled.Settled.{Settled}
use Rattle.dt_sched.specs.Order.{Schedule, order_after_turn, verdict_after, schedule_after_turn, verdict_of_turn, is_all_waiting, schedule_after_wake}
use Rattle.dt_engine.specs.Work.{Work, Works, Prepared, owing_work, prepared_of}
use Rattle.dt_engine.specs.Turn.{State, Turn, Act, settled_of, own_work_after, act_of_turn, act_after_waiting, paid_act, unpaid_act, act, is_ended_verdict, with_child_work, works_after_act, turn_of_act, turn_of_work, turn_of_head, head_pid, turn}
use Rattle.dt_engine.specs.InPlay.{IsFull}
use Rattle.dt_engine.specs.inner.InCode.{turn_by_earliest, turn_unless_over, turn_after_waiting}
use Rattle.dt_engine.proofs.Kept.{all-weaker, own-lives, child-is}
use Rattle.dt_engine.proofs.Noted.{fits-next}
use Rattle.dt_engine.proofs.Placed.{born-child, next-later, next-child}
use Rattle.dt_rounds.proofs.Rounds.{all-more}
use Rattle.dt_engine.proofs.Standings.{GoesOn, IsNext, makes_child}
use Rattle.dt_engine.proofs.Waited.{turn-waits}
use Rattle.dt_runlaws.specs.Shown.{AreDistinct, HasDistinctOrder}
use Rattle.dt_runlaws.proofs.Pids.{distinct-more, distinct-two-more, all-two-more}

-- the others, or none where all have ended
left-all : (P : ℕ → Type 0) (b : Bool) (ps : List ℕ) → AllByRecursion P ps → AllByRecursion P (cond b [] ps)
left-all P true ps all = tt
left-all P false ps all = all

left-distinct : (b : Bool) (ps : List ℕ) → AreDistinct ps → AreDistinct (cond b [] ps)
left-distinct true ps once = tt
left-distinct false ps once = once

none-left : (P : ℕ → Type 0) (b : Bool) (ps : List ℕ) → b ≡ true → AllByRecursion P (cond b [] ps)
none-left P true ps over = tt
none-left P false ps over = cc

not-ended : (b : Bool) (v : Verdict) → b ≡ false → is_ended_verdict (cond b (Some v) None) ≡ false
not-ended true v on = cc
not-ended false v on = refl

-- the order after a turn of p, behind which the others stood
module _ (p : ℕ) (rest : List ℕ) where
  abbrev order-then : Served → List ℕ
  order-then served = order_after_turn p p p (λ child. child) rest (settled_of served)

  all-after : (P : ℕ → Type 0) (served : Served) → AllByRecursion P rest → (GoesOn served → P p)
      → (IsTrue (makes_child served) → (q : ℕ) → IsNext q served → P q) → AllByRecursion P (order-then served)
  all-after P Done others own child = all-more P rest p others (own tt)
  all-after P (Child vpid) others own child = all-two-more P rest p vpid others (own tt) (child refl vpid refl)
  all-after P (LastChild vpid) others own child = left-all P (p == 1) _ (all-more P rest vpid others (child refl vpid refl))
  all-after P Blocked others own child = all-more P rest p others (own tt)
  all-after P Progress others own child = all-more P rest p others (own tt)
  all-after P Ended others own child = left-all P (p == 1) rest others
  all-after P (Unsupported number) others own child = (own tt, others)

  distinct-after : (served : Served) → AreDistinct (p ∷ rest)
      → (IsTrue (makes_child served) → (q : ℕ) → IsNext q served → (q ≢ p) × AllByRecursion (λ x. x ≢ q) rest)
      → AreDistinct (order-then served)
  distinct-after Done once child = distinct-more rest p once.1 once.0
  distinct-after (Child vpid) once child =
      let new = child refl vpid refl in distinct-two-more rest p vpid once.1 once.0 new.1 new.0
  distinct-after (LastChild vpid) once child =
      let new = child refl vpid refl in left-distinct (p == 1) _ (distinct-more rest vpid once.1 new.1)
  distinct-after Blocked once child = distinct-more rest p once.1 once.0
  distinct-after Progress once child = distinct-more rest p once.1 once.0
  distinct-after Ended once child = left-distinct (p == 1) rest once.1
  distinct-after (Unsupported number) once child = once

  -- at the end of process 1 nobody is left
  all-over : (P : ℕ → Type 0) (served : Served) → is_end_of_all p served ≡ true → AllByRecursion P (order-then served)
  all-over P Done over = cc
  all-over P (Child vpid) over = cc
  all-over P (LastChild vpid) over = none-left P (p == 1) _ over
  all-over P Blocked over = cc
  all-over P Progress over = cc
  all-over P Ended over = none-left P (p == 1) rest over
  all-over P (Unsupported number) over = cc

-- and at no other time have all ended
goes-on : (p : ℕ) (served : Served) → is_end_of_all p served ≡ false → is_ended_verdict (verdict_after p (settled_of served)) ≡ false
goes-on p Done on = refl
goes-on p (Child vpid) on = refl
goes-on p (LastChild vpid) on = not-ended (p == 1) verdict.Ended on
goes-on p Blocked on = refl
goes-on p Progress on = refl
goes-on p Ended on = not-ended (p == 1) verdict.Ended on
goes-on p (Unsupported number) on = refl

-- works after a turn
own-there : (works : Works) (p : ℕ) (own : Option Work) (q : ℕ) → q ≢ p → IsSome (get works q) → IsSome (get (with_own works p own) q)
own-there works p None q apart was =
    at_remove nat_cmp_total nat_cmp-IsAntisymmetric (λ found. IsSome found) works p q (λ e. absurd (apart e)) (λ _. was)
own-there works p (Some w) q apart was =
    at_insert nat_cmp_total nat_cmp-IsAntisymmetric (λ found. IsSome found) works p w q (λ _. refl) (λ _. was)

own-here : (works : Works) (p : ℕ) (own : Option Work) → IsSome own → IsSome (get (with_own works p own) p)
own-here works p None some = cc
own-here works p (Some w) some = subst IsSome (sym (get-insert_same nat_cmp_total nat_cmp-IsAntisymmetric works p w)) refl

child-there : (works : Works) (next : ℕ) (child : Option Machine) (q : ℕ) → IsSome (get works q) → IsSome (get (with_child_work works next child) q)
child-there works next None q was = was
child-there works next (Some m) q was =
    at_insert nat_cmp_total nat_cmp-IsAntisymmetric (λ found. IsSome found) works next (owing_work m) q (λ _. refl) (λ _. was)

child-here : (works : Works) (next : ℕ) (child : Option Machine) → IsSome child → IsSome (get (with_child_work works next child) next)
child-here works next None some = cc
child-here works next (Some m) some =
    subst IsSome (sym (get-insert_same nat_cmp_total nat_cmp-IsAntisymmetric works next (owing_work m))) refl

some-mapped : (f : Machine → Work) (found : Option Machine) → IsSome found → IsSome (option_map f found)
some-mapped f None some = cc
some-mapped f (Some m) some = refl

-- both of those that each has
all-two-facts : (P Q R : ℕ → Type 0) → ((x : ℕ) → P x → Q x → R x) → (xs : List ℕ) → AllByRecursion P xs → AllByRecursion Q xs
    → AllByRecursion R xs
all-two-facts P Q R both [] p q = tt
all-two-facts P Q R both (x ∷ xs) p q = (both x p.0 q.0, all-two-facts P Q R both xs p.1 q.1)

-- each live process has its work, and stands once in the order
pub record Keeps (n : State) : Type 0 where
  pub full : IsFull n
  pub ordered : HasDistinctOrder n

-- so it is also with what follows where all wait
module _ (t : Turn) (keeps : Keeps t.next) where
  later-keeps : (due : Option ℕ) → (let u = turn_by_earliest t due in Keeps u.next)
  unfolding schedule_after_wake
  later-keeps None = keeps
  later-keeps (Some due) = record { full = keeps.full; ordered = record { once = keeps.ordered.once; given = keeps.ordered.given } }

  all-keeps : (all : Bool) (due : Option ℕ) → (let u : Turn = cond all (turn_by_earliest t due) t in Keeps u.next)
  all-keeps true due = later-keeps due
  all-keeps false due = keeps

  over-keeps : (v : Option Verdict) → (let u = turn_unless_over t v in Keeps u.next)
  over-keeps None = all-keeps (is_all_waiting t.next.schedule) (earliest_of t.next.shared)
  over-keeps (Some v) = keeps

  waited-keeps : (let u = turn_after_waiting t in Keeps u.next)
  unfolding turn_after_waiting
  waited-keeps = over-keeps t.verdict

waits-keeps : (s : State) (p : ℕ) (a : Act) → (let t = turn_of_act s p a in Keeps t.next) → (let u = turn_of_act s p (act_after_waiting a) in Keeps u.next)
waits-keeps s p a keeps = subst (λ (u : Turn). Keeps u.next) (sym (turn-waits s p a)) (waited-keeps (turn_of_act s p a) keeps)

module _ (s : State) (p : ℕ) (rest : List ℕ) (order : s.schedule.order ≡ p ∷ rest) (once : AreDistinct (p ∷ rest))
    (given : AllByRecursion (λ q. q < s.next) (p ∷ rest)) (full : AllByRecursion (λ x. IsSome (get s.works x)) (p ∷ rest)) where
  -- a turn that is paid for
  module _ (w : Work) (r : ProcessTurn) (fits : Fits s.next r) where
    abbrev t : Settled
    t = settled_of r.served

    abbrev own : Option Work
    own = own_work_after w t r.own

    abbrev works : Works
    works = with_child_work (with_own s.works p own) s.next r.child

    new-apart : IsTrue (makes_child r.served) → (q : ℕ) → IsNext q r.served → (q ≢ p) × AllByRecursion (λ x. x ≢ q) rest
    new-apart made q is =
        let next = child-is s.next q r.served made is (fits-next s.next r.served r.child fits.child) in
        let first = given.0 in (
          λ e. absurd (omega arith),
          all-weaker (λ x. x < s.next) (λ x. x ≢ q) (λ x less e. absurd (omega arith)) rest given.1,
        )

    given-after : AllByRecursion (λ q. q < next_after s.next r.child) (order-then p rest r.served)
    given-after =
        let later = next-later s.next r.child in
        let first = given.0 in
        all-after p rest (λ q. q < next_after s.next r.child) r.served
        (all-weaker (λ q. q < s.next) (λ q. q < next_after s.next r.child) (λ q less. omega arith) rest given.1)
        (λ _. omega arith)
        (λ made q is.
        let next = child-is s.next q r.served made is (fits-next s.next r.served r.child fits.child) in
        let less = next-child s.next r.child (born-child s.next r.served r.child fits.child made) in
        omega arith)

    works-after : AllByRecursion (λ x. IsSome (get works x)) (order-then p rest r.served)
    works-after =
        all-after p rest (λ x. IsSome (get works x)) r.served
        (all-two-facts (λ x. x ≢ p) (λ x. IsSome (get s.works x)) (λ x. IsSome (get works x))
        (λ x apart some. child-there _ s.next r.child x (own-there s.works p own x apart some)) rest once.0 full.1)
        (λ goes. child-there _ s.next r.child p (own-here s.works p own (some-mapped _ r.own (own-lives r.served r.own fits.own goes))))
        (λ made x is. subst (λ n. IsSome (get works n)) (sym (child-is s.next x r.served made is (fits-next s.next r.served r.child fits.child)))
        (child-here _ s.next r.child (born-child s.next r.served r.child fits.child made)))

    full-after : (over : Bool) → is_end_of_all p r.served ≡ over
        → AllByRecursion (λ x. IsSome (get (cond (is_ended_verdict (verdict_after p t)) empty works) x)) (order-then p rest r.served)
    full-after true over = all-over p rest _ r.served over
    full-after false on =
        subst (λ ended. AllByRecursion (λ x. IsSome (get (cond ended empty works) x)) (order-then p rest r.served))
        (sym (goes-on p r.served on)) works-after

    paid-keeps : (q : Schedule) → q.order ≡ p ∷ rest → (let a = act_of_turn q p w r in let n = turn_of_act s p a in Keeps n.next)
    unfolding act_of_turn schedule_after_turn verdict_of_turn works_after_act
    paid-keeps q stands =
        let ended = is_ended_verdict (verdict_after p t) in
        record {
          full = subst (λ ps. AllByRecursion (λ x. IsSome (get (cond ended empty works) x)) (order_after_turn p p p (λ child. child) (drop 1 ps) t))
              (sym stands) (full-after (is_end_of_all p r.served) refl);
          ordered = record {
            once = subst (λ ps. AreDistinct (order_after_turn p p p (λ child. child) (drop 1 ps) t)) (sym stands)
                (distinct-after p rest r.served once new-apart);
            given = subst (λ ps. AllByRecursion (λ q. q < next_after s.next r.child) (order_after_turn p p p (λ child. child) (drop 1 ps) t))
                (sym stands) given-after;
          };
        }

  -- one that isn't
  unpaid-keeps : (w : Work) → (let a = unpaid_act s.shared s.schedule w in let n = turn_of_act s p a in Keeps n.next)
  unfolding works_after_act
  unpaid-keeps w = record {
    full = subst (AllByRecursion (λ x. IsSome (get (insert s.works p w) x))) (sym order)
        (all-weaker (λ x. IsSome (get s.works x)) (λ x. IsSome (get (insert s.works p w) x))
        (λ x some. at_insert nat_cmp_total nat_cmp-IsAntisymmetric (λ found. IsSome found) s.works p w x (λ _. refl) (λ _. some))
        (p ∷ rest) full);
    ordered = record { once = subst AreDistinct (sym order) once; given = subst (AllByRecursion (λ q. q < s.next)) (sym order) given };
  }

  act-keeps : (d : Prepared) (pays : Bool)
      → (let a = cond pays (paid_act s.shared (record s.schedule { left = s.schedule.left - d.cost }) s.next p d) (unpaid_act s.shared s.schedule d.work) in
      let n = turn_of_act s p a in Keeps n.next)
  unfolding paid_act
  act-keeps d true =
      let q = record s.schedule { left = s.schedule.left - d.cost } in
      let r = turn_of_machine s.shared s.next p d.stop d.work.machine in
      waits-keeps s p (act_of_turn q p d.work r) (paid-keeps d.work r (served-fits s.shared s.next p d.stop d.work.machine) q order)
  act-keeps d false = unpaid-keeps d.work

  work-keeps : (found : Option Work) → IsSome found → (let n = turn_of_work s p found in Keeps n.next)
  unfolding act
  work-keeps None some = cc
  work-keeps (Some w) some = let d = prepared_of w in act-keeps d (nat_le d.cost s.schedule.left)

head-keeps : (s : State) (order : List ℕ) → s.schedule.order ≡ order → AreDistinct order → AllByRecursion (λ q. q < s.next) order
    → AllByRecursion (λ x. IsSome (get s.works x)) order → (let n = turn_of_head s (head_pid order) in Keeps n.next)
head-keeps s [] is once given full = record {
  full = subst (AllByRecursion (λ x. IsSome (get s.works x))) (sym is) tt;
  ordered = record { once = subst AreDistinct (sym is) tt; given = subst (AllByRecursion (λ q. q < s.next)) (sym is) tt };
}
head-keeps s (p ∷ rest) is once given full = work-keeps s p rest is once given full (get s.works p) full.0

pub turn-keeps : (s : State) → HasDistinctOrder s → IsFull s → (let n = turn s in Keeps n.next)
unfolding turn
turn-keeps s ordered full = head-keeps s s.schedule.order refl ordered.once ordered.given full
