-- What a turn leaves of a state, unless it ends the run: each live process has its work still, and the others live on.
use Rattle.std.proofs.Common.{◌≡◌, ◌≢◌, ℕ, ◌-◌, ◌==◌, ◌||◌, Bool, true, false, cond, List, [], ◌∷◌, ◌++◌, drop, Option, Some, None, refl, sym, ap, subst, ◌∙◌, arith, nat_le}
use Rattle.std.specs.Prelude.{⊤, IsSome, IsTrue, option_map}
use Rattle.std.proofs.lemmas.Bool.Decides.{nat_tests}
use Rattle.std.specs.List.{AllByRecursion, list_any}
use Rattle.std.specs.Cmp.{nat_cmp_total}
use Rattle.std.specs.FinMap.{empty, get, nat_cmp-IsAntisymmetric}
use Rattle.dt_tables.proofs.Maps.{at_insert, at_remove, get-insert_same}
use Rattle.dt_base.specs.declared.event.Verdict.{Verdict}
use Rattle.dt_rv64.specs.declared.machine.Machine.{Machine}
use Rattle.dt_calls.specs.declared.container.Served.{Served}
use Rattle.dt_calls.specs.declared.container.Served.TheVariants.{Done, Child, LastChild, Blocked, Progress, Ended, Unsupported}
use Rattle.dt_calls.specs.Settle.{ProcessTurn, is_end_of_all, turn_of_machine, with_own}
use Rattle.dt_calls.specs.Timers.{earliest_of}
use Rattle.dt_calls.proofs.Fits.{Fits, served-fits}
use Rattle.dt_sched.specs.Order.{Schedule, order_after_turn, verdict_after, schedule_after_turn, verdict_of_turn, is_all_waiting, schedule_after_wake}
use Rattle.dt_engine.specs.Work.{Work, Works, Prepared, owing_work, prepared_of}
use Rattle.dt_engine.specs.Turn.{State, Turn, Act, settled_of, own_work_after, act_of_turn, act_after_waiting, paid_act, unpaid_act, act, is_ended_verdict, with_child_work, works_after_act, turn_of_act, turn_of_work, turn_of_head, head_pid, turn}
use Rattle.dt_engine.specs.Happenings.{is_live}
use Rattle.dt_engine.specs.InPlay.{IsFull}
use Rattle.dt_engine.specs.inner.InCode.{turn_by_earliest, turn_unless_over, turn_after_waiting}
use Rattle.dt_engine.proofs.Kept.{own-lives, child-is}
use Rattle.dt_engine.proofs.Noted.{fits-next}
use Rattle.dt_engine.proofs.Placed.{born-child}
use Rattle.dt_engine.proofs.Waited.{turn-waits}
use Rattle.dt_engine.proofs.Standings.{GoesOn, IsNext, makes_child}

all-append : (P : ℕ → Type 0) (xs ys : List ℕ) → AllByRecursion P xs → AllByRecursion P ys → AllByRecursion P (xs ++ ys)
all-append P [] ys h k = k
all-append P (x ∷ xs) ys h k = (h.0, all-append P xs ys h.1 k)

apart-first : (p q : ℕ) (qs : List ℕ) → ((q == p) || list_any (λ x. x == p) qs) ≡ false → (q ≢ p) × (list_any (λ x. x == p) qs ≡ false)
apart-first p q qs apart = (λ e. absurd (grind (arith, nat_tests)), grind (arith, nat_tests))

unless-all : (P : ℕ → Type 0) (all : Bool) (ps : List ℕ) → all ≡ false → AllByRecursion P ps → AllByRecursion P (cond all [] ps)
unless-all P true ps on h = cc
unless-all P false ps on h = h

-- a property of pids after a turn of p: of another that had one, of p if it goes on, and of a child
module _ (P Q : ℕ → Type 0) (p : ℕ) (others : (q : ℕ) → q ≢ p → P q → Q q) where
  rest-after : (rest : List ℕ) → list_any (λ q. q == p) rest ≡ false → AllByRecursion P rest → AllByRecursion Q rest
  rest-after [] apart all = tt
  rest-after (q ∷ qs) apart all =
      let tests = apart-first p q qs apart in (others q tests.0 all.0, rest-after qs tests.1 all.1)

  behind : (rest more : List ℕ) → list_any (λ q. q == p) rest ≡ false → AllByRecursion P rest → AllByRecursion Q more
      → AllByRecursion Q (rest ++ more)
  behind rest more apart all new = all-append Q rest more (rest-after rest apart all) new

  order-after : (rest : List ℕ) (served : Served) → (GoesOn served → Q p)
      → (IsTrue (makes_child served) → (q : ℕ) → IsNext q served → Q q)
      → list_any (λ q. q == p) rest ≡ false → is_end_of_all p served ≡ false → AllByRecursion P rest
      → AllByRecursion Q (order_after_turn p p p (λ child. child) rest (settled_of served))
  order-after rest Done own child apart on all = behind rest _ apart all (own tt, tt)
  order-after rest (Child vpid) own child apart on all = behind rest _ apart all (own tt, (child refl vpid refl, tt))
  order-after rest (LastChild vpid) own child apart on all =
      unless-all Q (p == 1) _ on (behind rest (vpid ∷ []) apart all (child refl vpid refl, tt))
  order-after rest Blocked own child apart on all = behind rest _ apart all (own tt, tt)
  order-after rest Progress own child apart on all = behind rest _ apart all (own tt, tt)
  order-after rest Ended own child apart on all = unless-all Q (p == 1) rest on (rest-after rest apart all)
  order-after rest (Unsupported number) own child apart on all = (own tt, rest-after rest apart all)

-- one of the others stays in the order
or-more : (b x y : Bool) → (x ≡ true → y ≡ true) → (b || x) ≡ true → (b || y) ≡ true
or-more true x y more is = refl
or-more false x y more is = more is

or-true : (b x : Bool) → x ≡ true → (b || x) ≡ true
or-true true x is = refl
or-true false x is = is

any-before : (test : ℕ → Bool) (xs ys : List ℕ) → list_any test xs ≡ true → list_any test (xs ++ ys) ≡ true
any-before test [] ys is = cc
any-before test (x ∷ xs) ys is = or-more (test x) (list_any test xs) (list_any test (xs ++ ys)) (any-before test xs ys) is

unless-any : (test : ℕ → Bool) (all : Bool) (ps : List ℕ) → all ≡ false → list_any test ps ≡ true → list_any test (cond all [] ps) ≡ true
unless-any test true ps on is = cc
unless-any test false ps on is = is

order-keeps : (test : ℕ → Bool) (p : ℕ) (rest : List ℕ) (served : Served) → is_end_of_all p served ≡ false → list_any test rest ≡ true
    → list_any test (order_after_turn p p p (λ child. child) rest (settled_of served)) ≡ true
order-keeps test p rest Done on is = any-before test rest _ is
order-keeps test p rest (Child vpid) on is = any-before test rest _ is
order-keeps test p rest (LastChild vpid) on is = unless-any test (p == 1) _ on (any-before test rest (vpid ∷ []) is)
order-keeps test p rest Blocked on is = any-before test rest _ is
order-keeps test p rest Progress on is = any-before test rest _ is
order-keeps test p rest Ended on is = unless-any test (p == 1) rest on is
order-keeps test p rest (Unsupported number) on is = or-true (test p) (list_any test rest) is

-- where no verdict came not all have ended
ends-by : (b : Bool) (v : Verdict) → cond b (Some v) None ≡ None → b ≡ false
ends-by true v is = cc
ends-by false v is = refl

goes-on : (p : ℕ) (served : Served) → verdict_after p (settled_of served) ≡ None → is_end_of_all p served ≡ false
goes-on p Done is = refl
goes-on p (Child vpid) is = refl
goes-on p (LastChild vpid) is = ends-by (p == 1) _ is
goes-on p Blocked is = refl
goes-on p Progress is = refl
goes-on p Ended is = ends-by (p == 1) _ is
goes-on p (Unsupported number) is = refl

-- works after a turn
own-there : (works : Works) (p : ℕ) (own : Option Work) (q : ℕ) → q ≢ p → IsSome (get works q) → IsSome (get (with_own works p own) q)
own-there works p None q apart was =
    at_remove nat_cmp_total nat_cmp-IsAntisymmetric (λ found. IsSome found) works p q (λ e. absurd (apart e)) (λ _. was)
own-there works p (Some w) q apart was =
    at_insert nat_cmp_total nat_cmp-IsAntisymmetric (λ found. IsSome found) works p w q (λ _. refl) (λ _. was)

own-here : (works : Works) (p : ℕ) (own : Option Work) → IsSome own → IsSome (get (with_own works p own) p)
own-here works p None some = cc
own-here works p (Some w) some = subst IsSome (sym (get-insert_same nat_cmp_total nat_cmp-IsAntisymmetric works p w)) refl

child-there : (works : Works) (next : ℕ) (child : Option Machine) (q : ℕ) → IsSome (get works q) → IsSome (get (with_child_work works next child) q)
child-there works next None q was = was
child-there works next (Some m) q was =
    at_insert nat_cmp_total nat_cmp-IsAntisymmetric (λ found. IsSome found) works next (owing_work m) q (λ _. refl) (λ _. was)

child-here : (works : Works) (next : ℕ) (child : Option Machine) → IsSome child → IsSome (get (with_child_work works next child) next)
child-here works next None some = cc
child-here works next (Some m) some =
    subst IsSome (sym (get-insert_same nat_cmp_total nat_cmp-IsAntisymmetric works next (owing_work m))) refl

some-mapped : (f : Machine → Work) (found : Option Machine) → IsSome found → IsSome (option_map f found)
some-mapped f None some = cc
some-mapped f (Some m) some = refl

-- what a turn leaves, unless it ends the run
pub record TurnsOn (s n : State) : Type 0 where
  pub full : IsFull n
  pub live : (q : ℕ) → head_pid s.schedule.order ≢ Some q → is_live q s ≡ true → is_live q n ≡ true

-- it leaves this also with what follows where all wait
module _ (s : State) (t : Turn) (on : t.verdict ≡ None → TurnsOn s t.next) where
  later-on : (due : Option ℕ) → t.verdict ≡ None → (let u = turn_by_earliest t due in u.verdict ≡ None → TurnsOn s u.next)
  unfolding schedule_after_wake
  later-on None running none = absurd cc
  later-on (Some due) running none = let kept = on running in record { full = kept.full; live = kept.live }

  all-on : (all : Bool) (due : Option ℕ) → t.verdict ≡ None → (let u : Turn = cond all (turn_by_earliest t due) t in u.verdict ≡ None → TurnsOn s u.next)
  all-on true due running none = later-on due running none
  all-on false due running none = on running

  over-on : (v : Option Verdict) → t.verdict ≡ v → (let u = turn_unless_over t v in u.verdict ≡ None → TurnsOn s u.next)
  over-on None is none = all-on (is_all_waiting t.next.schedule) (earliest_of t.next.shared) is none
  over-on (Some v) is none = on none

  waited-on : (let u = turn_after_waiting t in u.verdict ≡ None → TurnsOn s u.next)
  unfolding turn_after_waiting
  waited-on none = over-on t.verdict refl none

waits-on : (s : State) (p : ℕ) (a : Act) → (a.verdict ≡ None → TurnsOn s (let t = turn_of_act s p a in t.next))
    → (let u = turn_of_act s p (act_after_waiting a) in u.verdict ≡ None → TurnsOn s u.next)
waits-on s p a on =
    subst (λ (u : Turn). u.verdict ≡ None → TurnsOn s u.next) (sym (turn-waits s p a)) (waited-on s (turn_of_act s p a) on)

-- the head stands once in the order
abbrev pub IsHeadOnce : List ℕ → Type 0
IsHeadOnce [] = ⊤
IsHeadOnce (p ∷ ps) = list_any (λ q. q == p) ps ≡ false

left-other : (b left : Bool) → b ≡ false → (b || left) ≡ true → left ≡ true
left-other true left other is = cc
left-other false left other is = is

module _ (s : State) (p : ℕ) (rest : List ℕ) (order : s.schedule.order ≡ p ∷ rest) (once : list_any (λ q. q == p) rest ≡ false)
    (full : AllByRecursion (λ x. IsSome (get s.works x)) rest) where
  lives-behind : (q : ℕ) → head_pid s.schedule.order ≢ Some q → is_live q s ≡ true → list_any (λ x. x == q) rest ≡ true
  lives-behind q apart live =
      let other : p ≢ q = λ e. apart (ap head_pid order ∙ ap Some e) in
      left-other (p == q) (list_any (λ x. x == q) rest) (grind (arith, nat_tests))
      (sym (ap (λ ps. list_any (λ x. x == q) ps) order) ∙ live)

  -- a turn that is paid for
  paid-on : (q : Schedule) (w : Work) (r : ProcessTurn) → q.order ≡ p ∷ rest → Fits s.next r
      → (let a = act_of_turn q p w r in a.verdict ≡ None → TurnsOn s (let t = turn_of_act s p a in t.next))
  unfolding act_of_turn schedule_after_turn verdict_of_turn works_after_act
  paid-on q w r stands fits none =
      let t = settled_of r.served in
      let own = own_work_after w t r.own in
      let works = with_child_work (with_own s.works p own) s.next r.child in
      let on = goes-on p r.served none in
      let after = order-after (λ x. IsSome (get s.works x)) (λ x. IsSome (get works x)) p
      (λ x apart some. child-there _ s.next r.child x (own-there s.works p own x apart some))
      rest r.served
      (λ goes. child-there _ s.next r.child p (own-here s.works p own (some-mapped _ r.own (own-lives r.served r.own fits.own goes))))
      (λ made x is. subst (λ n. IsSome (get works n)) (sym (child-is s.next x r.served made is (fits-next s.next r.served r.child fits.child)))
      (child-here _ s.next r.child (born-child s.next r.served r.child fits.child made)))
      once on full in
      let there = subst (λ ps. AllByRecursion (λ x. IsSome (get works x)) (order_after_turn p p p (λ child. child) (drop 1 ps) t)) (sym stands) after in
      record {
        full = subst (λ v. AllByRecursion (λ x. IsSome (get (cond (is_ended_verdict v) empty works) x)) (order_after_turn p p p (λ child. child) (drop 1 q.order) t)) (sym none) there;
        live = λ x apart live. subst (λ ps. list_any (λ y. y == x) (order_after_turn p p p (λ child. child) (drop 1 ps) t) ≡ true) (sym stands)
            (order-keeps (λ y. y == x) p rest r.served on (lives-behind x apart live));
      }

  act-on : (d : Prepared) (pays : Bool)
      → (let a = cond pays (paid_act s.shared (record s.schedule { left = s.schedule.left - d.cost }) s.next p d) (unpaid_act s.shared s.schedule d.work) in
      a.verdict ≡ None → TurnsOn s (let t = turn_of_act s p a in t.next))
  unfolding paid_act
  act-on d true none =
      let q = record s.schedule { left = s.schedule.left - d.cost } in
      let r = turn_of_machine s.shared s.next p d.stop d.work.machine in
      waits-on s p (act_of_turn q p d.work r) (paid-on q d.work r order (served-fits s.shared s.next p d.stop d.work.machine)) none
  act-on d false none = absurd cc

  work-on : (found : Option Work) → IsSome found → (let t = turn_of_work s p found in t.verdict ≡ None → TurnsOn s t.next)
  unfolding act
  work-on None some none = absurd cc
  work-on (Some w) some none = let d = prepared_of w in act-on d (nat_le d.cost s.schedule.left) none

head-on : (s : State) (order : List ℕ) → s.schedule.order ≡ order → IsHeadOnce order → AllByRecursion (λ x. IsSome (get s.works x)) order
    → (let t = turn_of_head s (head_pid order) in t.verdict ≡ None → TurnsOn s t.next)
head-on s [] is once full none = absurd cc
head-on s (p ∷ rest) is once full none = work-on s p rest is once full.1 (get s.works p) full.0 none

pub turn-on : (s : State) → IsHeadOnce s.schedule.order → IsFull s → (let t = turn s in t.verdict ≡ None → TurnsOn s t.next)
unfolding turn
turn-on s once full none = head-on s s.schedule.order refl once full none
