-- What a turn costs, that the turns until a verdict don't depend on how many are allowed, and that segments which ran ahead
-- change no run.
use Rattle.std.proofs.Common.{◌≡◌, ℕ, zero, suc, ◌+◌, ◌-◌, ◌≤◌, Bool, true, false, cond, List, [], ◌++◌, Option, Some, None, refl, sym, ap, ◌∙◌, arith, add-one, append_assoc, nat_le}
use Rattle.std.proofs.lemmas.Bool.Decides.{nat_tests}
use Rattle.std.specs.FinMap.{get}
use Rattle.dt_base.specs.declared.event.Event.{Event}
use Rattle.dt_base.specs.declared.event.Verdict.{Verdict}
use Rattle.dt_base.specs.declared.event.Verdict.TheVariants.{Budget}
use Rattle.dt_sched.specs.declared.settled.Settled.{Settled as Told}
use Rattle.dt_calls.specs.Container.{Shared}
use Rattle.dt_calls.specs.Settle.{ProcessTurn, turn_of_machine}
use Rattle.dt_calls.specs.Timers.{earliest_of}
use Rattle.dt_rv64.specs.declared.segments.Seg.{Seg}
use Rattle.dt_sched.specs.declared.process.Phase.{Phase}
use Rattle.dt_sched.specs.declared.process.Phase.TheVariants.{Owes, Ran, Waits}
use Rattle.dt_sched.specs.Order.{Schedule, schedule_after_turn, is_all_waiting, schedule_after_wake}
use Rattle.dt_engine.specs.Work.{Work, Prepared, prepared_in, prepared_of}
use Rattle.dt_engine.specs.Turn.{State, Turn, Act, settled_of, act, paid_act, unpaid_act, act_by_earliest, act_unless_over, act_after_waiting, act_of_turn, turn_of_work, turn_of_head, head_pid, turn}
use Rattle.dt_engine.specs.Run.{Run, RunByTurns, run_of_turns, run_at_most, run_after_turn, after_events}
use Rattle.dt_engine.specs.Ahead.{with_all_segments, turn_with_all_segments, RunsAlike}
use Rattle.dt_engine.proofs.Aheads.{turn-same}

-- after an act with no verdict less is left than a bound
abbrev IsCheaper : ℕ → Act → Type 0
IsCheaper bound a = a.verdict ≡ None → a.schedule.left + 1 ≤ bound

-- likewise after a turn
abbrev pub Costs : ℕ → Turn → Type 0
Costs bound t = t.verdict ≡ None → t.next.schedule.left + 1 ≤ bound

cost-least : (w : Work) (phase : Phase Seg) → let d = prepared_in w phase in 1 ≤ d.cost
cost-least w Owes = omega arith
cost-least w (Ran seg) = omega arith
cost-least w Waits = omega arith

prepared-costs : (w : Work) → let d = prepared_of w in 1 ≤ d.cost
unfolding prepared_of
prepared-costs w = cost-least w w.phase

-- where all wait then no more is left
waits-cheaper : (bound : ℕ) (a : Act) → IsCheaper bound a → IsCheaper bound (act_after_waiting a)
unfolding act_after_waiting schedule_after_wake
waits-cheaper bound a cheaper = by_verdict a.verdict refl
  where
    by_earliest : (due : Option ℕ) → a.verdict ≡ None → IsCheaper bound (act_by_earliest a due)
    by_earliest None running = λ e. cc
    by_earliest (Some due) running = λ e. cheaper running

    by_all : (all : Bool) → a.verdict ≡ None → IsCheaper bound (cond all (act_by_earliest a (earliest_of a.shared)) a)
    by_all true running = by_earliest (earliest_of a.shared) running
    by_all false running = cheaper

    by_verdict : (v : Option Verdict) → a.verdict ≡ v → IsCheaper bound (act_unless_over a v)
    by_verdict None is = by_all (is_all_waiting a.schedule) is
    by_verdict (Some v) is = cheaper

-- what becomes of the process costs no more
after-left : (q : Schedule) (p : ℕ) (t : Told) → let to = schedule_after_turn q p t in to.left ≡ q.left
unfolding schedule_after_turn
after-left q p t = refl

settled-cheaper : (q : Schedule) (p bound : ℕ) (w : Work) (r : ProcessTurn) → q.left + 1 ≤ bound
    → IsCheaper bound (act_of_turn q p w r)
unfolding act_of_turn
settled-cheaper q p bound w r h = λ _. let same = after-left q p (settled_of r.served) in omega arith

billed-cheaper : (c : Shared) (q : Schedule) (next p : ℕ) (d : Prepared) (b : Bool) → 1 ≤ d.cost → nat_le d.cost q.left ≡ b
    → IsCheaper q.left (cond b (paid_act c (record q { left = q.left - d.cost }) next p d) (unpaid_act c q d.work))
unfolding paid_act
billed-cheaper c q next p d true least e =
    let r = turn_of_machine c next p d.stop d.work.machine in
    waits-cheaper q.left (act_of_turn (record q { left = q.left - d.cost }) p d.work r)
    (settled-cheaper (record q { left = q.left - d.cost }) p q.left d.work r (grind (arith, nat_tests, least)))
billed-cheaper c q next p d false least e = λ e. cc

act-cheaper : (c : Shared) (q : Schedule) (next p : ℕ) (d : Prepared) → 1 ≤ d.cost → IsCheaper q.left (act c q next p d)
unfolding act
act-cheaper c q next p d least = billed-cheaper c q next p d (nat_le d.cost q.left) least refl

taken-costs : (s : State) (p : ℕ) (found : Option Work) → Costs s.schedule.left (turn_of_work s p found)
taken-costs s p None = λ e. cc
taken-costs s p (Some w) = act-cheaper s.shared s.schedule s.next p (prepared_of w) (prepared-costs w)

headed-costs : (s : State) (head : Option ℕ) → Costs s.schedule.left (turn_of_head s head)
headed-costs s None = λ e. cc
headed-costs s (Some p) = taken-costs s p (get s.works p)

-- after a turn with no verdict less is left
pub turn-costs : (s : State) → Costs s.schedule.left (turn s)
unfolding turn
turn-costs s = headed-costs s (head_pid s.schedule.order)

go_on-same : (v : Option Verdict) (t : Turn) (f g : State → Run) → (v ≡ None → f t.next ≡ g t.next)
    → run_after_turn t v f ≡ run_after_turn t v g
go_on-same (Some verdict) t f g same = refl
go_on-same None t f g same = ap (after_events t.events) (same refl)

-- as many turns as the budget pays for are enough
run_at_most-enough : (n a b : ℕ) (s : State) → a ≤ n → b ≤ n → s.schedule.left + 1 ≤ a → s.schedule.left + 1 ≤ b
    → run_at_most a s ≡ run_at_most b s
unfolding run_at_most
run_at_most-enough n zero b s an bn la lb = absurd (omega arith)
run_at_most-enough n (suc a) zero s an bn la lb = absurd (omega arith)
run_at_most-enough zero (suc a) (suc b) s an bn la lb = absurd (omega arith)
run_at_most-enough (suc n) (suc a) (suc b) s an bn la lb =
    let t = turn s in
    go_on-same t.verdict t (run_at_most a) (run_at_most b) (λ e.
    let less = turn-costs s e in
    run_at_most-enough n a b t.next (omega arith) (omega arith) (omega arith) (omega arith))

-- turns until a verdict: a turn, and then the turns from the next state
pub run-by-turns : RunByTurns
unfolding run_at_most run_of_turns
run-by-turns s =
    let t = turn s in
    ap (λ n. run_at_most n s) (add-one s.schedule.left) ∙ go_on-same t.verdict t (run_at_most s.schedule.left) run_of_turns (λ e.
    let less = turn-costs s e in
    run_at_most-enough s.schedule.left s.schedule.left (t.next.schedule.left + 1) t.next (omega arith) (omega arith)
    (omega arith) (omega arith))

-- of two turns that are the same once all segments were run, with runs that agree on such states
go_on-ahead : (f : State → Run) → ((a b : State) → with_all_segments a ≡ with_all_segments b → f a ≡ f b) → (t u : Turn) (v : Option Verdict)
    → t.verdict ≡ v → turn_with_all_segments t ≡ turn_with_all_segments u → run_after_turn t v f ≡ run_after_turn u v f
unfolding with_all_segments
go_on-ahead f agree t u (Some verdict) e is = ap
    (λ (t : Turn). record { events = t.events; verdict = verdict; last = t.next.shared }) is
go_on-ahead f agree t u None e is = λ i. after_events ((is i).events) (agree t.next u.next (ap (λ (t : Turn). t.next) is) i)

run_at_most-alike : (n : ℕ) (a b : State) → with_all_segments a ≡ with_all_segments b → run_at_most n a ≡ run_at_most n b
unfolding run_at_most with_all_segments
run_at_most-alike zero a b is = ap (λ (s : State). record { events = []; verdict = Budget; last = s.shared }) is
run_at_most-alike (suc n) a b is =
    let t = turn a in
    let u = turn b in
    let same = turn-same a b is in
    go_on-ahead (run_at_most n) (run_at_most-alike n) t u t.verdict refl same
    ∙ ap (λ v. run_after_turn u v (run_at_most n)) (ap (λ (t : Turn). t.verdict) same)

pub runs-alike : RunsAlike
unfolding run_of_turns with_all_segments
runs-alike a b is = run_at_most-alike (a.schedule.left + 1) a b is ∙ ap (λ (s : State). run_at_most (s.schedule.left + 1) b) is

pub after-after : (a b : List Event) (r : Run) → after_events a (after_events b r) ≡ after_events (a ++ b) r
after-after a b r = ap (λ events. record { events = events; verdict = r.verdict; last = r.last })
    (sym (append_assoc a b r.events))
