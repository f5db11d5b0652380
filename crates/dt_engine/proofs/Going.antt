-- A run goes on by admissions and by segments, and what was written of it so far is a part of its report.
use Rattle.std.proofs.Common.{◌≡◌, ℕ, ◌<◌, Bool, true, false, cond, List, [], ◌∷◌, ◌++◌, length, Option, Some, None, Result, Ok, Err, refl, sym, ap, subst, ◌∙◌, arith, append-nil}
use Rattle.std.specs.Prelude.{IsSome, IfOk, OnOk}
use Rattle.std.specs.FinMap.{get}
use Rattle.std.proofs.lemmas.List.Concat.{flat_map-append}
use Rattle.dt_base.specs.declared.event.Event.{Event}
use Rattle.dt_base.specs.declared.event.Verdict.{Verdict}
use Rattle.dt_host.specs.Sink.{added, AddsPart}
use Rattle.dt_host.specs.World.{World}
use Rattle.dt_host.proofs.Growth.{adds_all, added-nil, added-added}
use Rattle.dt_image.specs.Report.{event_text, events_text}
use Rattle.dt_sched.specs.Core.{is_owing, owing_vpids}
use Rattle.dt_sched.specs.declared.process.Process.{Process}
use Rattle.dt_calls.specs.InCode.{shared_of, machines_at_home}
use Rattle.dt_engine.specs.declared.state.State.{State as StateInCode}
use Rattle.dt_engine.specs.declared.happening.Admitted.TheVariants as admitted
use Rattle.dt_engine.specs.Work.{Work}
use Rattle.dt_engine.specs.Turn.{State, Turn, head_pid, is_ended_verdict, turn}
use Rattle.dt_engine.specs.Run.{Run, run_of_turns, run_after_turn, after_events}
use Rattle.dt_engine.specs.Ahead.{Away, IsAway, HasHead, state_with_works, turn_with_works, with_all_segments}
use Rattle.dt_engine.specs.Playing.{Playing, rest_of, playing_with_all_segments}
use Rattle.dt_engine.specs.Admission.{admission, admission_by, answer_of_turn, awaited, awaited_of, is_ready_work}
use Rattle.dt_engine.specs.InPlay.{EngineView, playing_of, IsKept, IsInPlay}
use Rattle.dt_engine.specs.inner.InCode.{phase_in, works_in, state_of}
use Rattle.dt_engine.specs.Onward.{left_of, IsDone, left_with, Goes}
use Rattle.dt_engine.proofs.Turns.{run-by-turns, runs-alike, after-after}
use Rattle.dt_engine.proofs.Aways.{turn-away}
use Rattle.dt_engine.proofs.Queued.{pids}
use Rattle.dt_engine.proofs.Queueing.{awaited-by}
use Rattle.dt_engine.proofs.Happened.{adds_within, adds_after}

pub texts-append : (a b : List Event) → events_text (a ++ b) ≡ events_text a ++ events_text b
texts-append a b = flat_map-append event_text a b

-- after a turn the run is what showed in it, and what is left
turn-left : (t : Turn) (ws : Away) (v : Option Verdict) → t.verdict ≡ v
    → run_after_turn (turn_with_works ws t) v run_of_turns
    ≡ after_events t.events (rest_of (state_with_works ws t.next) v)
unfolding state_with_works
turn-left t ws None is =
    ap (λ v. after_events t.events (run_of_turns (state_with_works (cond (is_ended_verdict v) [] ws) t.next))) is
turn-left t ws (Some v) is = ap (λ events. record { events = events; verdict = v; last = t.next.shared }) (sym (append-nil t.events))

-- the head of a queue has its work at home, where nobody is awaited
ready-some : (found : Option Work) → is_ready_work found ≡ true → IsSome found
ready-some None ready = cc
ready-some (Some w) ready = refl

chosen-ready : (p : ℕ) (b : Bool) → cond b None (Some p) ≡ None → b ≡ true
chosen-ready p true is = refl
chosen-ready p false is = cc

pub has-head : (s : State) (head : Option ℕ) → head_pid s.schedule.order ≡ head → awaited_of s.works head ≡ None → HasHead s
has-head s None is none p e = cc
has-head s (Some q) is none p e =
    let same : q ≡ p = cc in
    subst (λ p. IsSome (get s.works p)) same (ready-some (get s.works q) (chosen-ready q (is_ready_work (get s.works q)) none))

-- an admission shows the first of what is left, and leaves the rest
by-admission : (e : Playing) (ws : Away) (v : Option Verdict) (late : Option ℕ) → e.verdict ≡ v → awaited e.state ≡ late
    → IsAway e.state ws
    → (let a = admission_by e v late in left_with e ws ≡ after_events a.events (left_with a.next ws))
by-admission e ws (Some v) late is who away = refl
by-admission e ws None (Some p) is who away = refl
by-admission e ws None None is who away =
    let t = turn e.state in
    let whole = turn-away ws e.state (has-head e.state (head_pid e.state.schedule.order) refl who) away in
    ap (rest_of (state_with_works ws e.state)) is
    ∙ run-by-turns (state_with_works ws e.state)
    ∙ ap (λ (t : Turn). run_after_turn t t.verdict run_of_turns) whole
    ∙ turn-left t ws t.verdict refl

pub admission-goes : (e : Playing) (ws : Away) → IsAway e.state ws
    → (let a = admission e in left_with e ws ≡ after_events a.events (left_with a.next ws))
unfolding admission
admission-goes e ws away = by-admission e ws e.verdict (awaited e.state) refl refl away

-- no works are away
pub none-away : (s : State) → IsAway s []
none-away s = record { given = λ q some. cc; apart = λ q some. cc }

pub goes-first : (e : Playing) (start : Option (List ℕ)) → Goes (left_of e) start e [] start
unfolding state_with_works
goes-first e start = record { shown = []; whole = refl; wrote = sym (added-nil start) }

module _ (all : Run) (start told : Option (List ℕ)) (e : Playing) (ws : Away) (h : Goes all start e ws told) where
  -- what was written so far is a part of what the run shows
  pub goes-part : AddsPart start told (events_text all.events)
  goes-part =
      let rest = left_with e ws in
      subst (AddsPart start told) (sym (ap (λ (r : Run). events_text r.events) h.whole ∙ texts-append h.shown rest.events))
      (adds_within start told (events_text h.shown) (events_text rest.events) (adds_all start told (events_text h.shown) h.wrote))

  -- an admission
  pub goes-admitted : (next : Playing) (new : Option (List ℕ)) → IsAway e.state ws → (let a = admission e in a.next ≡ next)
      → (let a = admission e in new ≡ added told (events_text a.events)) → Goes all start next ws new
  goes-admitted next new away is wrote =
      let a = admission e in
      subst (λ next. Goes all start next ws new) is
      (record {
        shown = h.shown ++ a.events;
        whole = h.whole ∙ ap (after_events h.shown) (admission-goes e ws away) ∙ after-after h.shown a.events (left_with a.next ws);
        wrote = wrote ∙ ap (λ told. added told (events_text a.events)) h.wrote
            ∙ added-added start (events_text h.shown) (events_text a.events)
            ∙ ap (added start) (sym (texts-append h.shown a.events));
      })

  -- and a part of what it shows
  pub part-admitted : (new : Option (List ℕ)) → IsAway e.state ws → (let a = admission e in AddsPart told new (events_text a.events))
      → AddsPart start new (events_text all.events)
  part-admitted new away part =
      let a = admission e in
      let rest = left_with a.next ws in
      subst (λ events. AddsPart start new (events_text events))
      (sym (ap (λ (r : Run). r.events) (h.whole ∙ ap (after_events h.shown) (admission-goes e ws away))))
      (subst (AddsPart start new)
      (sym (texts-append h.shown (a.events ++ rest.events) ∙ ap (λ text. events_text h.shown ++ text) (texts-append a.events rest.events)))
      (adds_after start told new (events_text h.shown) (events_text a.events ++ events_text rest.events) h.wrote
      (adds_within told new (events_text a.events) (events_text rest.events) part)))

-- segments that are run change nothing of what is left
pub left-alike : (s t : State) (v : Option Verdict) → with_all_segments s ≡ with_all_segments t → rest_of s v ≡ rest_of t v
unfolding with_all_segments
left-alike s t None is = runs-alike s t is
left-alike s t (Some v) is = ap (λ (s : State). record { events = []; verdict = v; last = s.shared }) is

pub goes-alike : (all : Run) (start told : Option (List ℕ)) (e next : Playing)
    → playing_with_all_segments next ≡ playing_with_all_segments e → Goes all start e [] told → Goes all start next [] told
unfolding state_with_works
goes-alike all start told e next is h = record {
  shown = h.shown;
  whole = h.whole ∙ ap (after_events h.shown)
      (left-alike e.state next.state e.verdict (sym (ap (λ (e : Playing). e.state) is))
      ∙ ap (rest_of next.state) (sym (ap (λ (e : Playing). e.verdict) is)));
  wrote = h.wrote;
}

-- where a verdict stands the run is over
pub goes-over : (all : Run) (start told : Option (List ℕ)) (e : EngineView) (w : World) (v : Verdict) → e.verdict ≡ Some v
    → Goes all start (playing_of e w) [] told → IsDone all start e w told
unfolding state_with_works
goes-over all start told e w v is h =
    let over : all ≡ record { events = h.shown; verdict = v; last = shared_of e.state.container.shared w } =
    h.whole ∙ ap (λ v. after_events h.shown (rest_of (state_of e.state w) v)) is
    ∙ ap (λ events. record { events = events; verdict = v; last = shared_of e.state.container.shared w }) (append-nil h.shown) in
    record {
      verdict = is ∙ ap Some (sym (ap (λ (r : Run). r.verdict) over));
      last = ap (λ (r : Run). r.last) over;
      wrote = h.wrote ∙ ap (λ events. added start (events_text events)) (sym (ap (λ (r : Run). r.events) over));
    }

-- what is told by an answer
turn-not-late : (v : Option Verdict) (p : ℕ) → answer_of_turn v ≡ admitted.NotArrived p → ⊥
turn-not-late None p is = cc
turn-not-late (Some v) p is = cc

turn-over : (v : Option Verdict) (w : Verdict) → answer_of_turn v ≡ admitted.Over w → v ≡ Some w
turn-over None w is = cc
turn-over (Some v) w is = cc

late-by : (e : Playing) (v : Option Verdict) (late : Option ℕ) (p : ℕ)
    → (let a = admission_by e v late in a.answer ≡ admitted.NotArrived p)
    → (let a = admission_by e v late in a.next ≡ e) × (late ≡ Some p)
late-by e (Some v) late p is = cc
late-by e None (Some q) p is = (refl, cc)
late-by e None None p is = let t = turn e.state in absurd (turn-not-late t.verdict p is)

late-answer : (e : Playing) (p : ℕ) → (let a = admission e in a.answer ≡ admitted.NotArrived p)
    → (let a = admission e in a.next ≡ e) × (awaited e.state ≡ Some p)
unfolding admission
late-answer e p is = late-by e e.verdict (awaited e.state) p is

over-by : (e : Playing) (v : Option Verdict) (late : Option ℕ) (w : Verdict) → e.verdict ≡ v
    → (let a = admission_by e v late in a.answer ≡ admitted.Over w)
    → (let a = admission_by e v late in let n = a.next in n.verdict ≡ Some w)
over-by e (Some v) late w stands is = let same : v ≡ w = cc in stands ∙ ap Some same
over-by e None (Some p) w stands is = cc
over-by e None None w stands is = let t = turn e.state in turn-over t.verdict w is

-- after the answer that the run is over a verdict stands
pub over-stands : (e next : Playing) (w : Verdict) → (let a = admission e in a.answer ≡ admitted.Over w)
    → (let a = admission e in a.next ≡ next) → next.verdict ≡ Some w
unfolding admission
over-stands e next w is to =
    sym (ap (λ (e : Playing). e.verdict) to) ∙ over-by e e.verdict (awaited e.state) w refl is

-- where the head is awaited some process owes
owes-first : (s : StateInCode) (w : World) (p : ℕ) (queue : List Process) → s.core.queue ≡ queue → IsKept s
    → awaited (state_of s w) ≡ Some p → 0 < length (owing_vpids queue)
owes-first s w p [] is kept late =
    let works = works_in (machines_at_home s.container.places) (phase_in s.core.queue s.stops) in
    let none : awaited (state_of s w) ≡ None = ap (λ ps. awaited_of works (head_pid (pids ps))) is in
    let bad : None ≡ Some p = sym none ∙ late in cc
owes-first s w p (x ∷ rest) is kept late = by_owing (is_owing x.phase) refl
  where
    by_owing : (b : Bool) → is_owing x.phase ≡ b → 0 < length (cond b (x.vpid ∷ owing_vpids rest) (owing_vpids rest))
    by_owing true owes = omega arith
    by_owing false owes = let bad : None ≡ Some p = sym (awaited-by s w x rest false is kept owes) ∙ late in cc

pub owes-late : (e : Playing) (next : EngineView) (w : World) (p : ℕ) → IsInPlay next
    → (let a = admission e in a.answer ≡ admitted.NotArrived p) → (let a = admission e in a.next ≡ playing_of next w)
    → 0 < length (owing_vpids next.state.core.queue)
owes-late e next w p whole is to =
    let late = late-answer e p is in
    owes-first next.state w p next.state.core.queue refl whole.kept
    (ap (λ (e : Playing). awaited e.state) (sym (sym late.0 ∙ to)) ∙ late.1)

-- what holds of each answer
pub if-answer : {T E : Type 0} → (r : Result T E) (P : Type 0) (Q : T → Type 0) → OnOk r P → IfOk r (λ a. Q a → P)
if-answer (Ok a) P Q h = λ _. h
if-answer (Err e) P Q h = tt
