-- Happenings in code: what each comes to, and what was written of those so far.
use Rattle.std.proofs.Common.{◌≡◌, ℕ, suc, ◌+◌, ◌<◌, ◌≤◌, ◌&&◌, Bool, true, false, cond, List, [], ◌++◌, length, take, drop, get_or, Option, Some, None, Result, Ok, Err, refl, sym, ap, subst, ◌∙◌, arith, add-one, drop-cons, append-nil, append_assoc, length-append}
use Rattle.std.specs.Prelude.{IfOk, OnOk, is_none}
use Rattle.std.proofs.Math.Seq.{take-append-add}
use Rattle.std.proofs.lemmas.List.{drop_all, take-append-le}
use Rattle.std.proofs.lemmas.List.Concat.{flat_map-append}
use Rattle.dt_base.specs.declared.event.Event.{Event}
use Rattle.dt_base.specs.declared.event.Verdict.{Verdict}
use Rattle.dt_host.specs.Sink.{added, AddsPart}
use Rattle.dt_host.proofs.Growth.{added-nil, added-added}
use Rattle.dt_image.specs.Report.{event_text, events_text}
use Rattle.dt_engine.specs.declared.error.RunErr.{RunErr}
use Rattle.dt_engine.specs.declared.happening.Admitted.{Admitted}
use Rattle.dt_engine.specs.declared.happening.Happening.{Happening}
use Rattle.dt_engine.specs.declared.happening.Happening.TheVariants.{Ran, Admit}
use Rattle.dt_engine.specs.Turn.{turn}
use Rattle.dt_engine.specs.Playing.{Playing, playing_with_all_segments}
use Rattle.dt_engine.specs.Admission.{Admission, admission, admission_by, answer_of_turn, awaited}
use Rattle.dt_engine.specs.Happenings.{Step, no_step, may_happen, step_of, step_of_turn, step_if_allowed}
use Rattle.dt_engine.specs.inner.InCode.{has_come}
use Rattle.dt_engine.specs.Played.{Played, none_played, played_then, played, admissions, turns}
use Rattle.dt_engine.proofs.Plays.{played-turns}

-- a part of the first bytes is a part of all, and so is a part of the next ones after the first
pub adds_within : (old new : Option (List ℕ)) (front back : List ℕ) → AddsPart old new front → AddsPart old new (front ++ back)
adds_within old new front back p = record {
  count = p.count;
  within = omega (arith, p.within, length-append front back);
  prefix = p.prefix ∙ ap (added old) (sym (take-append-le p.count front back p.within));
}

pub adds_after : (old mid new : Option (List ℕ)) (front back : List ℕ) → mid ≡ added old front → AddsPart mid new back
    → AddsPart old new (front ++ back)
adds_after old mid new front back is p = record {
  count = length front + p.count;
  within = omega (arith, p.within, length-append front back);
  prefix = p.prefix ∙ ap (λ told. added told (take p.count back)) is ∙ added-added old _ _
      ∙ ap (added old) (sym (take-append-add front back p.count));
}

-- what an admission leads to, where no verdict stood
abbrev pub step_of_admission : Admission → Step
step_of_admission a = record { next = a.next; events = a.events }

come-turn : (v : Option Verdict) → has_come (answer_of_turn v) ≡ true
come-turn None = refl
come-turn (Some v) = refl

step-by : (e : Playing) (late : Option ℕ)
    → cond (is_none late) (step_of_turn e None) (no_step e) ≡ step_of_admission (admission_by e None late)
step-by e None = refl
step-by e (Some p) = refl

may-by : (e : Playing) (late : Option ℕ) → is_none late ≡ (let a = admission_by e None late in has_come a.answer)
may-by e None = let t = turn e.state in sym (come-turn t.verdict)
may-by e (Some p) = refl

pub next-step : (e : Playing) → e.verdict ≡ None → step_if_allowed e Admit ≡ step_of_admission (admission e)
unfolding admission
next-step e none =
    ap (λ v. cond (is_none v && is_none (awaited e.state)) (step_of_turn e v) (no_step e)) none
    ∙ step-by e (awaited e.state)
    ∙ ap (λ v. step_of_admission (admission_by e v (awaited e.state))) (sym none)

pub next-may : (e : Playing) (answer : Admitted) → e.verdict ≡ None → (let a = admission e in a.answer ≡ answer)
    → may_happen e Admit ≡ has_come answer
unfolding admission
next-may e answer none is =
    ap (λ v. is_none v && is_none (awaited e.state)) none
    ∙ may-by e (awaited e.state)
    ∙ ap (λ v. let a = admission_by e v (awaited e.state) in has_come a.answer) (sym none)
    ∙ ap has_come is

-- where a verdict stands nothing is admitted
pub never-may : (e : Playing) (v : Verdict) → e.verdict ≡ Some v → may_happen e Admit ≡ false
never-may e v stands = ap (λ v. is_none v && is_none (awaited e.state)) stands

-- what may not happen leads to nothing
pub no-step : (e : Playing) (h : Happening) → may_happen e h ≡ false → step_if_allowed e h ≡ no_step e
no-step e h may = ap (λ b. cond b (step_of e h) (no_step e)) may

pub a-step : (e : Playing) (h : Happening) → may_happen e h ≡ true → step_if_allowed e h ≡ step_of e h
a-step e h may = ap (λ b. cond b (step_of e h) (no_step e)) may

-- so the run stays, and nothing is written
pub stays : (e next : Playing) (h : Happening) → may_happen e h ≡ false → (let t = step_if_allowed e h in t.next ≡ next) → e ≡ next
stays e next h may is = sym (ap (λ (t : Step). t.next) (no-step e h may)) ∙ is

pub unwritten : (e : Playing) (h : Happening) (told new : Option (List ℕ)) → may_happen e h ≡ false
    → (let t = step_if_allowed e h in new ≡ added told (events_text t.events)) → new ≡ told
unwritten e h told new may is = is ∙ ap (λ (t : Step). added told (events_text t.events)) (no-step e h may) ∙ added-nil told

-- a segment shows nothing
pub ran-shows : (e : Playing) (p : ℕ) → (let t = step_if_allowed e (Ran p) in t.events ≡ [])
ran-shows e p = by_may (may_happen e (Ran p))
  where
    by_may : (b : Bool) → (let t = cond b (step_of e (Ran p)) (no_step e) in t.events ≡ [])
    by_may true = refl
    by_may false = refl

-- some have happened, and others after them
abbrev pub played_on : ℕ → List Event → Played → Played
played_on n shown d = record {
  count = n + d.count;
  step = record { next = d.step.next; events = shown ++ d.step.events };
}

-- so many of some happenings have happened, and what they showed was written
pub record Plays (first : Playing) (hs : List Happening) (start : Option (List ℕ)) (n : ℕ) (now : Playing) (told : Option (List ℕ)) : Type 0 where
  pub shown : List Event
  pub whole : played first hs ≡ played_on n shown (played now (drop n hs))
  pub wrote : told ≡ added start (events_text shown)

texts-append : (a b : List Event) → events_text (a ++ b) ≡ events_text a ++ events_text b
texts-append a b = flat_map-append event_text a b

pub plays-first : (first : Playing) (hs : List Happening) (start : Option (List ℕ)) → Plays first hs start 0 first start
plays-first first hs start = record {
  shown = [];
  whole = λ i. let d = played first hs in record { count = (let z : d.count ≡ 0 + d.count = omega arith in z i); step = d.step };
  wrote = sym (added-nil start);
}

module _ (first : Playing) (hs : List Happening) (start : Option (List ℕ)) (n : ℕ) (e : Playing) (told : Option (List ℕ))
    (so : Plays first hs start n e told) where
  stops : played e (drop n hs) ≡ none_played e → played first hs ≡ record { count = n; step = record { next = e; events = so.shown } }
  stops none =
      so.whole ∙ ap (played_on n so.shown) none
      ∙ (λ i. record { count = (let z : n + 0 ≡ n = omega arith in z i); step = record { next = e; events = append-nil so.shown i } })

  module _ (d : Happening) (within : n < length hs) where
    abbrev h : Happening
    h = get_or hs n d

    abbrev s : Step
    s = step_if_allowed e h

    abbrev rest-played : Bool → Played
    rest-played b = cond b (let s = step_of e h in played_then s (played s.next (drop (suc n) hs))) (none_played e)

    from-here : played e (drop n hs) ≡ rest-played (may_happen e h)
    unfolding played
    from-here = ap (played e) (drop-cons hs n d within)

    -- what showed from here on begins with what this one shows
    begins : (b : Bool)
        → (rest : List Event) × ((let d = rest-played b in d.step.events) ≡ (let t = cond b (step_of e h) (no_step e) in t.events) ++ rest)
    begins true = (let t = step_of e h in let d = played t.next (drop (suc n) hs) in d.step.events, refl)
    begins false = ([], refl)

    shows : (let d = played first hs in d.step.events) ≡ so.shown ++ (s.events ++ (let b = begins (may_happen e h) in b.0))
    shows =
        ap (λ (d : Played). d.step.events) so.whole
        ∙ ap (λ (d : Played). so.shown ++ d.step.events) from-here
        ∙ ap (λ events. so.shown ++ events) (let b = begins (may_happen e h) in b.1)

    -- so a part of what it shows is a part of what all show
    pub part-more : (new : Option (List ℕ)) → AddsPart told new (events_text s.events)
        → (let d = played first hs in AddsPart start new (events_text d.step.events))
    part-more new part =
        let rest = let b = begins (may_happen e h) in b.0 in
        subst (λ events. AddsPart start new (events_text events)) (sym shows)
        (subst (AddsPart start new)
        (sym (texts-append so.shown (s.events ++ rest) ∙ ap (λ text. events_text so.shown ++ text) (texts-append s.events rest)))
        (adds_after start told new (events_text so.shown) (events_text s.events ++ events_text rest) so.wrote
        (adds_within told new (events_text s.events) (events_text rest) part)))

    -- where it may not happen those so far are all
    pub stopped : may_happen e h ≡ false → played first hs ≡ record { count = n; step = record { next = e; events = so.shown } }
    stopped may = stops (from-here ∙ ap rest-played may)

    -- and where it may there is one more
    more-played : (t : Step) (d : Played) → played_on n so.shown (played_then t d) ≡ played_on (n + 1) (so.shown ++ t.events) d
    more-played t d = λ i. record {
      count = (let z : n + (d.count + 1) ≡ n + 1 + d.count = omega arith in z i);
      step = record { next = d.step.next; events = sym (append_assoc so.shown t.events d.step.events) i };
    }

    pub one-more : (next : Playing) (new : Option (List ℕ)) → may_happen e h ≡ true → s.next ≡ next
        → new ≡ added told (events_text s.events) → Plays first hs start (n + 1) next new
    one-more next new may is wrote =
        let t = step_of e h in
        subst (λ next. Plays first hs start (n + 1) next new) is
        (record {
          shown = so.shown ++ s.events;
          whole = so.whole ∙ ap (played_on n so.shown) (from-here ∙ ap rest-played may)
              ∙ more-played t (played t.next (drop (suc n) hs))
              ∙ ap (λ k. played_on (n + 1) (so.shown ++ t.events) (played t.next (drop k hs))) (sym (add-one n))
              ∙ ap (λ (t : Step). played_on (n + 1) (so.shown ++ t.events) (played t.next (drop (n + 1) hs))) (sym (a-step e h may));
          wrote = wrote ∙ ap (λ told. added told (events_text s.events)) so.wrote
              ∙ added-added start (events_text so.shown) (events_text s.events)
              ∙ ap (added start) (sym (texts-append so.shown s.events));
        })

  -- at the end those so far are all
  pub ended : length hs ≤ n → played first hs ≡ record { count = n; step = record { next = e; events = so.shown } }
  unfolding played
  ended over = stops (ap (played e) (drop_all n hs over))

-- what happened, by turns
pub play-run : (r : Result ℕ RunErr) (e new : Playing) (hs : List Happening)
    → IfOk r (λ n. let d = played e hs in d.count ≡ n) → OnOk r (let d = played e hs in d.step.next ≡ new)
    → IfOk r (λ n. let t = turns (admissions (take n hs)) e in playing_with_all_segments new ≡ playing_with_all_segments t.next)
play-run (Ok n) e new hs count run =
    let come = played-turns e hs in
    subst (λ k. let t = turns (admissions (take k hs)) e in playing_with_all_segments new ≡ playing_with_all_segments t.next) count
    (ap playing_with_all_segments (sym run) ∙ come.run)
play-run (Err x) e new hs count run = tt

pub play-shown : (r : Result ℕ RunErr) (e : Playing) (hs : List Happening) (old new : Option (List ℕ))
    → IfOk r (λ n. let d = played e hs in d.count ≡ n)
    → OnOk r (let d = played e hs in new ≡ added old (events_text d.step.events))
    → IfOk r (λ n. let t = turns (admissions (take n hs)) e in new ≡ added old (events_text t.events))
play-shown (Ok n) e hs old new count wrote =
    let come = played-turns e hs in
    subst (λ k. let t = turns (admissions (take k hs)) e in new ≡ added old (events_text t.events)) count
    (wrote ∙ ap (λ events. added old (events_text events)) come.events)
play-shown (Err x) e hs old new count wrote = tt
