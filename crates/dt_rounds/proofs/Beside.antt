-- Turns that are taken beside machines that are lent.
use Rattle.std.proofs.Common.{◌≡◌, ◌≢◌, ℕ, ◌<◌, ◌≤◌, true, cond, List, [], ◌∷◌, Option, Some, None, refl, sym, ap, subst, ◌∙◌, arith}
use Rattle.std.specs.Prelude.{IsTrue}
use Rattle.std.specs.FinMap.{get}
use Rattle.dt_base.specs.declared.event.Verdict.{Verdict}
use Rattle.dt_calls.specs.Sound.{IsSoundContainer}
use Rattle.dt_host.specs.Sink.{added, AddsPart}
use Rattle.dt_host.specs.World.{World}
use Rattle.dt_host.proofs.Growth.{added-nil}
use Rattle.dt_image.specs.Report.{events_text}
use Rattle.dt_sched.specs.declared.process.Process.{Process}
use Rattle.dt_sched.specs.Core.{is_distinct, is_queued}
use Rattle.dt_rounds.specs.declared.lent.Lent.{Lent}
use Rattle.dt_engine.specs.Turn.{State, Turn, head_pid, is_ended_verdict, turn}
use Rattle.dt_engine.specs.Ahead.{Away, IsAway, HasHead, state_with_works, turn_with_works}
use Rattle.dt_engine.specs.Happenings.{is_live}
use Rattle.dt_engine.specs.Playing.{Playing, playing_after_turn}
use Rattle.dt_engine.specs.Admission.{admission, admission_by, awaited}
use Rattle.dt_engine.specs.Run.{Run}
use Rattle.dt_engine.specs.InPlay.{EngineView, playing_of, IsInPlay, steps_left}
use Rattle.dt_engine.specs.Onward.{left_with, Goes}
use Rattle.dt_rounds.specs.inner.Round.{lent_vpids, lent_works, IsBeside, IsLive, GoesOn}
use Rattle.dt_engine.proofs.Aways.{turn-away}
use Rattle.dt_engine.proofs.Going.{has-head, goes-admitted, part-admitted}
use Rattle.dt_engine.proofs.Kept.{all-weaker}
use Rattle.dt_engine.proofs.Numbers.{turn-apart, turn-later}
use Rattle.dt_engine.proofs.Orders.{IsHeadOnce, TurnsOn, turn-on}
use Rattle.dt_engine.proofs.Placed.{once-apart}
use Rattle.dt_engine.proofs.Queued.{pids}
use Rattle.dt_engine.proofs.Queueing.{all-both, queued-live}
use Rattle.dt_rounds.proofs.Rounds.{found-vpid}

-- what was lent is away
pub away-of : (e : Playing) (lents : List Lent) → IsBeside e lents → IsAway e.state (lent_works lents)
away-of e lents h = record {
  given = λ q some. found-vpid (λ p. p < e.state.next) lents q some h.given;
  apart = λ q some. found-vpid (λ p. get e.state.works p ≡ None) lents q some h.apart;
}

-- a head whose work is at home is none of those that were lent
head-other : (s : State) (q : ℕ) → HasHead s → get s.works q ≡ None → head_pid s.schedule.order ≢ Some q
head-other s q has none = λ is. let some = has q is in cc

-- unless it ends the run a turn sees only that works are away
away-next : (ws : Away) (s : State) (v : Option Verdict) (t : Turn) → t.verdict ≡ v → v ≡ None
    → (let n = turn_with_works ws t in n.next ≡ state_with_works ws t.next)
away-next ws s v t is none = ap (λ v. state_with_works (cond (is_ended_verdict v) [] ws) t.next) (is ∙ none)

-- a turn beside what was lent
module _ (e : Playing) (lents : List Lent) (h : IsBeside e lents) (has : HasHead e.state) (once : IsHeadOnce e.state.schedule.order)
    (running : e.verdict ≡ None) where
  abbrev ws : Away
  ws = lent_works lents

  abbrev t : Turn
  t = turn e.state

  whole : turn (state_with_works ws e.state) ≡ turn_with_works ws t
  whole = turn-away ws e.state has (away-of e lents h)

  with-works : IsHeadOnce (let s = state_with_works ws e.state in s.schedule.order)
  unfolding state_with_works
  with-works = once

  goes-on : t.verdict ≡ None → TurnsOn (state_with_works ws e.state) (state_with_works ws t.next)
  goes-on none =
      subst (TurnsOn (state_with_works ws e.state))
      (ap (λ (t : Turn). t.next) whole ∙ away-next ws e.state t.verdict t refl none)
      (turn-on (state_with_works ws e.state) with-works (h.full running) (ap (λ (t : Turn). t.verdict) whole ∙ none))

  live-then : (n : State) → TurnsOn (state_with_works ws e.state) (state_with_works ws n) → (q : ℕ)
      → get e.state.works q ≡ None → is_live q e.state ≡ true → is_live q n ≡ true
  unfolding state_with_works
  live-then n on q apart live = on.live q (head-other e.state q has apart) live

  pub beside-turn : IsBeside (playing_after_turn t) lents
  beside-turn = record {
    once = h.once;
    apart = all-both (λ p. get e.state.works p ≡ None) (λ p. p < e.state.next) (λ p. get t.next.works p ≡ None)
        (λ p none given. turn-apart e.state p none given) (lent_vpids lents) h.apart h.given;
    given = all-weaker (λ p. p < e.state.next) (λ p. p < t.next.next)
        (λ p given. let later = turn-later e.state in omega (arith, given, later)) (lent_vpids lents) h.given;
    live = λ none. all-both (λ p. get e.state.works p ≡ None) (λ p. is_live p e.state ≡ true) (λ p. is_live p t.next ≡ true)
        (live-then t.next (goes-on none)) (lent_vpids lents) h.apart (h.live running);
    full = λ none. let on = goes-on none in on.full;
  }

-- an admission
beside-by : (e : Playing) (lents : List Lent) (v : Option Verdict) (late : Option ℕ) → e.verdict ≡ v → awaited e.state ≡ late
    → IsHeadOnce e.state.schedule.order → IsBeside e lents → (let a = admission_by e v late in IsBeside a.next lents)
beside-by e lents (Some v) late is who once h = h
beside-by e lents None (Some p) is who once h = h
beside-by e lents None None is who once h = beside-turn e lents h (has-head e.state (head_pid e.state.schedule.order) refl who) once is

pub beside-admitted : (e : Playing) (lents : List Lent) → IsHeadOnce e.state.schedule.order → IsBeside e lents
    → (let a = admission e in IsBeside a.next lents)
unfolding admission
beside-admitted e lents once h = beside-by e lents e.verdict (awaited e.state) refl refl once h

-- the head of a queue stands once in its order
pub head-once : (queue : List Process) → IsTrue (is_distinct queue) → IsHeadOnce (pids queue)
head-once [] once = tt
head-once (x ∷ xs) once =
    let tests = once-apart (is_queued x.vpid xs) (is_distinct xs) once in sym (queued-live x.vpid xs) ∙ tests.0

-- one more admission of what was written and what is left
module _ (all : Run) (start told : Option (List ℕ)) (e : Playing) (lents : List Lent) (h : Goes all start e (lent_works lents) told)
    (beside : IsBeside e lents) where
  pub goes-one : (next : Playing) (new : Option (List ℕ)) → (let a = admission e in a.next ≡ next)
      → (let a = admission e in new ≡ added told (events_text a.events)) → Goes all start next (lent_works lents) new
  goes-one next new is wrote = goes-admitted all start told e (lent_works lents) h next new (away-of e lents beside) is wrote

  -- and a part of what it shows
  pub part-one : (new : Option (List ℕ)) → (let a = admission e in AddsPart told new (events_text a.events))
      → AddsPart start new (events_text all.events)
  part-one new part = part-admitted all start told e (lent_works lents) h new (away-of e lents beside) part

-- an admission takes the run on, whatever is away
module _ (e : EngineView) (lents : List Lent) (w : World) (told : Option (List ℕ)) (live : IsLive e lents w)
    (once : IsTrue (is_distinct e.state.core.queue)) where
  abbrev playing : Playing
  playing = playing_of e w

  pub on-admitted : (next : EngineView) (v : World) (new : Option (List ℕ)) → IsInPlay next → IsSoundContainer next.state.container v
      → steps_left next.state.core ≤ steps_left e.state.core → (let a = admission playing in a.next ≡ playing_of next v)
      → (let a = admission playing in new ≡ added told (events_text a.events)) → GoesOn e lents w told next lents v new
  on-admitted next v new whole sound less is wrote = record {
    goes = goes-one _ told told playing lents (record { shown = []; whole = refl; wrote = sym (added-nil told) }) live.beside
        (playing_of next v) new is wrote;
    live = record {
      whole = whole;
      sound = sound;
      beside = subst (λ p. IsBeside p lents) is (beside-admitted playing lents (head-once e.state.core.queue once) live.beside);
    };
    nearer = omega (arith, less);
  }

  -- a part of what it shows is a part of what the run shows
  pub part-admission : (new : Option (List ℕ)) → (let a = admission playing in AddsPart told new (events_text a.events))
      → AddsPart told new (events_text (let r = left_with playing (lent_works lents) in r.events))
  part-admission new part =
      part-one _ told told playing lents (record { shown = []; whole = refl; wrote = sym (added-nil told) }) live.beside new part
