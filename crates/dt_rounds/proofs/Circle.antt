-- A whole round, from the first machine that is lent to the last that comes home.
use Rattle.std.proofs.Common.{◌≡◌, ℕ, ◌<◌, List, [], length, Option, None, sym, ap, subst, ◌∙◌, arith}
use Rattle.std.specs.Prelude.{IsSome, IsTrue}
use Rattle.std.proofs.lemmas.List.{length-map}
use Rattle.dt_host.specs.Sink.{AddsPart}
use Rattle.dt_host.specs.World.{World}
use Rattle.dt_image.specs.Report.{events_text}
use Rattle.dt_sched.specs.Core.{is_distinct, owing_vpids}
use Rattle.dt_calls.specs.Sound.{IsSoundContainer}
use Rattle.dt_engine.specs.Run.{Run}
use Rattle.dt_engine.specs.InPlay.{EngineView, playing_of, IsInPlay, steps_left}
use Rattle.dt_engine.specs.Onward.{left_of, left_with, Goes, IsAtRest}
use Rattle.dt_engine.proofs.Queueing.{full-good}
use Rattle.dt_rounds.specs.declared.lent.Lent.{Lent}
use Rattle.dt_rounds.specs.inner.Round.{lent_vpids, lent_works, HasLent, IsLive, GoesOn, TakesOn}
use Rattle.dt_rounds.proofs.Lending.{lent-left, lent-beside}
use Rattle.dt_rounds.proofs.Brought.{rest-home, goes-over, stands-not}

module _ (first now : EngineView) (lents : List Lent) (w : World) (rest : IsAtRest first w) (running : first.verdict ≡ None)
    (once : IsTrue (is_distinct first.state.core.queue)) (has : HasLent first lents now)
    (are : lent_vpids lents ≡ owing_vpids first.state.core.queue) where
  -- the machines were lent
  pub live-lent : IsInPlay now → IsSoundContainer now.state.container w → IsLive now lents w
  live-lent whole sound = record {
    whole = whole;
    sound = sound;
    beside = lent-beside first now w lents has (full-good first.state w rest.whole.kept (rest.full running)) once are;
  }

  -- what is shown from here on is a part of what the run shows
  pub part-lent : (told new : Option (List ℕ))
      → AddsPart told new (events_text (let r = left_with (playing_of now w) (lent_works lents) in r.events))
      → AddsPart told new (events_text (let r = left_of (playing_of first w) in r.events))
  part-lent told new part = subst (λ (r : Run). AddsPart told new (events_text r.events)) (lent-left first now w lents has) part

  -- there are as many as owed a segment
  many : length lents ≡ length (owing_vpids first.state.core.queue)
  many = sym (length-map lents (λ (one : Lent). one.vpid)) ∙ ap (λ (xs : List ℕ). length xs) are

  same-steps : steps_left now.state.core ≡ steps_left first.state.core
  same-steps = ap (λ (e : EngineView). steps_left e.state.core) has.rest

  -- all have come home
  pub takes-on : (told new : Option (List ℕ)) (next : EngineView) (v : World) → 0 < length (owing_vpids first.state.core.queue)
      → GoesOn now lents w told next [] v new → TakesOn first w told next v new
  takes-on told new next v some on = record {
    goes = subst (λ (r : Run). Goes r told (playing_of next v) [] new) (lent-left first now w lents has) on.goes;
    rest = rest-home next v on.live;
    nearer = λ _. omega (arith, on.nearer, many, same-steps, some);
  }

  -- a verdict stands
  pub takes-over : (told new : Option (List ℕ)) (next : EngineView) (others : List Lent) (v : World) → IsSome next.verdict
      → GoesOn now lents w told next others v new → TakesOn first w told next v new
  takes-over told new next others v stands on = record {
    goes = goes-over _ told new (playing_of next v) (lent_works others) stands
        (subst (λ (r : Run). Goes r told (playing_of next v) (lent_works others) new) (lent-left first now w lents has) on.goes);
    rest = record {
      whole = on.live.whole;
      sound = on.live.sound;
      full = λ none. stands-not next.verdict stands none;
    };
    nearer = λ none. stands-not next.verdict stands none;
  }
