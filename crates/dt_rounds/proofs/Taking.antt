-- A run is taken on, step by step or round by round, until a verdict stands.
use Rattle.std.proofs.Common.{◌≡◌, ℕ, ◌+◌, ◌<◌, List, [], ◌++◌, Option, Some, None, refl, sym, ap, subst, ◌∙◌, arith}
use Rattle.std.specs.Prelude.{Bool, true, false, is_some, IsSome}
use Rattle.dt_base.specs.declared.event.Verdict.{Verdict}
use Rattle.dt_host.specs.Sink.{added, AddsPart}
use Rattle.dt_host.specs.World.{World}
use Rattle.dt_host.proofs.Growth.{added-nil, added-added}
use Rattle.dt_image.specs.Report.{events_text}
use Rattle.dt_engine.specs.Run.{Run, after_events}
use Rattle.dt_engine.specs.Ahead.{Away, state_with_works}
use Rattle.dt_engine.specs.Playing.{Playing}
use Rattle.dt_engine.specs.InPlay.{EngineView, playing_of, steps_left}
use Rattle.dt_engine.specs.Onward.{left_of, left_with, Goes}
use Rattle.dt_rounds.specs.declared.lent.Lent.{Lent}
use Rattle.dt_rounds.specs.inner.Round.{lent_works, IsLive, KeepsRun, GoesOn, TakesOn}
use Rattle.dt_engine.proofs.Going.{texts-append, goes-part}
use Rattle.dt_engine.proofs.Happened.{adds_after}
use Rattle.dt_engine.proofs.Turns.{after-after}
use Rattle.dt_rounds.proofs.Brought.{goes-left}

-- how far a run is from its end at most: nowhere once a verdict stands
abbrev pub steps_by : Option Verdict → ℕ → ℕ
steps_by None left = left + 1
steps_by (Some v) left = 0

abbrev pub steps_ahead : EngineView → ℕ
steps_ahead e = steps_by e.verdict (steps_left e.state.core)

fewer-by : (v : Option Verdict) (left before : ℕ) → (v ≡ None → left < before) → steps_by v left < before + 1
fewer-by None left before less = let l = less refl in omega arith
fewer-by (Some v) left before less = omega arith

-- a run that is taken on is nearer to its end
pub fewer-ahead : (e : EngineView) (w : World) (told : Option (List ℕ)) (next : EngineView) (now : World) (new : Option (List ℕ))
    → e.verdict ≡ None → TakesOn e w told next now new → steps_ahead next < steps_ahead e
fewer-ahead e w told next now new running h =
    subst (λ v. steps_ahead next < steps_by v (steps_left e.state.core)) (sym running)
    (fewer-by next.verdict (steps_left next.state.core) (steps_left e.state.core) h.nearer)

-- what is taken on after a part was is taken on of the whole
module _ (all : Run) (start told : Option (List ℕ)) (e : Playing) (ws : Away) (h : Goes all start e ws told) where
  pub goes-then : (next : Playing) (now : Away) (new : Option (List ℕ)) → Goes (left_with e ws) told next now new → Goes all start next now new
  goes-then next now new k = record {
    shown = h.shown ++ k.shown;
    whole = h.whole ∙ ap (after_events h.shown) k.whole ∙ after-after h.shown k.shown (left_with next now);
    wrote = k.wrote ∙ ap (λ told. added told (events_text k.shown)) h.wrote
        ∙ added-added start (events_text h.shown) (events_text k.shown)
        ∙ ap (added start) (sym (texts-append h.shown k.shown));
  }

  pub part-then : (new : Option (List ℕ)) → AddsPart told new (events_text (let r = left_with e ws in r.events))
      → AddsPart start new (events_text all.events)
  part-then new part =
      let rest = left_with e ws in
      subst (λ events. AddsPart start new (events_text events)) (sym (ap (λ (r : Run). r.events) h.whole))
      (subst (AddsPart start new) (sym (texts-append h.shown rest.events))
      (adds_after start told new (events_text h.shown) (events_text rest.events) h.wrote part))

-- as much is left with no works away
left-none : (e : Playing) → left_with e [] ≡ left_of e
unfolding state_with_works
left-none e = refl

pub goes-take : (all : Run) (start told : Option (List ℕ)) (e next : Playing) (new : Option (List ℕ)) → Goes all start e [] told
    → Goes (left_of e) told next [] new → Goes all start next [] new
goes-take all start told e next new h k =
    goes-then all start told e [] h next [] new (subst (λ r. Goes r told next [] new) (sym (left-none e)) k)

pub part-take : (all : Run) (start told : Option (List ℕ)) (e : Playing) (new : Option (List ℕ)) → Goes all start e [] told
    → AddsPart told new (events_text (let r = left_of e in r.events)) → AddsPart start new (events_text all.events)
part-take all start told e new h part =
    part-then all start told e [] h new (subst (λ (r : Run). AddsPart told new (events_text r.events)) (sym (left-none e)) part)

-- whether a verdict stands
pub none-by : (v : Option Verdict) {b : Bool} → b ≡ is_some v → b ≡ false → v ≡ None
none-by None is off = refl
none-by (Some v) is off = let bad = sym is ∙ off in cc

pub the-verdict : (v : Option Verdict) {b : Bool} → b ≡ is_some v → b ≡ true → (w : Verdict) × (v ≡ Some w)
the-verdict None is on = let bad = sym is ∙ on in absurd cc
the-verdict (Some v) is on = (v, refl)

pub stands-by : (v : Option Verdict) {b : Bool} → b ≡ is_some v → b ≡ true → IsSome v
stands-by v is on = sym is ∙ on

-- nothing has happened yet
pub on-same : (e : EngineView) (lents : List Lent) (w : World) (told : Option (List ℕ)) → IsLive e lents w → GoesOn e lents w told e lents w told
on-same e lents w told live =
    record { goes = record { shown = []; whole = refl; wrote = sym (added-nil told) }; live = live; nearer = omega arith }

-- one part after the other
module _ (a b : EngineView) (xs ys : List Lent) (u v : World) (told now : Option (List ℕ)) (h : GoesOn a xs u told b ys v now) where
  pub on-then : (c : EngineView) (zs : List Lent) (w : World) (new : Option (List ℕ)) → GoesOn b ys v now c zs w new → GoesOn a xs u told c zs w new
  on-then c zs w new k = record {
    goes = goes-then _ told now (playing_of b v) (lent_works ys) h.goes (playing_of c w) (lent_works zs) new k.goes;
    live = k.live;
    nearer = omega (arith, h.nearer, k.nearer);
  }

  -- machines came home
  pub on-kept : (c : EngineView) (zs : List Lent) → KeepsRun b ys c zs v → GoesOn a xs u told c zs v now
  on-kept c zs k = record {
    goes = goes-left _ told now (playing_of b v) (playing_of c v) (lent_works ys) (lent_works zs) k.left h.goes;
    live = k.live;
    nearer = omega (arith, h.nearer, k.nearer);
  }

  -- what was written is a part of what the run shows, and so is what comes next of it
  pub on-part : AddsPart told now (events_text (let r = left_with (playing_of a u) (lent_works xs) in r.events))
  on-part = goes-part _ told now (playing_of b v) (lent_works ys) h.goes

  pub on-part-then : (new : Option (List ℕ)) → AddsPart now new (events_text (let r = left_with (playing_of b v) (lent_works ys) in r.events))
      → AddsPart told new (events_text (let r = left_with (playing_of a u) (lent_works xs) in r.events))
  on-part-then new part = part-then _ told now (playing_of b v) (lent_works ys) h.goes new part
