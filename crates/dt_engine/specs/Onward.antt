-- A run in play that is taken on to its end: what is left of it, where it may be taken on, and when it is over.
use Rattle.std.specs.Prelude.{◌≡◌, ℕ, List, Option, Some, None}
use Rattle.dt_host.specs.World.{World}
use Rattle.dt_calls.specs.Sound.{IsSoundContainer}
use Rattle.dt_base.specs.declared.event.Event.{Event}
use Rattle.dt_engine.specs.Run.{Run, after_events}
use Rattle.dt_engine.specs.Ahead.{Away, state_with_works}
use Rattle.dt_engine.specs.Playing.{Playing, rest_of}
use Rattle.dt_engine.specs.InPlay.{EngineView, playing_of, IsFull, IsInPlay}
use Rattle.dt_host.specs.Sink.{added}
use Rattle.dt_image.specs.Report.{events_text}
use Rattle.dt_calls.specs.InCode.{shared_of}

-- what is left of a run in play
abbrev pub left_of : Playing → Run
left_of e = rest_of e.state e.verdict

-- what is left of a run in play whose works are away
abbrev pub left_with : Playing → Away → Run
left_with e ws = rest_of (state_with_works ws e.state) e.verdict

-- a run is what was written of it since the start, and what is left of it
pub record Goes (all : Run) (start : Option (List ℕ)) (e : Playing) (ws : Away) (told : Option (List ℕ)) : Type 0 where
  pub shown : List Event
  pub whole : all ≡ after_events shown (left_with e ws)
  pub wrote : told ≡ added start (events_text shown)

-- an engine that lends no machine, unless a verdict stands
pub record IsAtRest (e : EngineView) (w : World) : Type 0 where
  pub whole : IsInPlay e
  pub sound : IsSoundContainer e.state.container w
  pub full : e.verdict ≡ None → (let p = playing_of e w in IsFull p.state)

-- it is over, and all that it shows was written
pub record IsDone (all : Run) (start : Option (List ℕ)) (e : EngineView) (w : World) (told : Option (List ℕ)) : Type 0 where
  pub verdict : e.verdict ≡ Some all.verdict
  pub last : all.last ≡ shared_of e.state.container.shared w
  pub wrote : told ≡ added start (events_text all.events)
