-- A driver of an engine, which lends machines and takes them back: what holds between its actions, and what each does.
use Rattle.std.specs.Prelude.{◌≡◌, ◌==◌, ◌&&◌, not, ℕ, Bool, List, [], ◌∷◌, ◌++◌, map, remove, slice_get, false, Option, None, Some, if◌then◌else◌}
use Rattle.std.specs.List.{list_any}
use Rattle.std.specs.FinMap.{get}
use Rattle.dt_base.specs.declared.event.Event.{Event}
use Rattle.dt_base.specs.Image.{ImageParts}
use Rattle.dt_base.specs.Command.{Words}
use Rattle.dt_host.specs.World.{World}
use Rattle.dt_rv64.specs.declared.machine.Machine.{Machine}
use Rattle.dt_rv64.specs.Segment.{segment_of}
use Rattle.dt_calls.specs.Sound.{IsSoundContainer}
use Rattle.dt_engine.specs.declared.happening.Happening.{Happening}
use Rattle.dt_engine.specs.Work.{Work, work_after_segment}
use Rattle.dt_engine.specs.Run.{Run}
use Rattle.dt_engine.specs.Playing.{Playing, first_playing}
use Rattle.dt_engine.specs.Admission.{admission}
use Rattle.dt_engine.specs.Lent.{playing_without_work, playing_with_work}
use Rattle.dt_engine.specs.Played.{played}
use Rattle.dt_engine.specs.InPlay.{playing_of, owing_of, IsInPlay}
use Rattle.dt_runlaws.specs.declared.driver.Action.{Action}
use Rattle.dt_runlaws.specs.declared.driver.Action.TheVariants.{Lend, Return, Admit, Play}
use Rattle.dt_runlaws.specs.declared.driver.LentMachine.{LentMachine}
use Rattle.dt_runlaws.specs.declared.driver.Driver.{Driver}
use Rattle.dt_runlaws.specs.Shown.{Lent, lent_pids, AreLent, Shows, HasWritten}

-- the machines that it has of processes
abbrev pub lent_of : List LentMachine → Lent
lent_of lent = map (λ (l : LentMachine). (l.vpid, l.machine)) lent

-- a point of a run: the run in play, the machines of it that are lent, and the events that it has shown
pub record Point : Type 0 where
  pub playing : Playing
  pub lent : Lent
  pub shown : List Event

-- the point before the first turn
abbrev pub first_point : ImageParts → Words → ℕ → ℕ → Point
first_point image words seed budget =
    record { playing = first_playing image words seed budget; lent = []; shown = [] }

-- a process owes a segment, and its machine is not lent
abbrev pub may_lend : Playing → Lent → ℕ → Bool
may_lend e lent p = list_any (λ q. q == p) (owing_of e.state) && not (list_any (λ q. q == p) (lent_pids lent))

-- the machine of a process's work, with its pid
abbrev pub machine_of : ℕ → Option Work → Lent
machine_of p None = []
machine_of p (Some w) = (p, w.machine) ∷ []

-- the machine of a process is lent
abbrev pub point_after_lending : ℕ → Point → Point
point_after_lending p d = record {
  playing = playing_without_work p d.playing;
  lent = d.lent ++ machine_of p (get d.playing.state.works p);
  shown = d.shown;
}

-- a machine that was lent has run its segment and is back
abbrev pub point_after_return : ℕ → Option (ℕ × Machine) → Point → Point
point_after_return k None d = d
point_after_return k (Some l) d = record {
  playing = playing_with_work l.0 (work_after_segment (segment_of l.1)) d.playing;
  lent = remove d.lent k;
  shown = d.shown;
}

-- the head of the queue was admitted
abbrev pub point_after_admission : Point → Point
point_after_admission d = record {
  playing = (let a = admission d.playing in a.next);
  lent = d.lent;
  shown = d.shown ++ (let a = admission d.playing in a.events);
}

-- something happened, where no machine is lent
abbrev pub point_after_happening : Happening → Lent → Point → Point
point_after_happening h (l ∷ ls) d = d
point_after_happening h [] d = record {
  playing = (let done = played d.playing (h ∷ []) in done.step.next);
  lent = d.lent;
  shown = d.shown ++ (let done = played d.playing (h ∷ []) in done.step.events);
}

-- the point after an action, which changes nothing where it may not be done
abbrev pub point_after : Action → Point → Point
point_after (Lend p) d = if may_lend d.playing d.lent p then point_after_lending p d else d
point_after (Return k) d = point_after_return k (slice_get d.lent k) d
point_after Admit d = point_after_admission d
point_after (Play h) d = point_after_happening h d.lent d

-- the point after several actions, in their order
abbrev pub point_after_all : List Action → Point → Point
point_after_all [] d = d
point_after_all (a ∷ rest) d = point_after_all rest (point_after a d)

-- its engine is in play, with these machines lent, and its report isn't finished
pub record IsDriving (f : Driver) : Type 0 where
  pub whole : IsInPlay f.engine
  pub machines : (w : World) → AreLent (playing_of f.engine w) (lent_of f.lent.items)
  pub unfinished : f.engine.finished ≡ false

-- likewise beside a host
pub record IsDrivingAt (f : Driver) (w : World) : Type 0 where
  pub driving : IsDriving f
  pub sound : IsSoundContainer f.engine.state.container w

-- the point at which a driver is, once these events were shown
abbrev pub point_of : Driver → World → List Event → Point
point_of f w shown = record { playing = playing_of f.engine w; lent = lent_of f.lent.items; shown = shown }

-- a driver is at a point
abbrev pub IsAt : Point → Driver → World → Type 0
IsAt d f w = point_of f w d.shown ≡ d

-- these events of a run were shown, and the rest is left to it
abbrev pub HasShown : Run → List Event → Driver → World → Type 0
HasShown all shown f w = Shows all shown (playing_of f.engine w) (lent_of f.lent.items)

-- and since the start they were written, after the report's first line
pub record HasReported (version : ℕ) (all : Run) (shown : List Event) (start : Option (List ℕ)) (f : Driver) (w : World) (told : Option (List ℕ)) : Type 0 where
  pub shows : HasShown all shown f w
  pub wrote : HasWritten version shown start told
