-- What was shown of a run in play, and what is left of it, while machines are lent. A driver of an engine carries
-- `Shows` from call to call.
use Rattle.std.specs.Prelude.{◌≡◌, ◌≢◌, ⊤, ℕ, ◌<◌, List, [], ◌∷◌, ◌++◌, map, Option, None, IsSome, true}
use Rattle.std.specs.Ordering.{nat_cmp}
use Rattle.std.specs.FinMap.{find}
use Rattle.std.specs.List.{AllByRecursion}
use Rattle.dt_base.specs.declared.event.Event.{Event}
use Rattle.dt_host.specs.Sink.{added}
use Rattle.dt_image.specs.Report.{header, events_text}
use Rattle.dt_rv64.specs.declared.machine.Machine.{Machine}
use Rattle.dt_engine.specs.Work.{owing_work}
use Rattle.dt_engine.specs.Turn.{State}
use Rattle.dt_engine.specs.Run.{Run, after_events, report_of}
use Rattle.dt_engine.specs.Ahead.{Away, IsAway, state_with_works}
use Rattle.dt_engine.specs.Playing.{Playing, rest_of}
use Rattle.dt_engine.specs.Happenings.{is_live}
use Rattle.dt_engine.specs.InPlay.{IsFull}

-- machines that are lent, each with the pid of its process
abbrev pub Lent : Type 0
Lent = List (ℕ × Machine)

-- their pids
abbrev pub lent_pids : Lent → List ℕ
lent_pids lent = map (λ (l : ℕ × Machine). l.0) lent

-- the works that are away with them: each process owes a segment
abbrev pub lent_works : Lent → Away
lent_works lent = map (λ (l : ℕ × Machine). (l.0, owing_work l.1)) lent

-- a process's machine is one of them
abbrev pub IsLent : ℕ → Lent → Type 0
IsLent p lent = IsSome (find nat_cmp p (lent_works lent))

-- no two of these pids are the same
abbrev pub AreDistinct : List ℕ → Type 0
AreDistinct [] = ⊤
AreDistinct (p ∷ ps) = AllByRecursion (λ q. q ≢ p) ps × AreDistinct ps

-- no pid stands twice in the order of turns, and each is below the next that is given
pub record HasDistinctOrder (s : State) : Type 0 where
  pub once : AreDistinct s.schedule.order
  pub given : AllByRecursion (λ p. p < s.next) s.schedule.order

-- each of these machines was lent by a process of its own, whose work isn't at home and which, where no verdict stands,
-- lives; with them each live process has its work; and the order of turns is as `HasDistinctOrder` says
pub record AreLent (e : Playing) (lent : Lent) : Type 0 where
  pub once : AreDistinct (lent_pids lent)
  pub away : IsAway e.state (lent_works lent)
  pub live : e.verdict ≡ None → (p : ℕ) → IsLent p lent → is_live p e.state ≡ true
  pub full : IsFull (state_with_works (lent_works lent) e.state)
  pub ordered : HasDistinctOrder e.state

-- what is left of a run, the lent machines counted in
abbrev pub left_with_lent : Playing → Lent → Run
left_with_lent e lent = rest_of (state_with_works (lent_works lent) e.state) e.verdict

-- a run is what was shown of it, and what is left
pub record Shows (all : Run) (shown : List Event) (e : Playing) (lent : Lent) : Type 0 where
  pub whole : all ≡ after_events shown (left_with_lent e lent)
  pub machines : AreLent e lent

-- since the start the first line of a report on an image of that version was written and what these events show, and nothing else
abbrev pub HasWritten : ℕ → List Event → Option (List ℕ) → Option (List ℕ) → Type 0
HasWritten version shown start told = told ≡ added start (header version ++ events_text shown)

-- what was written since the start is a prefix of a run's report, and it holds what these events show
pub record WritesPrefix (version : ℕ) (all : Run) (shown : List Event) (start told : Option (List ℕ)) : Type 0 where
  pub more : List ℕ
  pub rest : List ℕ
  pub wrote : told ≡ added start (header version ++ (events_text shown ++ more))
  pub whole : report_of version all ≡ header version ++ (events_text shown ++ (more ++ rest))
