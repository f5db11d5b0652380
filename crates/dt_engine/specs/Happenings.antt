-- What may happen in a run in play, and what it leads to.
use Rattle.std.specs.Prelude.{ℕ, ◌==◌, ◌&&◌, Bool, false, List, [], ◌++◌, Option, Some, None, is_none, if◌then◌else◌}
use Rattle.std.specs.List.{list_any}
use Rattle.std.specs.FinMap.{get}
use Rattle.dt_base.specs.declared.event.Event.{Event}
use Rattle.dt_base.specs.declared.event.Verdict.{Verdict}
use Rattle.dt_sched.specs.Core.{is_owing}
use Rattle.dt_engine.specs.declared.happening.Happening.{Happening}
use Rattle.dt_engine.specs.declared.happening.Happening.TheVariants.{Ran, Admit}
use Rattle.dt_engine.specs.Work.{Work}
use Rattle.dt_engine.specs.Turn.{State, turn}
use Rattle.dt_engine.specs.Ahead.{with_segment_of}
use Rattle.dt_engine.specs.Playing.{Playing, playing_after_turn}
use Rattle.dt_engine.specs.Admission.{awaited}

-- a process lives: it stands in the order of turns
abbrev pub is_live : ℕ → State → Bool
is_live p s = list_any (λ q. q == p) s.schedule.order

-- its work is at home, and it owes a segment
abbrev pub is_owing_work : Option Work → Bool
is_owing_work None = false
is_owing_work (Some w) = is_owing w.phase

-- whether it may happen: a live process runs the segment that it owes, or the head takes its turn, where no verdict stands and
-- it owes no segment
abbrev pub may_happen : Playing → Happening → Bool
may_happen e (Ran p) = is_live p e.state && is_owing_work (get e.state.works p)
may_happen e Admit = is_none e.verdict && is_none (awaited e.state)

-- the run after something has happened, or several things, and what showed
pub record Step : Type 0 where
  pub next : Playing
  pub events : List Event

-- nothing has happened
abbrev pub no_step : Playing → Step
no_step e = record { next = e; events = [] }

-- a step, and what came after it
abbrev pub step_then : Step → Step → Step
step_then first rest = record { next = rest.next; events = first.events ++ rest.events }

-- a turn, unless a verdict stands
abbrev pub step_of_turn : Playing → Option Verdict → Step
step_of_turn e (Some verdict) = no_step e
step_of_turn e None = let t = turn e.state in record { next = playing_after_turn t; events = t.events }

-- what it leads to
abbrev pub step_of : Playing → Happening → Step
step_of e (Ran p) = no_step (record e { state = with_segment_of p e.state })
step_of e Admit = step_of_turn e e.verdict

-- what comes of it: nothing, where it may not happen
abbrev pub step_if_allowed : Playing → Happening → Step
step_if_allowed e h = if may_happen e h then step_of e h else no_step e
