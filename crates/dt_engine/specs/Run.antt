-- A whole run: a function of the image, the command, the seed and the budget.
use Rattle.std.specs.Prelude.{◌≡◌, ℕ, zero, suc, ◌+◌, ◌==◌, List, [], ◌∷◌, ◌++◌, Option, Some, None, if◌then◌else◌}
use Rattle.dt_base.specs.Image.{ImageParts}
use Rattle.dt_base.specs.declared.event.End.{End}
use Rattle.dt_base.specs.declared.event.End.TheVariants.{Code, Signal}
use Rattle.dt_base.specs.declared.event.Event.{Event}
use Rattle.dt_base.specs.declared.event.Verdict.{Verdict}
use Rattle.dt_base.specs.declared.event.Verdict.TheVariants as verdict
use Rattle.dt_base.specs.Command.{Words}
use Rattle.dt_tables.specs.Values.{map_values}
use Rattle.dt_base.specs.declared.limits.TheConstants.{FIRST_PID}
use Rattle.dt_procs.specs.Members.{end_of}
use Rattle.dt_tree.specs.ImageTree.{image_tree}
use Rattle.dt_calls.specs.declared.container.Launch.{Launch}
use Rattle.dt_calls.specs.declared.container.Launch.TheVariants.{Started, NoStart}
use Rattle.dt_calls.specs.Container.{Shared, Container, first_container}
use Rattle.dt_calls.specs.Launch.{launch}
use Rattle.dt_image.specs.Report.{report}
use Rattle.dt_engine.specs.declared.status.TheConstants.{ENDED_ZERO, ENDED_OTHERWISE, NOT_ENDED}
use Rattle.dt_engine.specs.Work.{owing_work}
use Rattle.dt_engine.specs.Turn.{State, Turn, turn}

-- what a run gives: its events, its verdict, and what its processes shared at last
pub record Run : Type 0 where
  pub events : List Event
  pub verdict : Verdict
  pub last : Shared

-- the same with earlier events before it
abbrev pub after_events : List Event → Run → Run
after_events events r = record { events = events ++ r.events; verdict = r.verdict; last = r.last }

-- after a turn the run is over, or it goes on from the next state
abbrev pub run_after_turn : Turn → Option Verdict → (State → Run) → Run
run_after_turn t (Some verdict) rest = record { events = t.events; verdict = verdict; last = t.next.shared }
run_after_turn t None rest = after_events t.events (rest t.next)

-- at most so many turns, and then the verdict on the budget, which `run_of_turns` comes to by a turn
unfoldable pub run_at_most : ℕ → State → Run
run_at_most zero s = record { events = []; verdict = verdict.Budget; last = s.shared }
run_at_most (suc most) s = let t = turn s in run_after_turn t t.verdict (run_at_most most)

-- turns until a verdict: each costs at least 1, and one more than the budget finds it spent
unfoldable pub run_of_turns : State → Run
run_of_turns s = run_at_most (s.schedule.left + 1) s

-- a run is a turn and, unless that is the last one, the run from there
abbrev pub RunByTurns : Type 0
RunByTurns = (s : State) → let t = turn s in run_of_turns s ≡ run_after_turn t t.verdict run_of_turns

-- a run that begins: each process whose machine is at home owes a segment, and the first has the first turn
abbrev pub first_state : Container → ℕ → State
first_state c budget = record {
  shared = c.shared;
  works = map_values owing_work c.machines;
  schedule = record { order = FIRST_PID ∷ []; blocked = 0; left = budget };
  next = c.next;
}

-- a program that was started runs until a verdict, and else the run is over at once
abbrev pub run_from : ℕ → Container → Launch → Run
run_from budget c Started = run_of_turns (first_state c budget)
run_from budget c (NoStart errno) = record { events = []; verdict = verdict.NoStart errno; last = c.shared }

-- the run of a command in a container
abbrev pub run_in : ℕ → Container → Words → Run
run_in budget c words = let l = launch c words in run_from budget l.container l.launch

-- the run of a command on an image
unfoldable pub run_of : ImageParts → Words → ℕ → ℕ → Run
run_of image words seed budget = run_in budget (first_container (image_tree image) seed) words

-- the status of a run whose first process ended so
abbrev pub end_status : End → ℕ
end_status (Code code) = if code == 0 then ENDED_ZERO else ENDED_OTHERWISE
end_status (Signal signal) = ENDED_OTHERWISE

-- the status of a run by its first process's end
abbrev pub status_by : Option End → ℕ
status_by None = NOT_ENDED
status_by (Some end) = end_status end

-- with which status the program ends after a run: its first process, whose pid is 1, decides
abbrev pub status_of_run : Run → ℕ
status_of_run run = status_by (end_of run.last.members FIRST_PID)

-- the report of a run on an image of that version
abbrev pub report_of : ℕ → Run → List ℕ
report_of version run = report version run.events run.verdict run.last.tree
