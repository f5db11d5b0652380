-- A run in play, whose segments may be run ahead of their turns.
use Rattle.std.specs.Prelude.{◌≡◌, ℕ, List, [], ◌++◌, Option, Some, None}
use Rattle.dt_base.specs.declared.event.Verdict.{Verdict}
use Rattle.dt_base.specs.declared.event.Verdict.TheVariants as verdict
use Rattle.dt_base.specs.Image.{ImageParts}
use Rattle.dt_base.specs.Command.{Words}
use Rattle.dt_tree.specs.ImageTree.{image_tree}
use Rattle.dt_calls.specs.declared.container.Launch.{Launch}
use Rattle.dt_calls.specs.declared.container.Launch.TheVariants.{Started, NoStart}
use Rattle.dt_calls.specs.Container.{Shared, Container, first_container}
use Rattle.dt_calls.specs.Launch.{launch}
use Rattle.dt_image.specs.Report.{verdict_text, tree_text}
use Rattle.dt_engine.specs.Turn.{State, Turn}
use Rattle.dt_engine.specs.Run.{Run, run_of_turns, first_state, run_of}
use Rattle.dt_engine.specs.Ahead.{with_all_segments}

-- its state, and the verdict once one stands
pub record Playing : Type 0 where
  pub state : State
  pub verdict : Option Verdict

-- after a turn
abbrev pub playing_after_turn : Turn → Playing
playing_after_turn t = record { state = t.next; verdict = t.verdict }

-- a run in play in which each process has run the segment that it owed
abbrev pub playing_with_all_segments : Playing → Playing
playing_with_all_segments e = record e { state = with_all_segments e.state }

-- nobody's turn comes
abbrev pub without_turns : State → State
without_turns s = record s { schedule = record s.schedule { order = [] } }

-- a program that was started is in play; where it was not, a verdict stands at once and nobody's turn comes
abbrev pub playing_from : ℕ → Container → Launch → Playing
playing_from budget c Started = record { state = first_state c budget; verdict = None }
playing_from budget c (NoStart errno) =
    record { state = without_turns (first_state c budget); verdict = Some (verdict.NoStart errno) }

-- the run of a command in a container, before its first turn
abbrev pub playing_in : ℕ → Container → Words → Playing
playing_in budget c words = let l = launch c words in playing_from budget l.container l.launch

-- the run of a command on an image, before its first turn
unfoldable pub first_playing : ImageParts → Words → ℕ → ℕ → Playing
first_playing image words seed budget = playing_in budget (first_container (image_tree image) seed) words

-- what is left of a run in play: its turns, or nothing where a verdict stands
abbrev pub rest_of : State → Option Verdict → Run
rest_of s None = run_of_turns s
rest_of s (Some verdict) = record { events = []; verdict = verdict; last = s.shared }

-- all that is left before the first turn is the run
abbrev pub RestAtFirst : Type 0
RestAtFirst =
    (image : ImageParts) (words : Words) (seed budget : ℕ)
    → let e = first_playing image words seed budget in rest_of e.state e.verdict ≡ run_of image words seed budget

-- what a report says last: the verdict, and the tree
abbrev pub last_text : Verdict → Shared → List ℕ
last_text verdict c = verdict_text verdict ++ tree_text c.tree
