-- How much each turn of a run shows at most, also while machines are lent.
use Rattle.std.specs.Prelude.{◌≢◌, ℕ, List, IsSome}
use Rattle.std.specs.List.{All, AllPairs}
use Rattle.std.specs.FinMap.{get}
use Rattle.dt_base.specs.Image.{ImageParts}
use Rattle.dt_base.specs.Command.{Words}
use Rattle.dt_engine.specs.declared.happening.Happening.{Happening}
use Rattle.dt_engine.specs.Work.{Work}
use Rattle.dt_engine.specs.Turn.{State, Turn, turn}
use Rattle.dt_engine.specs.Playing.{Playing, first_playing}
use Rattle.dt_engine.specs.Happenings.{step_of_turn}
use Rattle.dt_engine.specs.Admission.{Admission, admission}
use Rattle.dt_engine.specs.Played.{played, turns}
use Rattle.dt_engine.specs.Lent.{playing_without_work, playing_with_work}
use Rattle.dt_runlaws.specs.Few.{ShowsFew, HasFewProcesses}

-- between two turns there are few processes, and each one in the order of turns stands there once and has a task
pub record HasFewIn (s : State) : Type 0 where
  pub processes : HasFewProcesses s.shared s.next
  pub once : AllPairs (λ p q. p ≢ q) s.schedule.order
  pub tasks : All (λ p. IsSome (get s.shared.tasks p)) s.schedule.order

-- a turn shows few events, and the state that it leaves has few processes
pub record TurnShowsFew (t : Turn) : Type 0 where
  pub shown : ShowsFew t.events
  pub next : HasFewIn t.next

-- each turn from a state that has few processes is such a turn
abbrev pub StatesShowFew : Type 0
StatesShowFew = (s : State) → HasFewIn s → TurnShowsFew (turn s)

-- before its first turn each run has few processes, whichever image, words, seed and budget it is of
abbrev pub FirstStatesHaveFew : Type 0
FirstStatesHaveFew =
    (image : ImageParts) (words : Words) (seed budget : ℕ)
    → let e = first_playing image words seed budget in HasFewIn e.state

-- an admission shows few events, and the state that it leaves has few processes
pub record AdmissionShowsFew (a : Admission) : Type 0 where
  pub shown : ShowsFew a.events
  pub next : (let e = a.next in HasFewIn e.state)

-- each admission to a run that has few processes is such an admission, whichever machines are lent
abbrev pub AdmissionsShowFew : Type 0
AdmissionsShowFew = (e : Playing) → HasFewIn e.state → AdmissionShowsFew (admission e)

-- a run has few processes after a machine was lent, after one came back with the segment that it ran, and after what
-- may happen of a list
pub record KeepsFew (e : Playing) : Type 0 where
  pub lent : (p : ℕ) → let n = playing_without_work p e in HasFewIn n.state
  pub ran : (p : ℕ) (w : Work) → let n = playing_with_work p w e in HasFewIn n.state
  pub played : (hs : List Happening) → let d = played e hs in HasFewIn d.step.next.state

-- a run that has few processes has few still after these
abbrev pub PlayingsKeepFew : Type 0
PlayingsKeepFew = (e : Playing) → HasFewIn e.state → KeepsFew e

-- the turn that a run takes after so many, if it is not over then, shows few events
abbrev pub RunsShowFew : Type 0
RunsShowFew =
    (image : ImageParts) (words : Words) (seed budget count : ℕ)
    → let t = turns count (first_playing image words seed budget) in
    let last = step_of_turn t.next t.next.verdict in ShowsFew last.events
