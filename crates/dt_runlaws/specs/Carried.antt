-- How each call of an engine carries on what was shown of its run, and what of a call's text may have been written at a
-- fault.
use Rattle.std.specs.Prelude.{◌≡◌, ◌↔◌, ℕ, List, [], ◌∷◌, ◌++◌, remove, slice_get, Option, None, Some, IsTrue}
use Rattle.std.specs.FinMap.{get}
use Rattle.std.specs.List.{Contains}
use Rattle.dt_base.specs.declared.event.Event.{Event}
use Rattle.dt_base.specs.declared.event.Verdict.{Verdict}
use Rattle.dt_base.specs.Image.{ImageParts}
use Rattle.dt_base.specs.Command.{Words}
use Rattle.dt_host.specs.Sink.{AddsPart}
use Rattle.dt_image.specs.Report.{header, events_text}
use Rattle.dt_rv64.specs.declared.machine.Machine.{Machine}
use Rattle.dt_rv64.specs.Segment.{segment_of}
use Rattle.dt_engine.specs.declared.happening.Happening.{Happening}
use Rattle.dt_engine.specs.Work.{owing_work, work_after_segment}
use Rattle.dt_engine.specs.Run.{Run, run_of, report_of}
use Rattle.dt_engine.specs.Playing.{Playing, first_playing, last_text}
use Rattle.dt_engine.specs.Admission.{admission}
use Rattle.dt_engine.specs.Happenings.{is_owing_work}
use Rattle.dt_engine.specs.Lent.{playing_without_work, playing_with_work}
use Rattle.dt_engine.specs.Played.{played}
use Rattle.dt_engine.specs.InPlay.{IsFull, owing_of}
use Rattle.dt_runlaws.specs.declared.driver.Action.{Action}
use Rattle.dt_runlaws.specs.Driver.{may_lend, first_point, point_after_all}
use Rattle.dt_runlaws.specs.Shown.{Lent, IsLent, AreLent, Shows, HasWritten, WritesPrefix}

-- a run in play begins with nothing shown and nothing lent
abbrev pub BeginShows : Type 0
BeginShows =
    (image : ImageParts) (words : Words) (seed budget : ℕ)
    → Shows (run_of image words seed budget) [] (first_playing image words seed budget) []

-- a machine may be lent just where its process owes a segment and it is none of those that are lent
abbrev pub MayLendOwed : Type 0
MayLendOwed =
    (e : Playing) (lent : Lent) (p : ℕ)
    → IsTrue (may_lend e lent p) ↔ (Contains (owing_of e.state) p × ¬ IsLent p lent)

-- a process that owes a segment, and whose machine is none of those that are lent, has it at home
abbrev pub OwesAtHome : Type 0
OwesAtHome =
    (e : Playing) (lent : Lent) (p : ℕ) → AreLent e lent → Contains (owing_of e.state) p → ¬ IsLent p lent
    → IsTrue (is_owing_work (get e.state.works p))

-- lending the machine of a process that owes adds it to those that are lent, and leaves what was shown and what is left
abbrev pub LendShows : Type 0
LendShows =
    (all : Run) (shown : List Event) (e : Playing) (lent : Lent) (p : ℕ) (m : Machine) → Shows all shown e lent
    → Contains (owing_of e.state) p → get e.state.works p ≡ Some (owing_work m)
    → Shows all shown (playing_without_work p e) (lent ++ (p, m) ∷ [])

-- a machine that is lent isn't at home
abbrev pub LentIsAway : Type 0
LentIsAway =
    (e : Playing) (lent : Lent) (k p : ℕ) (m : Machine) → AreLent e lent → slice_get lent k ≡ Some (p, m)
    → get e.state.works p ≡ None

-- a machine that comes back from its segment is one less that is lent, also where its process has ended
abbrev pub ReturnShows : Type 0
ReturnShows =
    (all : Run) (shown : List Event) (e : Playing) (lent : Lent) (k p : ℕ) (m : Machine) → Shows all shown e lent
    → slice_get lent k ≡ Some (p, m)
    → Shows all shown (playing_with_work p (work_after_segment (segment_of m)) e) (remove lent k)

-- an admission shows its events, whatever is lent
abbrev pub AdmissionShows : Type 0
AdmissionShows =
    (all : Run) (shown : List Event) (e : Playing) (lent : Lent) → Shows all shown e lent
    → (let a = admission e in Shows all (shown ++ a.events) a.next lent)

-- happenings show their events, where nothing is lent
abbrev pub HappeningsShow : Type 0
HappeningsShow =
    (all : Run) (shown : List Event) (e : Playing) (hs : List Happening) → Shows all shown e []
    → (let d = played e hs in Shows all (shown ++ d.step.events) d.step.next [])

-- where nothing is lent all machines are at home
abbrev pub NothingLent : Type 0
NothingLent = (e : Playing) → AreLent e [] → IsFull e.state

-- where a verdict stands everything was shown
abbrev pub VerdictShows : Type 0
VerdictShows =
    (all : Run) (shown : List Event) (e : Playing) (lent : Lent) (v : Verdict) → Shows all shown e lent
    → e.verdict ≡ Some v → all ≡ record { events = shown; verdict = v; last = e.state.shared }

-- where a verdict stands the end of the report is the verdict and the tree
abbrev pub VerdictReports : Type 0
VerdictReports =
    (version : ℕ) (all : Run) (shown : List Event) (e : Playing) (lent : Lent) (v : Verdict) → Shows all shown e lent
    → e.verdict ≡ Some v → report_of version all ≡ header version ++ (events_text shown ++ last_text v e.state.shared)

-- a prefix of the first line is a prefix of the report
abbrev pub BeginWrites : Type 0
BeginWrites =
    (version : ℕ) (all : Run) (start told : Option (List ℕ)) → AddsPart start told (header version) → AddsPart start told (report_of version all)

-- what was written is a prefix of the report that holds what was shown
abbrev pub ShownIsPrefix : Type 0
ShownIsPrefix =
    (version : ℕ) (all : Run) (shown : List Event) (e : Playing) (lent : Lent) (start told : Option (List ℕ)) → Shows all shown e lent
    → HasWritten version shown start told → WritesPrefix version all shown start told

-- so is that with a prefix of what an admission shows behind it
abbrev pub AdmissionWrites : Type 0
AdmissionWrites =
    (version : ℕ) (all : Run) (shown : List Event) (e : Playing) (lent : Lent) (start told new : Option (List ℕ))
    → Shows all shown e lent → HasWritten version shown start told → (let a = admission e in AddsPart told new (events_text a.events))
    → WritesPrefix version all shown start new

-- so is that with a prefix of what happenings show behind it, where nothing is lent
abbrev pub HappeningsWrite : Type 0
HappeningsWrite =
    (version : ℕ) (all : Run) (shown : List Event) (e : Playing) (hs : List Happening) (start told new : Option (List ℕ))
    → Shows all shown e [] → HasWritten version shown start told → (let d = played e hs in AddsPart told new (events_text d.step.events))
    → WritesPrefix version all shown start new

-- so is that with a prefix of the verdict and the tree behind it, where a verdict stands
abbrev pub EndWrites : Type 0
EndWrites =
    (version : ℕ) (all : Run) (shown : List Event) (e : Playing) (lent : Lent) (v : Verdict) (start told new : Option (List ℕ))
    → Shows all shown e lent → HasWritten version shown start told → e.verdict ≡ Some v
    → AddsPart told new (last_text v e.state.shared)
    → WritesPrefix version all shown start new

-- `WritesPrefix` without naming what was shown: a prefix of the report was added
abbrev pub PrefixIsPart : Type 0
PrefixIsPart =
    (version : ℕ) (all : Run) (shown : List Event) (start told : Option (List ℕ)) → WritesPrefix version all shown start told
    → AddsPart start told (report_of version all)

-- whatever the actions of a driver are, what was shown at the point after them, and what is left there, is the run
abbrev pub PointsShow : Type 0
PointsShow =
    (image : ImageParts) (words : Words) (seed budget : ℕ) (actions : List Action)
    → let d = point_after_all actions (first_point image words seed budget) in
    Shows (run_of image words seed budget) d.shown d.playing d.lent
