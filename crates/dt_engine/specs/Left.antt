-- What is left of a run in play: each call shows the first of it and leaves the rest, so that what was written since the
-- report began is a prefix of the report.
use Rattle.std.specs.Prelude.{◌≡◌, ℕ, List, [], ◌∷◌, ◌++◌, Option, Some, None, if◌then◌else◌}
use Rattle.std.specs.Ordering.{nat_cmp}
use Rattle.std.specs.FinMap.{find, get}
use Rattle.dt_base.specs.declared.event.Verdict.{Verdict}
use Rattle.dt_image.specs.Report.{header, events_text}
use Rattle.dt_rv64.specs.declared.machine.Machine.{Machine}
use Rattle.dt_rv64.specs.Segment.{segment_of}
use Rattle.dt_engine.specs.declared.happening.Happening.{Happening}
use Rattle.dt_engine.specs.Work.{owing_work, work_after_segment}
use Rattle.dt_engine.specs.Turn.{State, is_ended_verdict, turn}
use Rattle.dt_engine.specs.Run.{Run, after_events, report_of}
use Rattle.dt_engine.specs.Ahead.{Away, IsAway, state_with_works}
use Rattle.dt_engine.specs.Playing.{Playing, rest_of, last_text}
use Rattle.dt_engine.specs.Admission.{admission}
use Rattle.dt_engine.specs.Lent.{state_without_work, state_with_work}
use Rattle.dt_engine.specs.Played.{played}

-- a report is its first line, what the run shows, and its end
abbrev pub ReportByParts : Type 0
ReportByParts = (version : ℕ) (r : Run) → report_of version r ≡ header version ++ (events_text r.events ++ last_text r.verdict r.last)

-- what happenings show, and what is left after them, was left before
abbrev pub HappeningsLeave : Type 0
HappeningsLeave =
    (e : Playing) (hs : List Happening) → let d = played e hs in
    rest_of e.state e.verdict ≡ after_events d.step.events (rest_of d.step.next.state d.step.next.verdict)

-- likewise of an admission, with the machines that are away
abbrev pub AdmissionLeaves : Type 0
AdmissionLeaves =
    (ws : Away) (e : Playing) → IsAway e.state ws → let a = admission e in
    rest_of (state_with_works ws e.state) e.verdict
    ≡ after_events a.events (rest_of (state_with_works ws a.next.state) a.next.verdict)

-- what is away before a turn is away after it, unless all processes have ended
abbrev pub AwayStays : Type 0
AwayStays = (ws : Away) (s : State) → IsAway s ws → let t = turn s in IsAway t.next (if is_ended_verdict t.verdict then [] else ws)

-- a machine that is lent is one more that is away
abbrev pub LendLeaves : Type 0
LendLeaves =
    (p : ℕ) (m : Machine) (ws : Away) (s : State) → get s.works p ≡ Some (owing_work m) → find nat_cmp p ws ≡ None
    → state_with_works ((p, owing_work m) ∷ ws) (state_without_work p s) ≡ state_with_works ws s

-- where the segment of a machine that comes back is that of the machine that was lent, as much is left as before
abbrev pub ReturnLeaves : Type 0
ReturnLeaves =
    (p : ℕ) (m : Machine) (ws : Away) (s : State) (v : Option Verdict) → find nat_cmp p ws ≡ None
    → rest_of (state_with_works ws (state_with_work p (work_after_segment (segment_of m)) s)) v
    ≡ rest_of (state_with_works ((p, owing_work m) ∷ ws) s) v
