-- Machines that are lent, so that their segments are run elsewhere, and that come back.
use Rattle.std.specs.Prelude.{◌≡◌, ℕ, ◌∷◌, None, if◌then◌else◌}
use Rattle.std.specs.Ordering.{nat_cmp}
use Rattle.std.specs.FinMap.{find, insert, remove}
use Rattle.dt_rv64.specs.declared.machine.Machine.{Machine}
use Rattle.dt_rv64.specs.declared.segments.Seg.{Seg}
use Rattle.dt_rv64.specs.Segment.{segment_of}
use Rattle.dt_sched.specs.declared.process.Phase.TheVariants.{Ran}
use Rattle.dt_engine.specs.Work.{Work, owing_work, work_after_segment}
use Rattle.dt_engine.specs.Turn.{State}
use Rattle.dt_engine.specs.Ahead.{Away, with_segment_of, state_with_works}
use Rattle.dt_engine.specs.Playing.{Playing}
use Rattle.dt_engine.specs.Happenings.{is_live}

-- the machine of a process is lent
abbrev pub state_without_work : ℕ → State → State
state_without_work p s = record s { works = remove s.works p }

-- likewise of a run in play
abbrev pub playing_without_work : ℕ → Playing → Playing
playing_without_work p e = record e { state = state_without_work p e.state }

-- what comes back: a machine, and the segment that it has run
abbrev pub returned_work : Machine → Seg → Work
returned_work m seg = record { machine = m; phase = Ran seg }

-- it stands for its process then, which has no other
abbrev pub state_with_work : ℕ → Work → State → State
state_with_work p w s = record s { works = insert s.works p w }

-- likewise of a run in play; what comes back to a process that has ended is dropped
abbrev pub playing_with_work : ℕ → Work → Playing → Playing
playing_with_work p w e = if is_live p e.state then record e { state = state_with_work p w e.state } else e

-- where the segment is that of the machine which was lent, with the machines that are away this is a segment of its process
abbrev pub ReturnRuns : Type 0
ReturnRuns =
    (p : ℕ) (m : Machine) (ws : Away) (s : State) → find nat_cmp p ws ≡ None
    → state_with_works ws (state_with_work p (work_after_segment (segment_of m)) s)
    ≡ with_segment_of p (state_with_works ((p, owing_work m) ∷ ws) s)
