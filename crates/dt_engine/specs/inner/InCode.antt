-- Inner words: what the code has in hand, as the definitions see it with what its host keeps.
use Rattle.std.specs.Prelude.{ℕ, Bool, true, false, List, Option, None, Some, if◌then◌else◌}
use Rattle.std.specs.FinMap.{insert, remove}
use Rattle.dt_base.specs.declared.event.Event.{Event}
use Rattle.dt_base.specs.declared.event.Verdict.{Verdict}
use Rattle.dt_base.specs.declared.event.Verdict.TheVariants as verdict
use Rattle.dt_rv64.specs.declared.segments.Stop.{Stop}
use Rattle.dt_rv64.specs.declared.segments.Stop.TheVariants.{Call, Slice}
use Rattle.dt_calls.specs.declared.container.Served.{Served}
use Rattle.dt_calls.specs.declared.container.Served.TheVariants.{Done, Child, LastChild, Blocked, Progress, Ended, Unsupported}
use Rattle.dt_calls.specs.Timers.{earliest_of, shared_after_jump}
use Rattle.dt_sched.specs.Order.{is_all_waiting, schedule_after_wake}
use Rattle.dt_engine.specs.declared.happening.Admitted.{Admitted}
use Rattle.dt_engine.specs.declared.happening.Admitted.TheVariants as admitted
use Rattle.dt_engine.specs.Turn.{State, Turn}
pub use Rattle.dt_engine.specs.InCode.{Stops, phase_at, noted_stop, with_stop, phase_in, work_in, schedule_of, state_of}
unfoldable pub use Rattle.dt_engine.specs.InCode.{works_in}
pub use Rattle.dt_engine.specs.Playing.{rest_of}

abbrev pub turn_as : State → List Event → Option Verdict → Turn
turn_as next events verdict = record { next = next; events = events; verdict = verdict }

-- all wait after a turn, by the earliest point of time that a live process waits for
abbrev pub turn_by_earliest : Turn → Option ℕ → Turn
turn_by_earliest t None = record t { verdict = Some verdict.Deadlock }
turn_by_earliest t (Some due) = record t {
  next = record t.next { shared = shared_after_jump due t.next.shared; schedule = schedule_after_wake t.next.schedule };
}

-- the same where all wait, unless the run is over by this verdict
abbrev pub turn_unless_over : Turn → Option Verdict → Turn
turn_unless_over t None = if is_all_waiting t.next.schedule then turn_by_earliest t (earliest_of t.next.shared) else t
turn_unless_over t (Some verdict) = t

-- a turn with what follows where all wait
unfoldable pub turn_after_waiting : Turn → Turn
turn_after_waiting t = turn_unless_over t t.verdict

-- the stop that is to be served in a process's turn: that of its last segment, or its call again where it waits
abbrev pub due_stop : Bool → Stop → Stop
due_stop waits stop = if waits then Call else stop

-- what is noted once the stop of a process was served: a child has run no segment
abbrev pub stops_after : Stops → ℕ → Served → Stops
stops_after stops p Done = stops
stops_after stops p (Child vpid) = insert stops vpid Slice
stops_after stops p (LastChild vpid) = insert (remove stops p) vpid Slice
stops_after stops p Blocked = stops
stops_after stops p Progress = stops
stops_after stops p Ended = remove stops p
stops_after stops p (Unsupported number) = stops

-- whether the head's turn has come, by what its admission answers
abbrev pub has_come : Admitted → Bool
has_come (admitted.NotArrived p) = false
has_come admitted.Turn = true
has_come (admitted.Over verdict) = true
