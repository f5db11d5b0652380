-- An admission: the head of the queue takes its turn, unless its segment has not arrived or the run is over.
use Rattle.std.specs.Prelude.{ℕ, ◌||◌, Bool, false, not, is_some, List, [], Option, Some, None, if◌then◌else◌}
use Rattle.std.specs.FinMap.{get}
use Rattle.dt_base.specs.declared.event.Event.{Event}
use Rattle.dt_base.specs.declared.event.Verdict.{Verdict}
use Rattle.dt_sched.specs.Core.{is_owing}
use Rattle.dt_engine.specs.declared.happening.Admitted.{Admitted}
use Rattle.dt_engine.specs.declared.happening.Admitted.TheVariants as admitted
use Rattle.dt_engine.specs.Work.{Work, Works}
use Rattle.dt_engine.specs.Turn.{State, Turn, head_pid, turn}
use Rattle.dt_engine.specs.Playing.{Playing, playing_after_turn}

-- what it answers, the run then, and what shows
pub record Admission : Type 0 where
  pub answer : Admitted
  pub next : Playing
  pub events : List Event

-- a process's work is at home, and it owes no segment
abbrev pub is_ready_work : Option Work → Bool
is_ready_work None = false
is_ready_work (Some w) = not (is_owing w.phase)

-- the head, where its turn can't come yet: it owes its segment, or its machine is away
abbrev pub awaited_of : Works → Option ℕ → Option ℕ
awaited_of works None = None
awaited_of works (Some p) = if is_ready_work (get works p) then None else Some p

-- likewise of a state
abbrev pub awaited : State → Option ℕ
awaited s = awaited_of s.works (head_pid s.schedule.order)

-- what is answered after a turn
abbrev pub answer_of_turn : Option Verdict → Admitted
answer_of_turn None = admitted.Turn
answer_of_turn (Some verdict) = admitted.Over verdict

-- the head has taken its turn
abbrev pub admission_of_turn : Turn → Admission
admission_of_turn t = record { answer = answer_of_turn t.verdict; next = playing_after_turn t; events = t.events }

-- nothing has happened
abbrev pub no_admission : Playing → Admitted → Admission
no_admission e answer = record { answer = answer; next = e; events = [] }

-- by the verdict that stands, and by who is awaited
abbrev pub admission_by : Playing → Option Verdict → Option ℕ → Admission
admission_by e (Some verdict) head = no_admission e (admitted.Over verdict)
admission_by e None (Some p) = no_admission e (admitted.NotArrived p)
admission_by e None None = admission_of_turn (turn e.state)

-- it has nothing to do where a verdict stands or the head is awaited
abbrev pub is_idle : Playing → Bool
is_idle e = is_some e.verdict || is_some (awaited e.state)

-- an admission
unfoldable pub admission : Playing → Admission
admission e = admission_by e e.verdict (awaited e.state)
