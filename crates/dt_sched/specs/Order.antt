-- What a turn of its head makes of the queue: the order of turns, the blocked turns in a row, and the verdict; and when all
-- wait.
use Rattle.std.specs.Prelude.{ℕ, ◌+◌, ◌==◌, Bool, List, [], ◌∷◌, ◌++◌, drop, length, Option, Some, None, if◌then◌else◌}
use Rattle.dt_base.specs.declared.limits.TheConstants.{FIRST_PID}
use Rattle.dt_base.specs.declared.event.Verdict.{Verdict}
use Rattle.dt_base.specs.declared.event.Verdict.TheVariants.{Ended, Unsupported}
use Rattle.dt_sched.specs.declared.settled.Settled.{Settled}
use Rattle.dt_sched.specs.declared.settled.Settled.TheVariants.{Again, Child, LastChild, Waits, Moved, Gone, Stopped}

-- at the end of process 1 nobody is left, at the end of another one these are
abbrev pub order_after_end : {X : Type 0} → ℕ → List X → List X
order_after_end vpid others = if vpid == FIRST_PID then [] else others

-- a process that lives goes to the tail; then its child goes to the tail, also where the process has ended, but for process 1;
-- at an unsupported call all stays. An order may be one of pids, or of pids and what stands beside each: `was` stands in it
-- for the process before its turn, `own` after it, and `child` for a child by its pid
abbrev pub order_after_turn : {X : Type 0} → ℕ → X → X → (ℕ → X) → List X → Settled → List X
order_after_turn vpid was own child rest Again = rest ++ own ∷ []
order_after_turn vpid was own child rest (Child next) = rest ++ own ∷ child next ∷ []
order_after_turn vpid was own child rest (LastChild next) = order_after_end vpid (rest ++ child next ∷ [])
order_after_turn vpid was own child rest Waits = rest ++ own ∷ []
order_after_turn vpid was own child rest Moved = rest ++ own ∷ []
order_after_turn vpid was own child rest Gone = order_after_end vpid rest
order_after_turn vpid was own child rest (Stopped number) = was ∷ rest

-- a blocked turn is one more in a row; any other turn sets the count to 0, and where the run ends at an unsupported
-- call it stays
abbrev pub blocked_after : ℕ → Settled → ℕ
blocked_after blocked Again = 0
blocked_after blocked (Child child) = 0
blocked_after blocked (LastChild child) = 0
blocked_after blocked Waits = blocked + 1
blocked_after blocked Moved = 0
blocked_after blocked Gone = 0
blocked_after blocked (Stopped number) = blocked

-- the verdict of a turn is Ended at the end of process 1, and Unsupported at an unsupported call
abbrev pub verdict_after : ℕ → Settled → Option Verdict
verdict_after vpid Again = None
verdict_after vpid (Child child) = None
verdict_after vpid (LastChild child) = if vpid == FIRST_PID then Some Ended else None
verdict_after vpid Waits = None
verdict_after vpid Moved = None
verdict_after vpid Gone = if vpid == FIRST_PID then Some Ended else None
verdict_after vpid (Stopped number) = Some (Unsupported vpid number)

-- what decides whose turn comes, and whether one does: the pids of the live processes in the order of their turns, the
-- blocked turns in a row, and the budget that is left, in steps
pub record Schedule : Type 0 where
  pub order : List ℕ
  pub blocked : ℕ
  pub left : ℕ

-- the schedule after a turn of its head, whose cost is paid
unfoldable pub schedule_after_turn : Schedule → ℕ → Settled → Schedule
schedule_after_turn s head turn = record {
  order = order_after_turn head head head (λ child. child) (drop 1 s.order) turn;
  blocked = blocked_after s.blocked turn;
  left = s.left;
}

-- the verdict of a turn of this process
unfoldable pub verdict_of_turn : ℕ → Settled → Option Verdict
verdict_of_turn head turn = verdict_after head turn

-- all wait: as many turns in a row were blocked as there are live processes
unfoldable pub is_all_waiting : Schedule → Bool
is_all_waiting s = s.blocked == length s.order

-- the schedule once something has happened for which processes may have waited
unfoldable pub schedule_after_wake : Schedule → Schedule
schedule_after_wake s = record s { blocked = 0 }
