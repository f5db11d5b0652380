-- The queue of live processes, and what each call makes of it.
use Rattle.std.specs.Prelude.{ℕ, ◌≡◌, ◌-◌, ◌≤◌, ◌==◌, Bool, true, false, not, ◌&&◌, ◌||◌, List, [], ◌∷◌, map, length, nat_le, nat_lt, Option, Some, None, IsTrue, if◌then◌else◌}
use Rattle.dt_base.specs.declared.event.Verdict.{Verdict}
use Rattle.dt_base.specs.declared.event.Verdict.TheVariants.{Ended, Deadlock, Budget}
use Rattle.dt_base.specs.declared.limits.TheConstants.{FIRST_PID, SEGMENT_LIMIT}
use Rattle.dt_sched.specs.declared.queue.TheConstants.{QUEUE_LIMIT}
use Rattle.dt_sched.specs.declared.process.Process.{Process}
use Rattle.dt_sched.specs.declared.process.Phase.{Phase}
use Rattle.dt_sched.specs.declared.process.Phase.TheVariants.{Owes, Ran, Waits}
use Rattle.dt_sched.specs.declared.settled.Head.{Head}
use Rattle.dt_sched.specs.declared.settled.Head.TheVariants.{NotArrived, Ready, AllWait, Over}
use Rattle.dt_sched.specs.declared.settled.Settled.{Settled}
use Rattle.dt_sched.specs.declared.settled.Settled.TheVariants.{Again, Child, LastChild, Waits as Blocked, Moved, Gone, Stopped}
use Rattle.dt_sched.specs.Order.{order_after_turn, blocked_after, verdict_after}

-- the live processes in the order of their turns, the blocked turns in a row, the budget left, and the verdict with
-- which a turn ended the run, if one did
pub record CoreView : Type 0 where
  pub queue : List Process
  pub blocked : ℕ
  pub left : ℕ
  pub verdict : Option Verdict

-- a core with these parts
abbrev pub core_of : List Process → ℕ → ℕ → Option Verdict → CoreView
core_of queue blocked left verdict = record { queue = queue; blocked = blocked; left = left; verdict = verdict }

-- a process that owes a segment
abbrev pub owing_process : ℕ → Process
owing_process vpid = record { vpid = vpid; phase = Owes }

-- at first there is the process 1, which owes a segment
abbrev pub first_core : ℕ → CoreView
first_core budget = core_of (owing_process FIRST_PID ∷ []) 0 budget None

-- where a run is over before its first turn there is no process, and the verdict says why
abbrev pub over_core : ℕ → Verdict → CoreView
over_core budget verdict = core_of [] 0 budget (Some verdict)

-- a process of this virtual pid stands in the queue
abbrev pub is_queued : ℕ → List Process → Bool
is_queued vpid [] = false
is_queued vpid (p ∷ ps) = (p.vpid == vpid) || is_queued vpid ps

-- no process stands there twice
abbrev pub is_distinct : List Process → Bool
is_distinct [] = true
is_distinct (p ∷ ps) = not (is_queued p.vpid ps) && is_distinct ps

-- the segment has not arrived
abbrev pub is_owing : {S : Type 0} → Phase S → Bool
is_owing Owes = true
is_owing (Ran count) = false
is_owing Waits = false

-- the call is tried again without a segment
abbrev pub is_waiting : {S : Type 0} → Phase S → Bool
is_waiting Owes = false
is_waiting (Ran count) = false
is_waiting Waits = true

-- the processes whose segment has not arrived, in queue order
abbrev pub owing_vpids : List Process → List ℕ
owing_vpids [] = []
owing_vpids (p ∷ ps) = if is_owing p.phase then p.vpid ∷ owing_vpids ps else owing_vpids ps

-- the process of this virtual pid waits
abbrev pub is_vpid_waiting : ℕ → List Process → Bool
is_vpid_waiting vpid [] = false
is_vpid_waiting vpid (p ∷ ps) = ((p.vpid == vpid) && is_waiting p.phase) || is_vpid_waiting vpid ps

-- a process with its cost, if it is the one whose segment arrives
abbrev pub process_after_arrival : ℕ → ℕ → Process → Process
process_after_arrival vpid cost p = if p.vpid == vpid then record p { phase = Ran cost } else p

-- an arrival gives the process its cost, and charges nothing
abbrev pub core_after_arrival : ℕ → ℕ → CoreView → CoreView
core_after_arrival vpid cost core = record core { queue = map (process_after_arrival vpid cost) core.queue }

-- what a turn costs: the count of its segment, or 1 where a call is tried again; 0 stands for a cost that is not
-- known yet
abbrev pub cost_of : Phase ℕ → ℕ
cost_of Owes = 0
cost_of (Ran count) = count
cost_of Waits = 1

-- the count of a segment is 1 to 65,536
abbrev pub is_segment_count : ℕ → Bool
is_segment_count count = nat_le 1 count && nat_le count SEGMENT_LIMIT

-- a segment that has arrived has such a count
abbrev pub has_segment_count : Phase ℕ → Bool
has_segment_count Owes = true
has_segment_count (Ran count) = is_segment_count count
has_segment_count Waits = true

-- likewise all segments of the queue
abbrev pub have_segment_counts : List Process → Bool
have_segment_counts [] = true
have_segment_counts (p ∷ ps) = has_segment_count p.phase && have_segment_counts ps

-- the head: its segment has not arrived, or it is ready, or its cost is greater than the budget left; with no process
-- left the run has ended
abbrev pub queue_head : ℕ → List Process → Head
queue_head left [] = Over Ended
queue_head left (p ∷ ps) =
    if is_owing p.phase then NotArrived p.vpid
    else if nat_le (cost_of p.phase) left then Ready p.vpid
    else Over Budget

-- the verdict comes before the head, and so does that all wait: that as many turns in a row were blocked as there are live
-- processes
abbrev pub head_unless_over : Option Verdict → ℕ → ℕ → List Process → Head
head_unless_over None blocked left queue = if blocked == length queue then AllWait else queue_head left queue
head_unless_over (Some verdict) blocked left queue = Over verdict

-- the verdict where there is one, else that all wait, or the head of the queue
abbrev pub head : CoreView → Head
head core = head_unless_over core.verdict core.blocked core.left core.queue

-- the head can take its turn
abbrev pub IsReady : Head → Type 0
IsReady head = (vpid : ℕ) × (head ≡ Ready vpid)

-- where a process stands after its turn, by how it stood once the turn's cost was known: at an unsupported call it stays so.
-- Of one that has ended this is never asked
abbrev pub phase_after_turn : {S : Type 0} → Phase S → Settled → Phase S
phase_after_turn phase Again = Owes
phase_after_turn phase (Child child) = Owes
phase_after_turn phase (LastChild child) = phase
phase_after_turn phase Blocked = Waits
phase_after_turn phase Moved = Waits
phase_after_turn phase Gone = phase
phase_after_turn phase (Stopped number) = phase

-- a process after its turn
abbrev pub process_after_turn : Process → Settled → Process
process_after_turn p turn = record p { phase = phase_after_turn p.phase turn }

-- the processes after a turn of the first of them
abbrev pub processes_after_turn : Process → List Process → Settled → List Process
processes_after_turn p rest turn = order_after_turn p.vpid p (process_after_turn p turn) owing_process rest turn

-- with no head nothing changes, and no turn is ready
abbrev pub core_after_turn_of : CoreView → List Process → Settled → CoreView
core_after_turn_of core [] turn = core
core_after_turn_of core (p ∷ rest) turn =
    let queue = processes_after_turn p rest turn in
    let blocked = blocked_after core.blocked turn in
    record {
      queue = queue;
      blocked = blocked;
      left = core.left - cost_of p.phase;
      verdict = verdict_after p.vpid turn;
    }

-- what a turn of the head makes of the queue, the count of blocked turns, the budget, which falls by its cost, and
-- the verdict
abbrev pub core_after_turn : CoreView → Settled → CoreView
core_after_turn core turn = core_after_turn_of core core.queue turn

-- something has happened for which processes may have waited: no turn in a row was blocked since then
abbrev pub core_after_wake : CoreView → CoreView
core_after_wake core = record core { blocked = 0 }

-- nothing can happen for which the processes wait, and the run is over
abbrev pub core_after_deadlock : CoreView → CoreView
core_after_deadlock core = record core { verdict = Some Deadlock }

-- a child's virtual pid is new to the queue, and where its parent lives there is room in the queue
abbrev pub has_room : List Process → Settled → Bool
has_room queue Again = true
has_room queue (Child child) = not (is_queued child queue) && nat_lt (length queue) QUEUE_LIMIT
has_room queue (LastChild child) = not (is_queued child queue)
has_room queue Blocked = true
has_room queue Moved = true
has_room queue Gone = true
has_room queue (Stopped number) = true

-- no turn has ended the run: process 1 lives, and no more turns in a row were blocked than there are live processes
pub record IsOngoing (core : CoreView) : Type 0 where
  pub first : IsTrue (is_queued FIRST_PID core.queue)
  pub blocked : core.blocked ≤ length core.queue

-- the queue holds each live process once, as many as it has room for, with counts that segments have; without a verdict no
-- turn has ended the run
pub record IsCore (core : CoreView) : Type 0 where
  pub each_once : IsTrue (is_distinct core.queue)
  pub few : length core.queue ≤ QUEUE_LIMIT
  pub counted : IsTrue (have_segment_counts core.queue)
  pub going : core.verdict ≡ None → IsOngoing core
