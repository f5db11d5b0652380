-- One turn of a run: the head of the queue.
use Rattle.std.specs.Prelude.{ℕ, ◌-◌, List, [], ◌∷◌, Bool, true, false, Option, Some, None, option_map, nat_le, if◌then◌else◌}
use Rattle.std.specs.FinMap.{empty, get, insert}
use Rattle.dt_base.specs.declared.event.Event.{Event}
use Rattle.dt_base.specs.declared.event.Verdict.{Verdict}
use Rattle.dt_base.specs.declared.event.Verdict.TheVariants as verdict
use Rattle.dt_rv64.specs.declared.machine.Machine.{Machine}
use Rattle.dt_calls.specs.declared.container.Served.{Served}
use Rattle.dt_calls.specs.declared.container.Served.TheVariants.{Done, Child, LastChild, Blocked, Progress, Ended, Unsupported}
use Rattle.dt_calls.specs.Container.{Shared}
use Rattle.dt_calls.specs.Settle.{ProcessTurn, turn_of_machine, next_after, with_own}
use Rattle.dt_calls.specs.Timers.{earliest_of, shared_after_jump}
use Rattle.dt_sched.specs.declared.settled.Settled.{Settled}
use Rattle.dt_sched.specs.declared.settled.Settled.TheVariants as settled
use Rattle.dt_sched.specs.Core.{phase_after_turn}
use Rattle.dt_sched.specs.Order.{Schedule, schedule_after_turn, verdict_of_turn, is_all_waiting, schedule_after_wake}
use Rattle.dt_engine.specs.Work.{Work, Works, Prepared, owing_work, prepared_of}

-- a run between two turns: what processes share, each one's work, the schedule, and the pid that the next child gets
pub record State : Type 0 where
  pub shared : Shared
  pub works : Works
  pub schedule : Schedule
  pub next : ℕ

-- the state after a turn, what showed in it, and the verdict, where it is the last
pub record Turn : Type 0 where
  pub next : State
  pub events : List Event
  pub verdict : Option Verdict

-- what a turn of one process comes to: what is shared and the schedule then, its work, or none where it has ended, a
-- child's machine, what shows, and the verdict, where there is one. The others' work has no part in it
pub record Act : Type 0 where
  pub shared : Shared
  pub schedule : Schedule
  pub own : Option Work
  pub child : Option Machine
  pub events : List Event
  pub verdict : Option Verdict

-- what the queue is told of a turn
abbrev pub settled_of : Served → Settled
settled_of Done = settled.Again
settled_of (Child vpid) = settled.Child vpid
settled_of (LastChild vpid) = settled.LastChild vpid
settled_of Blocked = settled.Waits
settled_of Progress = settled.Moved
settled_of Ended = settled.Gone
settled_of (Unsupported number) = settled.Stopped number

-- its work after its stop was served, or none where it has ended
abbrev pub own_work_after : Work → Settled → Option Machine → Option Work
own_work_after w turn machine = option_map (λ m. record { machine = m; phase = phase_after_turn w.phase turn }) machine

-- what becomes of the process and of the schedule
unfoldable pub act_of_turn : Schedule → ℕ → Work → ProcessTurn → Act
act_of_turn q p w r =
    let t = settled_of r.served in
    record {
      shared = r.shared;
      schedule = schedule_after_turn q p t;
      own = own_work_after w t r.own;
      child = r.child;
      events = r.events;
      verdict = verdict_of_turn p t;
    }

-- all wait after a turn: the time comes to the earliest point that a live process waits for, and the timers fire that are due
-- then; where there is none nothing can happen any more, and the run is over
abbrev pub act_by_earliest : Act → Option ℕ → Act
act_by_earliest a None = record a { verdict = Some verdict.Deadlock }
act_by_earliest a (Some due) = record a { shared = shared_after_jump due a.shared; schedule = schedule_after_wake a.schedule }

-- the same where all wait, unless the run is over by this verdict
abbrev pub act_unless_over : Act → Option Verdict → Act
act_unless_over a None = if is_all_waiting a.schedule then act_by_earliest a (earliest_of a.shared) else a
act_unless_over a (Some verdict) = a

-- what a turn comes to, with what follows where all wait
unfoldable pub act_after_waiting : Act → Act
act_after_waiting a = act_unless_over a a.verdict

-- a turn that was paid for: the stop is served, or a waiting call again, and where all wait then the time passes
unfoldable pub paid_act : Shared → Schedule → ℕ → ℕ → Prepared → Act
paid_act c q next p d = act_after_waiting (act_of_turn q p d.work (turn_of_machine c next p d.stop d.work.machine))

-- the budget doesn't pay for the turn, and nothing of it happens
abbrev pub unpaid_act : Shared → Schedule → Work → Act
unpaid_act c q w = record { shared = c; schedule = q; own = Some w; child = None; events = []; verdict = Some verdict.Budget }

-- what a process does in its turn
unfoldable pub act : Shared → Schedule → ℕ → ℕ → Prepared → Act
act c q next p d =
    if nat_le d.cost q.left then paid_act c (record q { left = q.left - d.cost }) next p d
    else unpaid_act c q d.work

-- whether all processes have ended
abbrev pub is_ended_verdict : Option Verdict → Bool
is_ended_verdict None = false
is_ended_verdict (Some verdict.Ended) = true
is_ended_verdict (Some verdict.Deadlock) = false
is_ended_verdict (Some verdict.Budget) = false
is_ended_verdict (Some (verdict.Unsupported vpid number)) = false
is_ended_verdict (Some (verdict.NoStart errno)) = false

-- with a child, which owes a segment
abbrev pub with_child_work : Works → ℕ → Option Machine → Works
with_child_work works next None = works
with_child_work works next (Some m) = insert works next (owing_work m)

-- the works after a turn: the process's own, that of a child, and the others' as they were; at the end of all none
unfoldable pub works_after_act : Works → ℕ → ℕ → Act → Works
works_after_act works p next a = if is_ended_verdict a.verdict then empty else with_child_work (with_own works p a.own) next a.child

-- the state after what a process did
abbrev pub turn_of_act : State → ℕ → Act → Turn
turn_of_act s p a = record {
  next = record {
    shared = a.shared;
    works = works_after_act s.works p s.next a;
    schedule = a.schedule;
    next = next_after s.next a.child;
  };
  events = a.events;
  verdict = a.verdict;
}

-- nobody stands in the order, or the first of it has no work at home; no run comes here, so that no verdict shows
abbrev pub stuck_turn : State → Turn
stuck_turn s = record { next = s; events = []; verdict = Some verdict.Deadlock }

-- the turn of a process whose work is at home: the segment is run where it owes one and, if the budget pays for the cost,
-- its stop is served
abbrev pub turn_of_work : State → ℕ → Option Work → Turn
turn_of_work s p None = stuck_turn s
turn_of_work s p (Some w) = turn_of_act s p (act s.shared s.schedule s.next p (prepared_of w))

-- the turn of the process that stands first, if one does
abbrev pub turn_of_head : State → Option ℕ → Turn
turn_of_head s None = stuck_turn s
turn_of_head s (Some p) = turn_of_work s p (get s.works p)

-- the pid at the head of an order, if it has one
abbrev pub head_pid : List ℕ → Option ℕ
head_pid [] = None
head_pid (p ∷ rest) = Some p

-- a turn: that of the head of the queue
unfoldable pub turn : State → Turn
turn s = turn_of_head s (head_pid s.schedule.order)
