-- Each turn of a run shows few events, also while machines are lent.
use Rattle.std.proofs.Common.{◌≡◌, ℕ, zero, suc, ◌<◌, ◌-◌, List, [], ◌∷◌, drop, Bool, true, false, cond, Option, None, Some, refl, sym, subst}
use Rattle.std.proofs.lemmas.List.Elements.{All-head, All-weaker}
use Rattle.std.specs.Prelude.{IsSome, Result, Ok, Err, nat_le}
use Rattle.std.specs.FinMap.{get}
use Rattle.dt_base.specs.Profile.{has_atomics}
use Rattle.dt_base.specs.Command.{Words}
use Rattle.dt_base.specs.declared.errno.Errno.{Errno}
use Rattle.dt_base.specs.declared.event.Verdict.{Verdict}
use Rattle.dt_base.specs.declared.limits.TheConstants.{FIRST_PID}
use Rattle.dt_exec.specs.declared.program.Program.{Program}
use Rattle.dt_exec.specs.Program.{start_program}
use Rattle.dt_procs.specs.Members.{vpids_of}
use Rattle.dt_sched.specs.Order.{Schedule, schedule_after_turn, order_after_turn, is_all_waiting, schedule_after_wake}
use Rattle.dt_tree.specs.FileTree.{FileTree}
use Rattle.dt_tree.specs.ImageTree.{image_tree}
use Rattle.dt_virt.specs.Clock.{ticks_reaching}
use Rattle.dt_virt.specs.Words.{start_bytes}
use Rattle.dt_calls.specs.Container.{Container, first_container}
use Rattle.dt_calls.specs.Effect.{Effect}
use Rattle.dt_calls.specs.Launch.{launch, launch_of_program, with_input}
use Rattle.dt_calls.specs.Settle.{turn_of_machine, effect_of_turn, process_turn}
use Rattle.dt_calls.specs.Timers.{tasks_after_timers, shared_after_timers, shared_after_jump, earliest_of}
use Rattle.dt_calls.proofs.Fired.{still-timers}
use Rattle.dt_calls.proofs.Fits.{FitsChild, served-fits}
use Rattle.dt_calls.proofs.Tasks.{task-here}
use Rattle.dt_engine.specs.declared.happening.Happening.{Happening}
use Rattle.dt_engine.specs.declared.happening.Happening.TheVariants.{Ran, Admit}
use Rattle.dt_engine.specs.Turn.{State, Turn, Act, turn, turn_of_head, turn_of_work, turn_of_act, stuck_turn, head_pid, act, act_after_waiting, paid_act, unpaid_act, act_of_turn, settled_of}
use Rattle.dt_engine.specs.inner.InCode.{turn_by_earliest, turn_unless_over, turn_after_waiting}
use Rattle.dt_engine.specs.Work.{Work, Prepared, prepared_of}
use Rattle.dt_engine.specs.Ahead.{with_segment_of}
use Rattle.dt_engine.specs.Playing.{Playing, playing_from, playing_in, first_playing}
use Rattle.dt_engine.specs.Happenings.{Step, is_live, may_happen, step_of, step_of_turn}
use Rattle.dt_engine.specs.Admission.{admission, admission_by, awaited}
use Rattle.dt_engine.specs.Played.{none_played, played, played_then, turns}
use Rattle.dt_engine.specs.Lent.{state_with_work}
use Rattle.dt_engine.proofs.Waited.{turn-waits}
use Rattle.dt_runlaws.specs.Few.{ShowsFew, HasFewProcesses}
use Rattle.dt_runlaws.specs.FewRun.{HasFewIn, TurnShowsFew, AdmissionShowsFew, StatesShowFew, FirstStatesHaveFew, AdmissionsShowFew, PlayingsKeepFew, RunsShowFew}
use Rattle.dt_runlaws.proofs.FewCalls.{Comes, turned, shows-none}
use Rattle.dt_runlaws.proofs.FewContainers.{containers-begin-few, launches-leave-few}
use Rattle.dt_runlaws.proofs.FewEnds.{live-timers}
use Rattle.dt_runlaws.proofs.FewMembers.{lives-below}
use Rattle.dt_runlaws.proofs.FewOrders.{Stand, stand-none, stand-one, order-after}

-- few processes, each of the order with a task
has-few : (s : State) → HasFewProcesses s.shared s.next → Stand s.shared.tasks s.schedule.order → HasFewIn s
has-few s processes stand = record { processes = processes; once = stand.once; tasks = stand.live }

stand-few : (s : State) → HasFewIn s → Stand s.shared.tasks s.schedule.order
stand-few s few = record { once = few.once; live = few.tasks }

stuck-few : (s : State) → HasFewIn s → TurnShowsFew (stuck_turn s)
stuck-few s few = record { shown = shows-none; next = few }

-- a turn of p, which stands first
module _ (s : State) (p : ℕ) (rest : List ℕ) (order : s.schedule.order ≡ p ∷ rest) (few : HasFewIn s) where
  first : Stand s.shared.tasks (p ∷ rest)
  first = subst (Stand s.shared.tasks) order (stand-few s few)

  here : IsSome (get s.shared.tasks p)
  here = All-head (λ q. IsSome (get s.shared.tasks q)) p rest first.live

  below : (q : ℕ) → IsSome (get s.shared.tasks q) → q < s.next
  below q some = lives-below s.next q s.shared.members few.processes.members.given (few.processes.lives q some)

  -- one that was paid for
  paid-few : (q : Schedule) (w : Work) (e : Effect) → q.order ≡ p ∷ rest → FitsChild s.next e.served e.child
      → Comes s.next p s.shared few.processes here e → TurnShowsFew (turn_of_act s p (act_of_turn q p w (process_turn e)))
  unfolding act_of_turn schedule_after_turn
  paid-few q w e is fits comes = record {
    shown = comes.shown;
    next = has-few _ comes.few
        (subst (λ ps. Stand e.shared.tasks (order_after_turn p p p (λ child. child) (drop 1 ps) (settled_of e.served))) (sym is)
        (order-after p s.next rest s.shared.tasks e.shared.tasks first below e.served e.child comes.kept comes.child fits));
  }

  -- also with what follows where all wait
  later-few : (t : Turn) (due : Option ℕ) → TurnShowsFew t → TurnShowsFew (turn_by_earliest t due)
  unfolding schedule_after_wake shared_after_jump shared_after_timers
  later-few t None shows = record { shown = shows.shown; next = shows.next }
  later-few t (Some due) shows =
      let c = t.next.shared in
      let ticks = ticks_reaching c.clock due in
      record {
        shown = shows.shown;
        next = has-few _
            (record {
              members = shows.next.processes.members;
              lives = live-timers ticks (vpids_of c.members) c.tasks c.members shows.next.processes.lives;
            })
            (record {
              once = shows.next.once;
              live = All-weaker (λ q. IsSome (get c.tasks q)) (λ q. IsSome (get (tasks_after_timers ticks (vpids_of c.members) c.tasks) q))
                  (still-timers ticks (vpids_of c.members) c.tasks) t.next.schedule.order shows.next.tasks;
            });
      }

  waited-few : (t : Turn) → TurnShowsFew t → TurnShowsFew (turn_after_waiting t)
  unfolding turn_after_waiting
  waited-few t shows = over-few t.verdict
    where
      all-few : (all : Bool) → TurnShowsFew (cond all (turn_by_earliest t (earliest_of t.next.shared)) t)
      all-few true = later-few t (earliest_of t.next.shared) shows
      all-few false = shows

      over-few : (v : Option Verdict) → TurnShowsFew (turn_unless_over t v)
      over-few None = all-few (is_all_waiting t.next.schedule)
      over-few (Some v) = shows

  waits-few : (a : Act) → TurnShowsFew (turn_of_act s p a) → TurnShowsFew (turn_of_act s p (act_after_waiting a))
  waits-few a shows = subst TurnShowsFew (sym (turn-waits s p a)) (waited-few (turn_of_act s p a) shows)

  -- and one that was not
  unpaid-few : (w : Work) → TurnShowsFew (turn_of_act s p (unpaid_act s.shared s.schedule w))
  unpaid-few w = record { shown = shows-none; next = has-few _ few.processes (stand-few s few) }

  act-few : (d : Prepared) → TurnShowsFew (turn_of_act s p (act s.shared s.schedule s.next p d))
  unfolding act paid_act turn_of_machine
  act-few d = by_cost (nat_le d.cost s.schedule.left)
    where
      by_cost : (b : Bool) → TurnShowsFew (turn_of_act s p (cond b (paid_act s.shared (record s.schedule { left = s.schedule.left - d.cost }) s.next p d) (unpaid_act s.shared s.schedule d.work)))
      by_cost true =
          let fits = served-fits s.shared s.next p d.stop d.work.machine in
          let q = record s.schedule { left = s.schedule.left - d.cost } in
          let e = effect_of_turn s.shared s.next p d.work.machine d.stop in
          waits-few (act_of_turn q p d.work (process_turn e))
          (paid-few q d.work e order fits.child (turned s.next p s.shared few.processes here d.work.machine d.stop))
      by_cost false = unpaid-few d.work

  work-few : (found : Option Work) → TurnShowsFew (turn_of_work s p found)
  work-few None = stuck-few s few
  work-few (Some w) = act-few (prepared_of w)

head-few : (s : State) (order : List ℕ) → s.schedule.order ≡ order → HasFewIn s → TurnShowsFew (turn_of_head s (head_pid order))
head-few s [] is few = stuck-few s few
head-few s (p ∷ rest) is few = work-few s p rest is few (get s.works p)

pub states-show-few : StatesShowFew
unfolding turn
states-show-few s few = head-few s s.schedule.order refl few

-- a run begins with few processes
begins-few : (t : FileTree) (seed budget : ℕ) (words : Words) → (let e = playing_in budget (first_container t seed) words in HasFewIn e.state)
unfolding launch
begins-few t seed budget words =
    by_program (start_program (first_container t seed).shared.tree.shape words (start_bytes (first_container t seed).shared.rand) (has_atomics (first_container t seed).shared.tree.version))
    (launches-leave-few (first_container t seed) words (task-here _ FIRST_PID _) (containers-begin-few t seed))
  where
    fed : Container
    fed = let c = first_container t seed in record c { shared = with_input words.input c.shared }

    by_program : (r : Result Program Errno) → (let l = launch_of_program fed r in
        HasFewProcesses l.container.shared l.container.next → (let e = playing_from budget l.container l.launch in HasFewIn e.state))
    by_program (Err errno) few = has-few _ few (stand-none _)
    by_program (Ok program) few = has-few _ few (stand-one _ FIRST_PID (task-here _ FIRST_PID _))

pub first-states-have-few : FirstStatesHaveFew
unfolding first_playing
first-states-have-few image words seed budget = begins-few (image_tree image) seed budget words

-- an admission, by the verdict that stands and who is awaited
admission-few : (e : Playing) (v : Option Verdict) (late : Option ℕ) → HasFewIn e.state → AdmissionShowsFew (admission_by e v late)
admission-few e (Some v) late few = record { shown = shows-none; next = few }
admission-few e None (Some p) few = record { shown = shows-none; next = few }
admission-few e None None few = let step = states-show-few e.state few in record { shown = step.shown; next = step.next }

pub admissions-show-few : AdmissionsShowFew
unfolding admission
admissions-show-few e few = admission-few e e.verdict (awaited e.state) few

-- what changes no more than works
with-segment-few : (p : ℕ) (s : State) → HasFewIn s → HasFewIn (with_segment_of p s)
unfolding with_segment_of
with-segment-few p s few = has-few _ few.processes (stand-few s few)

-- the step of a turn, unless a verdict stands
pub record StepShowsFew (s : Step) : Type 0 where
  pub shown : ShowsFew s.events
  pub next : (let e = s.next in HasFewIn e.state)

step-few : (e : Playing) (v : Option Verdict) → HasFewIn e.state → StepShowsFew (step_of_turn e v)
step-few e (Some v) few = record { shown = shows-none; next = few }
step-few e None few = let step = states-show-few e.state few in record { shown = step.shown; next = step.next }

-- what may happen leaves few processes
happened-few : (e : Playing) (h : Happening) → HasFewIn e.state → (let s = step_of e h in HasFewIn s.next.state)
happened-few e (Ran p) few = with-segment-few p e.state few
happened-few e Admit few = let step = step-few e e.verdict few in step.next

played-few : (e : Playing) (hs : List Happening) → HasFewIn e.state → (let d = played e hs in HasFewIn d.step.next.state)
unfolding played
played-few e [] few = few
played-few e (h ∷ hs) few = by_allowed (may_happen e h) (let s = step_of e h in played-few s.next hs (happened-few e h few))
  where
    by_allowed : (b : Bool) → (let s = step_of e h in let d = played s.next hs in HasFewIn d.step.next.state)
        → (let d = cond b (let s = step_of e h in played_then s (played s.next hs)) (none_played e) in HasFewIn d.step.next.state)
    by_allowed true rest = rest
    by_allowed false rest = few

pub playings-keep-few : PlayingsKeepFew
playings-keep-few e few = record {
  lent = λ p. has-few _ few.processes (stand-few e.state few);
  ran = λ p w. by_life p w (is_live p e.state);
  played = λ hs. played-few e hs few;
}
  where
    by_life : (p : ℕ) (w : Work) (b : Bool) → (let n = cond b (record e { state = state_with_work p w e.state }) e in HasFewIn n.state)
    by_life p w true = has-few _ few.processes (stand-few e.state few)
    by_life p w false = few

turns-few : (count : ℕ) (e : Playing) → HasFewIn e.state → (let t = turns count e in HasFewIn t.next.state)
unfolding turns
turns-few zero e few = few
turns-few (suc count) e few =
    let s = step_of_turn e e.verdict in
    let step = step-few e e.verdict few in
    turns-few count s.next step.next

pub runs-show-few : RunsShowFew
runs-show-few image words seed budget count =
    let t = turns count (first_playing image words seed budget) in
    let few = turns-few count (first_playing image words seed budget) (first-states-have-few image words seed budget) in
    let step = step-few t.next t.next.verdict few in
    step.shown
