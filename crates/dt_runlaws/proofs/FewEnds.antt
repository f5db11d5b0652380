-- The end of processes shows as many events at most as there may be processes, none of them an output.
use Rattle.std.proofs.Common.{arith, ◌≡◌, ◌≢◌, ℕ, ◌+◌, ◌≤◌, ◌==◌, List, [], ◌∷◌, length, Bool, true, false, cond, Option, None, Some, refl, sym, ap, subst, ◌∙◌}
use Rattle.std.proofs.lemmas.List.{length-map}
use Rattle.std.proofs.lemmas.Bool.Decides.{nat_tests}
use Rattle.std.specs.Prelude.{IsSome, unwrap_or}
use Rattle.std.specs.Cmp.{nat_cmp_total}
use Rattle.std.specs.FinMap.{get, insert, remove, keys, nat_cmp-IsAntisymmetric}
use Rattle.dt_base.specs.declared.abi.TheConstants.{SIGKILL, SIGCHLD}
use Rattle.dt_base.specs.declared.event.End.{End}
use Rattle.dt_base.specs.declared.event.End.TheVariants.{Signal}
use Rattle.dt_base.specs.declared.event.Event.TheVariants.{Exit}
use Rattle.dt_base.specs.declared.limits.TheConstants.{FIRST_PID}
use Rattle.dt_procs.specs.declared.member.Member.{Member}
use Rattle.dt_procs.specs.declared.member.TheConstants.{PROCESS_LIMIT}
use Rattle.dt_procs.specs.Members.{has_live, members_after_end, parent_pid}
use Rattle.dt_tables.proofs.Maps.{at_insert, at_remove}
use Rattle.dt_calls.specs.declared.task.Task.{Task}
use Rattle.dt_calls.specs.Container.{Shared, Tasks, tasks_after_raise, tasks_after_raise_in, with_signals}
use Rattle.dt_calls.specs.Ends.{shared_after_one_end, shared_after_kills, shared_after_end, kill_events, end_events}
use Rattle.dt_calls.specs.Timers.{task_at_ticks, tasks_after_timer_in, tasks_after_timer, tasks_after_timers}
use Rattle.dt_calls.proofs.Ended.{lives-ended, others-kept}
use Rattle.dt_signals.specs.Signals.{with_pending}
use Rattle.dt_runlaws.specs.Few.{outputs, HasFewProcesses}
use Rattle.dt_runlaws.proofs.FewMembers.{few-ended}
use Rattle.dt_runlaws.proofs.FewTasks.{keys-put, keys-remove, live-few}

-- each task is that of a process that lives
abbrev pub AreLive : Tasks → List Member → Type 0
AreLive tasks ms = (q : ℕ) → IsSome (get tasks q) → has_live ms q ≡ true

-- another task for a process that lives
pub live-put : (tasks : Tasks) (ms : List Member) (p : ℕ) (t : Task) → AreLive tasks ms → has_live ms p ≡ true → AreLive (insert tasks p t) ms
live-put tasks ms p t live here = λ q.
    at_insert nat_cmp_total nat_cmp-IsAntisymmetric (λ found. IsSome found → has_live ms q ≡ true) tasks p t q
    (λ is some. ap (has_live ms) is ∙ here) (λ apart. live q)

-- a signal that is pending at one
pub live-raised : (tasks : Tasks) (ms : List Member) (p signal : ℕ) → AreLive tasks ms → AreLive (tasks_after_raise p signal tasks) ms
live-raised tasks ms p signal live = by_found (get tasks p) refl
  where
    by_found : (found : Option Task) → get tasks p ≡ found → AreLive (tasks_after_raise_in p signal tasks found) ms
    by_found None is = live
    by_found (Some t) is = live-put tasks ms p (with_signals t (with_pending signal t.signals)) live (live p (subst (λ found. IsSome found) (sym is) refl))

-- timers that fire
pub live-timers : (ticks : ℕ) (ps : List ℕ) (tasks : Tasks) (ms : List Member) → AreLive tasks ms → AreLive (tasks_after_timers ticks ps tasks) ms
unfolding tasks_after_timers
live-timers ticks [] tasks ms live = live
live-timers ticks (p ∷ ps) tasks ms live = live-timers ticks ps (tasks_after_timer ticks p tasks) ms (by_found (get tasks p) refl)
  where
    by_found : (found : Option Task) → get tasks p ≡ found → AreLive (tasks_after_timer_in ticks p tasks found) ms
    by_found None is = live
    by_found (Some t) is = live-put tasks ms p (task_at_ticks ticks t) live (live p (subst (λ found. IsSome found) (sym is) refl))

pub keys-raised : (tasks : Tasks) (p signal : ℕ) → length (keys (tasks_after_raise p signal tasks)) ≡ length (keys tasks)
keys-raised tasks p signal = by_found (get tasks p) refl
  where
    by_found : (found : Option Task) → get tasks p ≡ found → length (keys (tasks_after_raise_in p signal tasks found)) ≡ length (keys tasks)
    by_found None is = refl
    by_found (Some t) is = keys-put tasks p (with_signals t (with_pending signal t.signals)) (subst (λ found. IsSome found) (sym is) refl)

-- without one that ends
live-gone : (tasks : Tasks) (ms : List Member) (p : ℕ) (end : End) → AreLive tasks ms → AreLive (remove tasks p) (members_after_end p end ms)
live-gone tasks ms p end live = λ q.
    at_remove nat_cmp_total nat_cmp-IsAntisymmetric (λ found. IsSome found → has_live (members_after_end p end ms) q ≡ true) tasks p q
    (λ is no. cc) (λ apart some. lives-ended p end q ms apart ∙ live q some)

module _ (next : ℕ) where
  -- a process ends
  pub one_end-few : (p : ℕ) (end : End) (c : Shared) → HasFewProcesses c next → HasFewProcesses (shared_after_one_end p end c) next
  unfolding shared_after_one_end
  one_end-few p end c few = record {
    members = few-ended c.members next p end few.members;
    lives = live-raised (remove c.tasks p) (members_after_end p end c.members) (unwrap_or (parent_pid c.members p) 0) SIGCHLD
        (live-gone c.tasks c.members p end few.lives);
  }

  -- processes are killed
  kills-few : (ps : List ℕ) (c : Shared) → HasFewProcesses c next → HasFewProcesses (shared_after_kills ps c) next
  unfolding shared_after_kills
  kills-few [] c few = few
  kills-few (p ∷ ps) c few = kills-few ps (shared_after_one_end p (Signal SIGKILL) c) (one_end-few p (Signal SIGKILL) c few)

  -- a process ends, and all others where it is the first
  pub end-few : (p : ℕ) (end : End) (c : Shared) → HasFewProcesses c next → HasFewProcesses (shared_after_end p end c) next
  unfolding shared_after_end
  end-few p end c few = by_first (p == FIRST_PID) (one_end-few p end c few)
    where
      by_first : (b : Bool) → (let left = shared_after_one_end p end c in HasFewProcesses left next → HasFewProcesses (cond b (shared_after_kills (keys left.tasks) left) left) next)
      by_first true few = kills-few (keys (shared_after_one_end p end c).tasks) (shared_after_one_end p end c) few
      by_first false few = few

-- another process lives on, if that was not the first
pub end-kept : (p q : ℕ) (end : End) (c : Shared) → p ≢ FIRST_PID → q ≢ p → IsSome (get c.tasks q) → IsSome (get (shared_after_end p end c).tasks q)
unfolding shared_after_end
end-kept p q end c first apart there = by_first (p == FIRST_PID) refl (others-kept p q end c (shared_after_one_end p end c) refl apart there)
  where
    by_first : (b : Bool) → (p == FIRST_PID) ≡ b → (let left = shared_after_one_end p end c in IsSome (get left.tasks q) → IsSome (get (cond b (shared_after_kills (keys left.tasks) left) left).tasks q))
    by_first true is kept = absurd (first (grind (arith, nat_tests, is)))
    by_first false is kept = kept

no-outputs : (ps : List ℕ) → outputs (kill_events ps) ≡ []
no-outputs [] = refl
no-outputs (p ∷ ps) = no-outputs ps

-- no end is an output
pub end-outputs : (p : ℕ) (end : End) (c : Shared) → outputs (end_events p end c) ≡ []
end-outputs p end c = by_first (p == FIRST_PID)
  where
    by_first : (b : Bool) → outputs (cond b (kill_events (keys (shared_after_one_end p end c).tasks)) []) ≡ []
    by_first true = no-outputs (keys (shared_after_one_end p end c).tasks)
    by_first false = refl

-- as many processes have tasks after an end as had before, less one
left-keys : (p : ℕ) (end : End) (c : Shared) → IsSome (get c.tasks p) → length (keys (shared_after_one_end p end c).tasks) + 1 ≡ length (keys c.tasks)
unfolding shared_after_one_end
left-keys p end c there =
    omega (arith, keys-raised (remove c.tasks p) (unwrap_or (parent_pid c.members p) 0) SIGCHLD, keys-remove c.tasks p there)

-- the ends are no more than there may be processes
pub end-events : (p next : ℕ) (end : End) (c : Shared) → HasFewProcesses c next → IsSome (get c.tasks p) → length (end_events p end c) ≤ PROCESS_LIMIT
end-events p next end c few there = by_first (p == FIRST_PID)
  where
    by_first : (b : Bool) → length (Exit p end ∷ cond b (kill_events (keys (shared_after_one_end p end c).tasks)) []) ≤ PROCESS_LIMIT
    by_first true =
        let kills = length-map (keys (shared_after_one_end p end c).tasks) (λ (q : ℕ). Exit q (Signal SIGKILL)) in
        omega (arith, left-keys p end c there, live-few c.tasks c.members few.lives, few.members.few)
    by_first false = omega arith
