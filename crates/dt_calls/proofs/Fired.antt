-- The timers that fire, and what they leave.
use Rattle.std.proofs.Common.{◌≡◌, ℕ, ◌+◌, ◌<◌, List, [], ◌∷◌, length, drop, drop-cons, add-one, get_or, Option, None, Some, refl, sym, ap, subst, ◌∙◌}
use Rattle.std.specs.Prelude.{IsSome, IfSome, Ok}
use Rattle.std.specs.FinMap.{get}
use Rattle.dt_host.specs.World.{World}
use Rattle.dt_rv64.specs.declared.machine.Machine.{Machine}
use Rattle.dt_calls.specs.declared.call.effect.Effect.{Effect as EffectInCode}
use Rattle.dt_calls.specs.declared.shared.Shared.{Shared}
use Rattle.dt_calls.specs.declared.task.Task.{Task}
use Rattle.dt_calls.specs.Container.{Tasks}
use Rattle.dt_calls.specs.Effect.{Effect}
use Rattle.dt_calls.specs.InCode.{ContainerView, Lives, shared_of, container_of, effect_as}
use Rattle.dt_calls.specs.Settle.{shared_after_waiting, container_after_jump}
use Rattle.dt_calls.specs.Sound.{IsSound, IsSoundContainer, KeepsSound, ChangesTasks, LivesOn, HasEffect, left}
use Rattle.dt_calls.specs.Timers.{sooner, due_in, earliest_after, earliest_in, task_at_ticks, tasks_after_timer_in, tasks_after_timer, tasks_after_timers, shared_after_timers, shared_after_jump, effect_after_timers}
use Rattle.dt_calls.proofs.Tasks.{still-insert, keeps-task}

-- each process that had a task has one once timers have fired
still-timer : (ticks p : ℕ) (tasks : Tasks) (q : ℕ) → IsSome (get tasks q) → IsSome (get (tasks_after_timer ticks p tasks) q)
still-timer ticks p tasks q some = by_found (get tasks p)
  where
    by_found : (found : Option Task) → IsSome (get (tasks_after_timer_in ticks p tasks found) q)
    by_found None = some
    by_found (Some t) = still-insert tasks p (task_at_ticks ticks t) q some

pub still-timers : (ticks : ℕ) (ps : List ℕ) (tasks : Tasks) (q : ℕ) → IsSome (get tasks q) → IsSome (get (tasks_after_timers ticks ps tasks) q)
unfolding tasks_after_timers
still-timers ticks [] tasks q some = some
still-timers ticks (p ∷ ps) tasks q some = still-timers ticks ps (tasks_after_timer ticks p tasks) q (still-timer ticks p tasks q some)

-- a timer that fires changes neither a process's pid nor its working directory
keeps-timer : (c : Shared) (ticks p : ℕ) (w : World) → IsSound c w → KeepsSound c (record c { tasks = tasks_after_timer ticks p c.tasks }) w
keeps-timer c ticks p w sound = by_found (get c.tasks p) refl
  where
    by_found : (found : Option Task) → get c.tasks p ≡ found → KeepsSound c (record c { tasks = tasks_after_timer_in ticks p c.tasks found }) w
    by_found None is = record { sound = sound; tasks = λ q some. some; next = refl }
    by_found (Some t) is = keeps-task c p w t (task_at_ticks ticks t) sound is refl refl

pub keeps-timers : (ticks : ℕ) (ps : List ℕ) (c : Shared) (w : World) → IsSound c w → KeepsSound c (record c { tasks = tasks_after_timers ticks ps c.tasks }) w
unfolding tasks_after_timers
keeps-timers ticks [] c w sound = record { sound = sound; tasks = λ q some. some; next = refl }
keeps-timers ticks (p ∷ ps) c w sound =
    let one = keeps-timer c ticks p w sound in
    let rest = keeps-timers ticks ps (record c { tasks = tasks_after_timer ticks p c.tasks }) w one.sound in
    record { sound = rest.sound; tasks = λ q some. rest.tasks q (one.tasks q some); next = rest.next ∙ one.next }

pub changes-timers : (c : Shared) (tasks : Tasks) (ticks : ℕ) (ps : List ℕ) → tasks ≡ tasks_after_timers ticks ps c.tasks → ChangesTasks c (record c { tasks = tasks })
changes-timers c tasks ticks ps is =
    subst (λ (x : Tasks). ChangesTasks c (record c { tasks = x })) (sym is)
    (record { rest = refl; kept = λ w sound. keeps-timers ticks ps c w sound })

-- the timers of the processes that are left fire, those before have
pub fires-none : (ticks : ℕ) (tasks : Tasks) → tasks_after_timers ticks [] tasks ≡ tasks
unfolding tasks_after_timers
fires-none ticks tasks = refl

pub fires-next : (ticks : ℕ) (ps : List ℕ) (k p : ℕ) (tasks next whole : Tasks) → k < length ps → get_or ps k 0 ≡ p
    → whole ≡ tasks_after_timers ticks (drop k ps) tasks → next ≡ tasks_after_timer ticks p tasks → whole ≡ tasks_after_timers ticks (drop (k + 1) ps) next
unfolding tasks_after_timers
fires-next ticks ps k p tasks next whole within is so fires =
    so ∙ ap (λ qs. tasks_after_timers ticks qs tasks) (drop-cons ps k 0 within)
    ∙ ap (λ n. tasks_after_timers ticks (drop n ps) (tasks_after_timer ticks (get_or ps k 0) tasks)) (sym (add-one k))
    ∙ ap (tasks_after_timers ticks (drop (k + 1) ps)) (ap (λ q. tasks_after_timer ticks q tasks) is ∙ sym fires)

-- the earliest due of those that are left, and of those before
pub earliest-none : (due : Option ℕ) (tasks : Tasks) → earliest_after due [] tasks ≡ due
unfolding earliest_after
earliest-none due tasks = refl

pub earliest-next : (ps : List ℕ) (k p : ℕ) (due next whole : Option ℕ) (tasks : Tasks) → k < length ps → get_or ps k 0 ≡ p
    → whole ≡ earliest_after due (drop k ps) tasks → next ≡ sooner due (due_in (get tasks p)) → whole ≡ earliest_after next (drop (k + 1) ps) tasks
unfolding earliest_after
earliest-next ps k p due next whole tasks within is so then =
    so ∙ ap (λ qs. earliest_after due qs tasks) (drop-cons ps k 0 within)
    ∙ ap (λ n. earliest_after (sooner due (due_in (get tasks (get_or ps k 0)))) (drop n ps) tasks) (sym (add-one k))
    ∙ ap (λ (d : Option ℕ). earliest_after d (drop (k + 1) ps) tasks) (ap (λ q. sooner due (due_in (get tasks q))) is ∙ sym then)

-- where no process is waited for with a due, all stays
pub sooner-none : (due : Option ℕ) → sooner due None ≡ due
sooner-none None = refl
sooner-none (Some d) = refl

-- a stop that was served, and the timers that fired after it
pub serves-timers : (p : ℕ) (defined : Effect) (old mid new : Shared) (w : World) (m : Machine) (e : EffectInCode) (before now : ℕ) → HasEffect p defined old (left mid w m) (Ok e) before now
    → ChangesTasks mid new → shared_of new w ≡ shared_after_timers (shared_of mid w) → HasEffect p (effect_after_timers defined) old (left new w m) (Ok e) before now
serves-timers p defined old mid new w m e before now serves changes fired = record {
  served = ap effect_after_timers serves.served ∙ (λ i. record (effect_as (shared_of new w) m e) { shared = sym fired i });
  kept = record {
    sound = kept.sound;
    tasks = λ q lives there. kept.tasks q (serves.kept.tasks q lives there);
    next = kept.next ∙ serves.kept.next;
    child = by_made e.child serves.kept.child;
  };
  cause = serves.cause;
}
  where
    kept : KeepsSound mid new w
    kept = changes.kept w serves.kept.sound

    by_made : (made : Option Machine) → IfSome made (λ _. LivesOn p e.served old.pids.next → IsSome (get mid.tasks old.pids.next)) → IfSome made (λ _. LivesOn p e.served old.pids.next → IsSome (get new.tasks old.pids.next))
    by_made None there = tt
    by_made (Some made) there = λ lives. kept.tasks old.pids.next (there lives)

-- a container after the time has come to the earliest point that a live process waits for
module _ (v s : ContainerView) (shared : Shared) (w : World) (same : s ≡ v) (kept : (u : World) → IsSound s.shared u → KeepsSound s.shared shared u) where
  abbrev jumped : ContainerView
  jumped = record s { shared = shared }

  pub jumps : (due : ℕ) → earliest_in s.shared ≡ Some due → shared_of shared w ≡ shared_after_jump due (shared_of s.shared w) → shared.pids ≡ s.shared.pids
      → container_of (record s { shared = shared }) w ≡ container_after_jump (container_of v w)
  jumps due earliest after pids =
      (λ i. record (container_of s w) { shared = after i; next = (let t = pids i in t.next) })
      ∙ ap (λ (d : Option ℕ). record (container_of s w) { shared = shared_after_waiting (shared_of s.shared w) d }) (sym earliest)
      ∙ ap (λ (x : ContainerView). container_after_jump (container_of x w)) same

  pub sound-jumped : IsSoundContainer v w → IsSoundContainer (record s { shared = shared }) w
  sound-jumped sound =
      let before = subst (λ (x : ContainerView). IsSoundContainer x w) (sym same) sound in
      let after = kept w before.shared in
      record { shared = after.sound; paired = λ p some. after.tasks p (before.paired p some); few = before.few }

  pub lives-jumped : IsSoundContainer v w → (p : ℕ) → Lives v p → Lives (record s { shared = shared }) p
  lives-jumped sound p lives =
      let before = subst (λ (x : ContainerView). IsSoundContainer x w) (sym same) sound in
      let there = subst (λ (x : ContainerView). Lives x p) (sym same) lives in
      let after = kept w before.shared in
      record { task = after.tasks p there.task; place = there.place }
