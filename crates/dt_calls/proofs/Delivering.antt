-- A stop that was served, and the delivery after it.
use Rattle.std.proofs.Common.{arith, ◌≡◌, ◌≢◌, ℕ, ◌≤◌, cond, true, false, Option, None, Some, refl, sym, ap, subst, ◌∙◌}
use Rattle.std.specs.Prelude.{IsSome, IfSome, Ok}
use Rattle.std.specs.FinMap.{get}
use Rattle.dt_base.specs.declared.event.End.TheVariants.{Signal}
use Rattle.dt_host.specs.World.{World}
use Rattle.dt_base.specs.declared.limits.TheConstants.{FIRST_PID}
use Rattle.dt_signals.specs.declared.delivery.Delivery.{Delivery}
use Rattle.dt_signals.specs.declared.delivery.Delivery.TheVariants as delivery
use Rattle.dt_signals.specs.Delivery.{delivery_of}
use Rattle.dt_rv64.specs.declared.machine.Machine.{Machine}
use Rattle.dt_calls.specs.declared.call.effect.Effect.{Effect as EffectInCode}
use Rattle.dt_calls.specs.declared.container.Served.{Served}
use Rattle.dt_calls.specs.declared.container.Served.TheVariants.{Done, Child, LastChild, Blocked, Progress, Ended, Unsupported}
use Rattle.dt_calls.specs.declared.shared.Shared.{Shared}
use Rattle.dt_calls.specs.declared.task.Task.{Task}
use Rattle.dt_calls.specs.Container.{Tasks, task_in, with_signals}
use Rattle.dt_calls.specs.Delivery.{effect_after_delivery, with_delivered, with_delivery, takes_signals, call_state, task_after_delivery, served_at_handler}
use Rattle.dt_calls.specs.Effect.{Effect}
use Rattle.dt_calls.specs.Ends.{with_end, served_after_end}
use Rattle.dt_calls.specs.InCode.{DeliveredAt, shared_of, effect_as}
use Rattle.dt_calls.specs.Sound.{IsSound, KeepsSound, LivesOn, IsLeftAfter, LeavesSound, HasEffect, left}
use Rattle.dt_calls.proofs.Tasks.{some-task, keeps-task}

-- a delivery changes neither a process's pid nor its working directory
same-vpid : (d : Delivery) (t : Task) → (task_after_delivery d t).caller.vpid ≡ t.caller.vpid
same-vpid delivery.Nothing t = refl
same-vpid delivery.Handler t = refl
same-vpid (delivery.Ends signal) t = refl

same-cwd : (d : Delivery) (t : Task) → (task_after_delivery d t).caller.cwd ≡ t.caller.cwd
same-cwd delivery.Nothing t = refl
same-cwd delivery.Handler t = refl
same-cwd (delivery.Ends signal) t = refl

-- all live on where a signal may be delivered, before it is
pub takes-lives : (p : ℕ) (served : Served) (q : ℕ) → takes_signals served ≡ true → LivesOn p served q
takes-lives p Done q is = tt
takes-lives p (Child v) q is = tt
takes-lives p (LastChild v) q is = cc
takes-lives p Blocked q is = tt
takes-lives p Progress q is = tt
takes-lives p Ended q is = cc
takes-lives p (Unsupported number) q is = tt

ended-lives : (p : ℕ) (served : Served) (q : ℕ) → LivesOn p (served_after_end served) q → IsLeftAfter p q
ended-lives p Done q lives = lives
ended-lives p (Child v) q lives = lives
ended-lives p (LastChild v) q lives = lives
ended-lives p Blocked q lives = lives
ended-lives p Progress q lives = lives
ended-lives p Ended q lives = lives
ended-lives p (Unsupported number) q lives = lives

-- the end of a process whose stop asked for nothing before
pub ended-leaves : (p : ℕ) (served : Served) (made : Option Machine) (old mid new : Shared) (v w : World) → LeavesSound p served made old mid v → ((q : ℕ) → LivesOn p served q) → IsSound new w → new.pids.next ≡ mid.pids.next → ((q : ℕ) → p ≢ FIRST_PID → q ≢ p → IsSome (get mid.tasks q) → IsSome (get new.tasks q)) → LeavesSound p (served_after_end served) made old new w
ended-leaves p served made old mid new v w first lives sound next others = record {
  sound = sound;
  tasks = λ q after there. kept q after (first.tasks q (lives q) there);
  next = next ∙ first.next;
  child = by_made made first.child;
}
  where
    kept : (q : ℕ) → LivesOn p (served_after_end served) q → IsSome (get mid.tasks q) → IsSome (get new.tasks q)
    kept q after there = let out = ended-lives p served q after in others q out.first out.apart there

    by_made : (made : Option Machine) → IfSome made (λ _. LivesOn p served old.pids.next → IsSome (get mid.tasks old.pids.next)) → IfSome made (λ _. LivesOn p (served_after_end served) old.pids.next → IsSome (get new.tasks old.pids.next))
    by_made None there = tt
    by_made (Some m) there = λ after. kept old.pids.next after (there (lives old.pids.next))

-- where no signal may be delivered all stays
pub serves-none : (p : ℕ) (forced : Option ℕ) (defined : Effect) (old mid : Shared) (v : World) (m : Machine) (e : EffectInCode) (before now : ℕ)
    → HasEffect p defined old (left mid v m) (Ok e) before now → takes_signals e.served ≡ false
    → HasEffect p (effect_after_delivery forced p defined) old (left mid v m) (Ok e) before now
unfolding effect_after_delivery
serves-none p forced defined old mid v m e before now serves none = record {
  served = ap (effect_after_delivery forced p) serves.served
      ∙ ap (λ b. cond b (with_delivered p (effect_as (shared_of mid v) m e) (delivery_of forced (call_state (task_in mid.tasks p) e.served) (task_in mid.tasks p).signals m)) (effect_as (shared_of mid v) m e)) none;
  kept = serves.kept;
  cause = serves.cause;
}

module _ (p : ℕ) (forced : Option ℕ) (defined : Effect) (old mid : Shared) (v : World) (m : Machine) (e : EffectInCode) (before now : ℕ)
    (serves : HasEffect p defined old (left mid v m) (Ok e) before now) (takes : takes_signals e.served ≡ true) (lives : IsSome (get mid.tasks p))
    (tasks : Tasks) (n : Machine) (came : Delivery)
    (d : DeliveredAt (delivery_of forced (call_state (task_in mid.tasks p) e.served) (task_in mid.tasks p).signals m) p mid.tasks tasks n came) where
  abbrev after : Shared
  after = record mid { tasks = tasks }

  abbrev own : Task
  own = task_in mid.tasks p

  delivered : effect_after_delivery forced p (effect_as (shared_of mid v) m e) ≡ with_delivery p (effect_as (shared_of (record mid { tasks = tasks }) v) n e) came
  unfolding effect_after_delivery
  delivered =
      ap (λ b. cond b (with_delivered p (effect_as (shared_of mid v) m e) (delivery_of forced (call_state own e.served) own.signals m)) (effect_as (shared_of mid v) m e)) takes
      ∙ (λ i. with_delivery p (record (effect_as (shared_of mid v) m e) { shared = record (shared_of mid v) { tasks = sym d.tasks i }; machine = sym d.machine i }) (sym d.delivery i))

  pub keeps-delivered : KeepsSound mid (record mid { tasks = tasks }) v
  keeps-delivered =
      let dr = delivery_of forced (call_state own e.served) own.signals m in
      let new = task_after_delivery dr.delivery (with_signals own dr.signals) in
      subst (λ (x : Tasks). KeepsSound mid (record mid { tasks = x }) v) (sym d.tasks)
      (keeps-task mid p v own new serves.kept.sound (some-task mid.tasks p lives) (same-vpid dr.delivery (with_signals own dr.signals)) (same-cwd dr.delivery (with_signals own dr.signals)))

  -- what was kept is kept over the delivery too, whatever became of the process that lives
  leaves-delivered : (served : Served) → LeavesSound p served e.child old (record mid { tasks = tasks }) v
  leaves-delivered served = record {
    sound = keeps-delivered.sound;
    tasks = λ q after there. keeps-delivered.tasks q (serves.kept.tasks q (takes-lives p e.served q takes) there);
    next = serves.kept.next;
    child = by_made e.child serves.kept.child;
  }
    where
      by_made : (made : Option Machine) → IfSome made (λ _. LivesOn p e.served old.pids.next → IsSome (get mid.tasks old.pids.next)) → IfSome made (λ _. LivesOn p served old.pids.next → IsSome (get tasks old.pids.next))
      by_made None there = tt
      by_made (Some made) there = λ after. keeps-delivered.tasks old.pids.next (there (takes-lives p e.served old.pids.next takes))

  pub serves-nothing : came ≡ delivery.Nothing → HasEffect p (effect_after_delivery forced p defined) old (left (record mid { tasks = tasks }) v n) (Ok e) before now
  serves-nothing is = record {
    served = ap (effect_after_delivery forced p) serves.served ∙ delivered ∙ ap (with_delivery p (effect_as (shared_of after v) n e)) is;
    kept = leaves-delivered e.served;
    cause = serves.cause;
  }

  pub serves-handler : (served : Served) → came ≡ delivery.Handler → served ≡ served_at_handler e.served → HasEffect p (effect_after_delivery forced p defined) old (left (record mid { tasks = tasks }) v n) (Ok (record e { served = served })) before now
  serves-handler served is became = record {
    served = ap (effect_after_delivery forced p) serves.served ∙ delivered ∙ ap (with_delivery p (effect_as (shared_of after v) n e)) is
        ∙ ap (λ (s : Served). record (effect_as (shared_of after v) n e) { served = s }) (sym became);
    kept = leaves-delivered served;
    cause = record { later = serves.cause.later; rose = λ failed. cc };
  }

  pub serves-signal : (signal : ℕ) (new : Shared) (w : World) (f : EffectInCode) (later : ℕ) → came ≡ delivery.Ends signal
      → with_end p (Signal signal) (effect_as (shared_of (record mid { tasks = tasks }) v) n e) ≡ effect_as (shared_of new w) n f
      → IsSound new w → new.pids.next ≡ mid.pids.next → ((q : ℕ) → p ≢ FIRST_PID → q ≢ p → IsSome (get tasks q) → IsSome (get new.tasks q)) → now ≤ later
      → HasEffect p (effect_after_delivery forced p defined) old (left new w n) (Ok f) before later
  serves-signal signal new w f later is ends sound next others more = record {
    served = ap (effect_after_delivery forced p) serves.served ∙ delivered ∙ ap (with_delivery p (effect_as (shared_of after v) n e)) is ∙ ends;
    kept = subst (λ made. LeavesSound p f.served made old new w) (ap (λ (r : Effect). r.child) ends)
        (subst (λ s. LeavesSound p s e.child old new w) (ap (λ (r : Effect). r.served) ends)
        (ended-leaves p e.served e.child old after new v w (leaves-delivered e.served) (λ q. takes-lives p e.served q takes) sound next others));
    cause = record { later = omega (arith, serves.cause.later); rose = λ failed. cc };
  }
