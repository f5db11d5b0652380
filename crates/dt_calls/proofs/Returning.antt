-- A return from a handler, by whether its frame could be read.
use Rattle.std.proofs.Common.{◌≡◌, ℕ, cond, Bool, true, false, refl, sym, ap, subst, ◌∙◌}
use Rattle.std.specs.Prelude.{IsSome}
use Rattle.std.specs.FinMap.{get}
use Rattle.dt_base.specs.declared.abi.TheConstants.{SIGSEGV}
use Rattle.dt_base.specs.declared.event.End.TheVariants.{Signal}
use Rattle.dt_host.specs.World.{World}
use Rattle.dt_rv64.specs.declared.machine.Machine.{Machine}
use Rattle.dt_calls.specs.declared.container.Served.TheVariants.{Done}
use Rattle.dt_calls.specs.declared.shared.Shared.{Shared}
use Rattle.dt_calls.specs.Container.{Tasks, task_in}
use Rattle.dt_calls.specs.Effect.{Effect, quiet_effect}
use Rattle.dt_calls.specs.Ends.{with_end}
use Rattle.dt_calls.specs.InCode.{SigreturnAt, shared_of}
use Rattle.dt_calls.specs.SignalCalls.{after_sigreturn, with_signals_of, sigreturn_call}
use Rattle.dt_calls.specs.Sound.{IsSound, KeepsSound}
use Rattle.dt_calls.proofs.Tasks.{some-task, keeps-task}

module _ (c : Shared) (p : ℕ) (w : World) (m : Machine) (tasks : Tasks) (n : Machine) (was_read : Bool)
    (d : SigreturnAt (after_sigreturn (task_in c.tasks p).signals m) p c.tasks tasks n was_read) where
  abbrev back : Effect
  back = let b = after_sigreturn (task_in c.tasks p).signals m in quiet_effect (with_signals_of (shared_of c w) p b.signals) b.machine Done

  back-is : back ≡ quiet_effect (shared_of (record c { tasks = tasks }) w) n Done
  back-is = λ i. quiet_effect (record (shared_of c w) { tasks = sym d.tasks i }) (sym d.machine i) Done

  -- the process goes on
  pub returned : was_read ≡ true → sigreturn_call (shared_of c w) p m ≡ quiet_effect (shared_of (record c { tasks = tasks }) w) n Done
  unfolding sigreturn_call
  returned is = ap (λ b. cond b back (with_end p (Signal SIGSEGV) back)) (sym d.is_read ∙ is) ∙ back-is

  -- or it ends
  pub not-returned : was_read ≡ false → sigreturn_call (shared_of c w) p m ≡ with_end p (Signal SIGSEGV) (quiet_effect (shared_of (record c { tasks = tasks }) w) n Done)
  unfolding sigreturn_call
  not-returned is = ap (λ b. cond b back (with_end p (Signal SIGSEGV) back)) (sym d.is_read ∙ is) ∙ ap (with_end p (Signal SIGSEGV)) back-is

  pub keeps-returned : IsSound c w → IsSome (get c.tasks p) → KeepsSound c (record c { tasks = tasks }) w
  keeps-returned sound lives =
      subst (λ (x : Tasks). KeepsSound c (record c { tasks = x }) w) (sym d.tasks)
      (keeps-task c p w (task_in c.tasks p) _ sound (some-task c.tasks p lives) refl refl)
