-- The calls on a process's own signals: rt_sigaction(2), rt_sigprocmask(2), rt_sigreturn(2).
use Rattle.std.specs.Prelude.{ℕ, Bool, true, false, Result, Ok, Err, if◌then◌else◌}
use Rattle.dt_base.specs.declared.abi.TheConstants.{A0, A1, A2, A3, SIGSEGV, RT_SIGACTION, RT_SIGPROCMASK}
use Rattle.dt_base.specs.declared.event.End.TheVariants.{Signal}
use Rattle.dt_rv64.specs.declared.machine.Machine.{Machine}
use Rattle.dt_rv64.specs.Effects.{register}
use Rattle.dt_space.specs.declared.access.Miss.{Miss}
use Rattle.dt_sigcalls.specs.Sigaction.{sigaction_of}
use Rattle.dt_sigcalls.specs.Sigprocmask.{sigprocmask_of}
use Rattle.dt_signals.specs.Called.{SignalCallResult}
use Rattle.dt_signals.specs.declared.signals.Sig.{Sig}
use Rattle.dt_signals.specs.Return.{SigreturnState, sigreturn_of}
use Rattle.dt_calls.specs.declared.container.Served.TheVariants.{Done}
use Rattle.dt_calls.specs.Container.{Shared, task_at, with_task, with_signals}
use Rattle.dt_calls.specs.Effect.{Effect, quiet_effect, effect_of_answer}
use Rattle.dt_calls.specs.Ends.{with_end}

-- with this as the signal state of a process
abbrev pub with_signals_of : Shared → ℕ → Sig → Shared
with_signals_of c p g = with_task c p (with_signals (task_at c p) g)

-- a call of this number leaves the process's signal state and its pages so, and gives its answer
abbrev pub effect_of_signal_call : Shared → ℕ → Machine → ℕ → SignalCallResult → Effect
effect_of_signal_call c p m number r = effect_of_answer (with_signals_of c p r.signals) (record m { space = r.pages }) number r.answer

-- tells what the process does about a signal, and may put another action in its place (rt_sigaction(2))
unfoldable pub sigaction_call : Shared → ℕ → Machine → Effect
sigaction_call c p m = effect_of_signal_call c p m RT_SIGACTION
    (sigaction_of (task_at c p).signals m.space (register m A0) (register m A1) (register m A2) (register m A3))

-- tells the process's signal mask, and may change it by a set (rt_sigprocmask(2))
unfoldable pub sigprocmask_call : Shared → ℕ → Machine → Effect
sigprocmask_call c p m = effect_of_signal_call c p m RT_SIGPROCMASK
    (sigprocmask_of (task_at c p).signals m.space (register m A0) (register m A1) (register m A2) (register m A3))

-- a process's signal state and its machine after a return from a handler, and whether the handler's frame could be read
pub record AfterSigreturn : Type 0 where
  pub signals : Sig
  pub machine : Machine
  pub is_read : Bool

-- mask, pc and registers are those of the frame, and all stays where it can't be read
abbrev pub after_sigreturn_by : Sig → Machine → Result SigreturnState Miss → AfterSigreturn
after_sigreturn_by g m (Err miss) = record { signals = g; machine = m; is_read = false }
after_sigreturn_by g m (Ok r) = record { signals = r.signals; machine = r.machine; is_read = true }

-- the same, by the frame that is on the stack
abbrev pub after_sigreturn : Sig → Machine → AfterSigreturn
after_sigreturn g m = after_sigreturn_by g m (sigreturn_of g m)

-- the process goes on where its frame says; a frame that can't be read ends it by SIGSEGV, whatever it does about that
abbrev pub effect_of_sigreturn : Shared → ℕ → AfterSigreturn → Effect
effect_of_sigreturn c p b =
    let r = quiet_effect (with_signals_of c p b.signals) b.machine Done in if b.is_read then r else with_end p (Signal SIGSEGV) r

-- the process goes on as the frame on its stack says, where a handler has ended (rt_sigreturn(2))
unfoldable pub sigreturn_call : Shared → ℕ → Machine → Effect
sigreturn_call c p m = effect_of_sigreturn c p (after_sigreturn (task_at c p).signals m)
