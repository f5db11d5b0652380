-- What a process does about signals: its actions, the signals that are masked, and those that are pending
-- (signal(7), sigaction(2), sigprocmask(2)). Its timer stands beside them.
use Rattle.std.specs.Prelude.{ℕ, zero, suc, ◌+◌, ◌-◌, ◌/◌, ◌%◌, ◌^◌, ◌==◌, ◌||◌, ◌&&◌, not, nat_lt, Bool, bit_and, bit_or, List, [], ◌∷◌, map, find, replicate, slice_index_or, slice_set, Option, None, if◌then◌else◌}
use Rattle.dt_base.specs.declared.abi.TheConstants.{SIG_DFL, SIG_IGN, SIGNAL_LIMIT, SIGCHLD, MASKABLE}
use Rattle.dt_signals.specs.declared.action.Action.{Action}
use Rattle.dt_signals.specs.declared.signals.Sig.{Sig}

-- there is a signal of this number
abbrev pub is_signal : ℕ → Bool
is_signal number = not (number == 0) && not (nat_lt SIGNAL_LIMIT number)

-- the bit of a signal in a set of signals: that of signal 1 is the lowest
abbrev pub bit_of : ℕ → ℕ
bit_of signal = 2 ^ (signal - 1)

-- a signal is in a set
abbrev pub is_in : ℕ → ℕ → Bool
is_in signal set = set / bit_of signal % 2 == 1

-- the action that every signal has at first (signal(7))
abbrev pub default_action : Action
default_action = record { handler = SIG_DFL; flags = 0; mask = 0 }

-- all actions are the default, no signal is masked or pending, and the timer is disarmed
abbrev pub no_signals : Sig
no_signals = record { actions = replicate SIGNAL_LIMIT default_action; mask = 0; pending = 0; timer = None }

-- the action of a signal
abbrev pub action_of : Sig → ℕ → Action
action_of g signal = slice_index_or g.actions (signal - 1) default_action

-- with another action of a signal
abbrev pub with_action : ℕ → Action → Sig → Sig
with_action signal action g = record g { actions = slice_set g.actions (signal - 1) action }

-- a signal is pending
abbrev pub with_pending : ℕ → Sig → Sig
with_pending signal g = record g { pending = bit_or g.pending (bit_of signal) }

-- with another mask, from which SIGKILL and SIGSTOP are left out
abbrev pub with_mask : ℕ → Sig → Sig
with_mask mask g = record g { mask = bit_and mask MASKABLE }

-- what a child begins with: no signal is pending, and the timer is disarmed (fork(2))
abbrev pub after_fork : Sig → Sig
after_fork g = record g { pending = 0; timer = None }

-- an action that runs a handler
abbrev pub has_handler : Action → Bool
has_handler action = not ((action.handler == SIG_DFL) || (action.handler == SIG_IGN))

-- an action after another program was started: a handler is gone with its program
abbrev pub action_after_exec : Action → Action
action_after_exec action = if has_handler action then default_action else action

-- the actions after another program was started; mask, pending signals and timer stay (execve(2))
abbrev pub after_exec : Sig → Sig
after_exec g = record g { actions = map action_after_exec g.actions }

-- a signal with this action does nothing: it is ignored, or does nothing by default
abbrev pub is_ignored : ℕ → Action → Bool
is_ignored signal action = (action.handler == SIG_IGN) || ((action.handler == SIG_DFL) && (signal == SIGCHLD))

-- a signal is pending and not masked
abbrev pub is_due : Sig → ℕ → Bool
is_due g signal = is_in signal g.pending && not (is_in signal g.mask)

-- the signals from one on, so many
unfoldable pub signals_from : ℕ → ℕ → List ℕ
signals_from signal zero = []
signals_from signal (suc count) = signal ∷ signals_from (signal + 1) count

-- each signal, from 1 on
abbrev pub all_signals : List ℕ
all_signals = signals_from 1 SIGNAL_LIMIT

-- the set of those of the first signals, so many, that pass a test
unfoldable pub set_of : (ℕ → Bool) → ℕ → ℕ
set_of test zero = 0
set_of test (suc count) =
    if test (suc count) then bit_or (set_of test count) (bit_of (suc count)) else set_of test count

-- a signal is dropped: it is due, and would do nothing
abbrev pub is_dropped : Sig → ℕ → Bool
is_dropped g signal = is_due g signal && is_ignored signal (action_of g signal)

-- the signals that are dropped
abbrev pub dropped_signals : Sig → ℕ
dropped_signals g = set_of (is_dropped g) SIGNAL_LIMIT

-- without the signals that are dropped
abbrev pub without_ignored : Sig → Sig
without_ignored g = record g { pending = bit_and g.pending (2 ^ 64 - 1 - dropped_signals g) }

-- a signal can be delivered: it is due, and would do something
abbrev pub is_deliverable : Sig → ℕ → Bool
is_deliverable g signal = is_due g signal && not (is_ignored signal (action_of g signal))

-- the lowest signal that can be delivered
unfoldable pub lowest_deliverable : Sig → Option ℕ
lowest_deliverable g = find (is_deliverable g) all_signals

-- a signal is pending no longer
abbrev pub without_pending : ℕ → Sig → Sig
without_pending signal g = record g { pending = bit_and g.pending (2 ^ 64 - 1 - bit_of signal) }
