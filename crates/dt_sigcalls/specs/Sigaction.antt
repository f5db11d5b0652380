-- The call that tells and changes what a process does about a signal: rt_sigaction(2).
use Rattle.std.specs.Prelude.{ℕ, ◌==◌, ◌||◌, ◌&&◌, not, Bool, List, ◌++◌, Option, None, Some, Result, Ok, Err, if◌then◌else◌}
use Rattle.dt_base.specs.Abi.{low_word}
use Rattle.dt_base.specs.Fields.{low_bytes}
use Rattle.dt_base.specs.declared.errno.Errno.TheVariants.{Inval, Fault as BadAddress}
use Rattle.dt_space.specs.declared.access.Miss.{Miss}
use Rattle.dt_space.specs.declared.access.TheConstants.{READ}
use Rattle.dt_space.specs.Space.{PageView, load}
use Rattle.dt_base.specs.declared.abi.TheConstants.{SIGKILL, SIGSTOP, SIGSET_SIZE}
use Rattle.dt_signals.specs.declared.action.Action.{Action}
use Rattle.dt_signals.specs.declared.signals.Sig.{Sig}
use Rattle.dt_signals.specs.Frame.{word_in}
use Rattle.dt_signals.specs.Signals.{action_of, is_signal, with_action}
use Rattle.dt_sigcalls.specs.declared.numbers.TheConstants.{SIGACTION_SIZE, SA_HANDLER, SA_FLAGS, SA_MASK}
use Rattle.dt_sigcalls.specs.Called.{SignalCallResult, refused_signal_call, after_store_unless_null, signal_call_by_store}

-- what a process does about these signals can't be changed
abbrev pub is_fixed : ℕ → Bool
is_fixed signal = (signal == SIGKILL) || (signal == SIGSTOP)

-- an action as it stands in memory: handler, flags and mask, 8 bytes each
abbrev pub action_bytes : Action → List ℕ
action_bytes action = low_bytes 8 action.handler ++ (low_bytes 8 action.flags ++ low_bytes 8 action.mask)

-- the action of these bytes
abbrev pub action_in : List ℕ → Action
action_in bytes =
    record { handler = word_in bytes SA_HANDLER; flags = word_in bytes SA_FLAGS; mask = word_in bytes SA_MASK }

-- the action of bytes that were read
abbrev pub action_by : Result (List ℕ) Miss → Result (Option Action) Miss
action_by (Err miss) = Err miss
action_by (Ok bytes) = Ok (Some (action_in bytes))

-- the new action, or none where the address is 0
abbrev pub new_action : List PageView → ℕ → Result (Option Action) Miss
new_action pages address = if address == 0 then Ok None else action_by (load pages READ address SIGACTION_SIZE)

-- with a new action of a signal, if there is one
abbrev pub with_new_action : ℕ → Option Action → Sig → Sig
with_new_action signal None g = g
with_new_action signal (Some action) g = with_action signal action g

-- the old action is put into its buffer, and the new one takes its place; EFAULT where the new one can't be read
abbrev pub sigaction_by_new : Sig → List PageView → ℕ → ℕ → Result (Option Action) Miss → SignalCallResult
sigaction_by_new g pages signal old (Err miss) = refused_signal_call g pages BadAddress
sigaction_by_new g pages signal old (Ok action) =
    signal_call_by_store g pages (with_new_action signal action g)
    (after_store_unless_null pages old (action_bytes (action_of g signal)))

-- rt_sigaction(2): EINVAL for a set of another size, for a number that is no signal's, and for a new action of SIGKILL
-- or SIGSTOP
unfoldable pub sigaction_of : Sig → List PageView → ℕ → ℕ → ℕ → ℕ → SignalCallResult
sigaction_of g pages number act old size =
    let signal = low_word number in
    if not (size == SIGSET_SIZE) || not (is_signal signal) || (not (act == 0) && is_fixed signal)
    then refused_signal_call g pages Inval
    else sigaction_by_new g pages signal old (new_action pages act)
