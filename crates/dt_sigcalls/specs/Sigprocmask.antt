-- The call that tells and changes which signals a process blocks: rt_sigprocmask(2).
use Rattle.std.specs.Prelude.{ℕ, ◌-◌, ◌^◌, ◌==◌, not, nat_lt, bit_and, bit_or, List, Option, None, Some, Result, Ok, Err, if◌then◌else◌}
use Rattle.dt_base.specs.Abi.{low_word}
use Rattle.dt_base.specs.Fields.{low_bytes}
use Rattle.dt_base.specs.declared.errno.Errno.TheVariants.{Inval, Fault as BadAddress}
use Rattle.dt_space.specs.declared.access.Miss.{Miss}
use Rattle.dt_space.specs.declared.access.TheConstants.{READ}
use Rattle.dt_space.specs.Space.{PageView, load, loaded_number}
use Rattle.dt_signals.specs.declared.signals.Sig.{Sig}
use Rattle.dt_signals.specs.Signals.{with_mask}
use Rattle.dt_base.specs.declared.abi.TheConstants.{SIGSET_SIZE, SIG_BLOCK, SIG_UNBLOCK, SIG_SETMASK}
use Rattle.dt_sigcalls.specs.Called.{SignalCallResult, refused_signal_call, after_store_unless_null, signal_call_by_store}

-- the set of a number that was read
abbrev pub set_by : Result ℕ Miss → Result (Option ℕ) Miss
set_by (Err miss) = Err miss
set_by (Ok set) = Ok (Some set)

-- the set that is handed in, or none where the address is 0
abbrev pub new_set : List PageView → ℕ → Result (Option ℕ) Miss
new_set pages address =
    if address == 0 then Ok None else set_by (loaded_number (load pages READ address SIGSET_SIZE))

-- a mask with the signals of a set added, or taken out, or the set itself
abbrev pub changed_mask : ℕ → ℕ → ℕ → ℕ
changed_mask how set mask =
    if how == SIG_BLOCK then bit_or mask set
    else if how == SIG_UNBLOCK then bit_and mask (2 ^ 64 - 1 - set)
    else set

-- the old mask is put into its buffer, and it is changed by a set, if there is one; EINVAL then for another way than
-- these
abbrev pub sigprocmask_by_set : Sig → List PageView → ℕ → ℕ → Result (Option ℕ) Miss → SignalCallResult
sigprocmask_by_set g pages how old (Err miss) = refused_signal_call g pages BadAddress
sigprocmask_by_set g pages how old (Ok None) =
    signal_call_by_store g pages g (after_store_unless_null pages old (low_bytes 8 g.mask))
sigprocmask_by_set g pages how old (Ok (Some set)) =
    if nat_lt SIG_SETMASK how then refused_signal_call g pages Inval
    else signal_call_by_store g pages (with_mask (changed_mask how set g.mask) g)
    (after_store_unless_null pages old (low_bytes 8 g.mask))

-- rt_sigprocmask(2): EINVAL for a set of another size, EFAULT for one that can't be read
unfoldable pub sigprocmask_of : Sig → List PageView → ℕ → ℕ → ℕ → ℕ → SignalCallResult
sigprocmask_of g pages how set old size =
    if not (size == SIGSET_SIZE) then refused_signal_call g pages Inval
    else sigprocmask_by_set g pages (low_word how) old (new_set pages set)
