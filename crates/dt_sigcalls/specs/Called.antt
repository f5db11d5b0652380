-- What a call that tells and changes a part of a process's signal state leaves and answers.
use Rattle.std.specs.Prelude.{ℕ, ◌==◌, List, Result, Ok, Err, if◌then◌else◌}
use Rattle.dt_base.specs.declared.answer.Answer.TheVariants.{Value}
use Rattle.dt_base.specs.declared.errno.Errno.TheVariants.{Fault as BadAddress}
use Rattle.dt_space.specs.declared.access.Miss.{Miss}
use Rattle.dt_space.specs.Space.{PageView}
use Rattle.dt_space.specs.Write.{pages_after_store}
use Rattle.dt_signals.specs.declared.signals.Sig.{Sig}
pub use Rattle.dt_signals.specs.Called.{SignalCallResult, signal_call_result, refused_signal_call, IsDone}

-- the old value was put into its buffer, and then the signal state is this; EFAULT where it can't be put there, and all
-- stays
abbrev pub signal_call_by_store : Sig → List PageView → Sig → Result (List PageView) Miss → SignalCallResult
signal_call_by_store g pages next (Err miss) = refused_signal_call g pages BadAddress
signal_call_by_store g pages next (Ok told) = record { signals = next; pages = told; answer = Value 0 }

-- the pages with these bytes in a buffer, unless its address is 0
abbrev pub after_store_unless_null : List PageView → ℕ → List ℕ → Result (List PageView) Miss
after_store_unless_null pages address bytes = if address == 0 then Ok pages else pages_after_store pages address bytes
