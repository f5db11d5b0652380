-- What a call on a process's signal state leaves and answers.
use Rattle.std.specs.Prelude.{◌≡◌, List}
use Rattle.dt_base.specs.declared.answer.Answer.{Answer}
use Rattle.dt_base.specs.declared.answer.Answer.TheVariants.{Value, Refused}
use Rattle.dt_base.specs.declared.errno.Errno.{Errno}
use Rattle.dt_space.specs.Space.{PageView}
use Rattle.dt_signals.specs.declared.signals.Sig.{Sig}

-- the process's signal state and its pages after a call, and what the call answers
pub record SignalCallResult : Type 0 where
  pub signals : Sig
  pub pages : List PageView
  pub answer : Answer

-- the signal state, the pages and the answer are these
abbrev pub signal_call_result : Sig → List PageView → Answer → SignalCallResult
signal_call_result g pages answer = record { signals = g; pages = pages; answer = answer }

-- the call was refused, and all stays
abbrev pub refused_signal_call : Sig → List PageView → Errno → SignalCallResult
refused_signal_call g pages errno = record { signals = g; pages = pages; answer = Refused errno }

-- the call was done: it answers 0
abbrev pub IsDone : SignalCallResult → Type 0
IsDone called = called.answer ≡ Value 0
