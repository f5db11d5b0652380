-- What a call leaves and answers.
use Rattle.std.specs.Prelude.{ℕ, List, Bool, true, false}
use Rattle.dt_base.specs.declared.answer.Answer.{Answer}
use Rattle.dt_base.specs.declared.answer.Answer.TheVariants.{Value, Refused, Output, Waits, Part, Pipe, Unsupported}
use Rattle.dt_base.specs.declared.errno.Errno.{Errno}
use Rattle.dt_space.specs.Space.{PageView}

-- the process's pages after a call, and what the call answers
pub record MemoryCallResult : Type 0 where
  pub pages : List PageView
  pub answer : Answer

-- the call was done: these are the pages after it, and this is its value
abbrev pub done_memory_call : List PageView → ℕ → MemoryCallResult
done_memory_call pages value = record { pages = pages; answer = Value value }

-- the call was refused, and the pages stay
abbrev pub refused_memory_call : List PageView → Errno → MemoryCallResult
refused_memory_call pages errno = record { pages = pages; answer = Refused errno }

-- the call was done
abbrev pub is_done_answer : Answer → Bool
is_done_answer (Value value) = true
is_done_answer (Refused errno) = false
is_done_answer (Output stream bytes) = true
is_done_answer Waits = false
is_done_answer (Part moved) = false
is_done_answer (Pipe value) = false
is_done_answer Unsupported = false

abbrev pub is_done : MemoryCallResult → Bool
is_done called = is_done_answer called.answer
