-- What a stop that is served does.
use Rattle.std.specs.Prelude.{ℕ, ◌-◌, ◌^◌, List, [], ◌∷◌, length, Option, None, Result, Ok, Err}
use Rattle.dt_base.specs.declared.answer.Answer.{Answer}
use Rattle.dt_base.specs.declared.answer.Answer.TheVariants as answer
use Rattle.dt_base.specs.declared.errno.Errno.{Errno}
use Rattle.dt_base.specs.declared.event.Event.{Event}
use Rattle.dt_base.specs.declared.event.Event.TheVariants.{Out}
use Rattle.dt_base.specs.Errno.{errno_number}
use Rattle.dt_rv64.specs.declared.machine.Machine.{Machine}
use Rattle.dt_rv64.specs.Effects.{machine_after_answer, machine_after_counter}
use Rattle.dt_virt.specs.declared.clock.TheConstants.{READING_TICKS}
use Rattle.dt_virt.specs.Clock.{ticks_after}
use Rattle.dt_calls.specs.declared.container.Served.{Served}
use Rattle.dt_calls.specs.declared.container.Served.TheVariants.{Done, Blocked, Progress, Unsupported}
use Rattle.dt_calls.specs.Container.{Shared}

-- after a stop of a process was served: what is shared, the process's machine, that of a child that it made, what it did
-- that shows, and what became of it
pub record Effect : Type 0 where
  pub shared : Shared
  pub machine : Machine
  pub child : Option Machine
  pub events : List Event
  pub served : Served

-- nothing shows, and there is no child's machine
abbrev pub quiet_effect : Shared → Machine → Served → Effect
quiet_effect c m served = record { shared = c; machine = m; child = None; events = []; served = served }

-- the call is done, and answers this number
abbrev pub done_effect : Shared → Machine → ℕ → Effect
done_effect c m value = quiet_effect c (machine_after_answer m value) Done

-- the call is refused: its answer is minus the errno
abbrev pub refused_effect : Shared → Machine → Errno → Effect
refused_effect c m errno = done_effect c m (2 ^ 64 - errno_number errno)

-- the call is done, and bytes go out on a stream: their number is its answer, and they are one event
abbrev pub output_effect : Shared → Machine → ℕ → List ℕ → Effect
output_effect c m stream bytes =
    record (done_effect c m (length bytes)) { events = Out stream bytes ∷ [] }

-- a write to a pipe that nobody reads is done: it answers how many bytes it moved before, or is refused
abbrev pub effect_of_broken_pipe : Shared → Machine → Result ℕ Errno → Effect
effect_of_broken_pipe c m (Ok moved) = done_effect c m moved
effect_of_broken_pipe c m (Err errno) = refused_effect c m errno

-- a call of this number gives its answer: one that waits or goes on is tried again in the process's next turn
abbrev pub effect_of_answer : Shared → Machine → ℕ → Answer → Effect
effect_of_answer c m number (answer.Value value) = done_effect c m value
effect_of_answer c m number (answer.Refused errno) = refused_effect c m errno
effect_of_answer c m number (answer.Output stream bytes) = output_effect c m stream bytes
effect_of_answer c m number answer.Waits = quiet_effect c m Blocked
effect_of_answer c m number (answer.Part moved) = quiet_effect c m Progress
effect_of_answer c m number (answer.Pipe value) = effect_of_broken_pipe c m value
effect_of_answer c m number answer.Unsupported = quiet_effect c m (Unsupported number)

-- a counter is read into a register: the reading takes its time, and gives the time after it
abbrev pub counter_effect : Shared → Machine → ℕ → Effect
counter_effect c m rd =
    let ticks = ticks_after c.clock READING_TICKS in quiet_effect (record c { clock = ticks }) (machine_after_counter m rd ticks) Done
