-- The system calls on files, on time and on random bytes, served by their rows.
use Rattle.std.specs.Prelude.{ℕ, List, [], ◌∷◌, if◌then◌else◌}
use Rattle.dt_base.specs.declared.abi.TheConstants.{A0, A1, A2, A3, A4, A5, SIGPIPE}
use Rattle.dt_rv64.specs.declared.machine.Machine.{Machine}
use Rattle.dt_rv64.specs.Effects.{register}
use Rattle.dt_callbase.specs.Scene.{Scene, Reply}
use Rattle.dt_fcalls.specs.Calls.{file_row}
use Rattle.dt_iocalls.specs.Calls.{is_io, io_row}
use Rattle.dt_namecalls.specs.Calls.{is_naming, name_row}
use Rattle.dt_timecalls.specs.Calls.{is_time_call, time_row}
use Rattle.dt_signals.specs.declared.signals.Sig.{Sig}
use Rattle.dt_signals.specs.Signals.{with_pending}
use Rattle.dt_calls.specs.declared.task.Task.{Task}
use Rattle.dt_calls.specs.Container.{Shared, task_at, with_task}
use Rattle.dt_base.specs.declared.answer.Answer.{Answer}
use Rattle.dt_base.specs.declared.answer.Answer.TheVariants.{Value, Refused, Output, Waits, Part, Pipe, Unsupported}
use Rattle.dt_calls.specs.Effect.{Effect, effect_of_answer}

-- the arguments of a call: a0 to a5 (syscall(2))
abbrev pub arguments : Machine → List ℕ
arguments m =
    register m A0 ∷ register m A1 ∷ register m A2 ∷ register m A3 ∷ register m A4 ∷ register m A5 ∷ []

-- what such a call sees
abbrev pub scene_of : Shared → ℕ → Machine → Scene
scene_of c p m = record {
  tree = c.tree;
  files = c.files;
  pipes = c.pipes;
  clock = c.clock;
  rand = c.rand;
  input = c.input;
  caller = (task_at c p).caller;
  space = m.space;
}

-- what is shared, as such a call leaves it
abbrev pub with_scene : Shared → Scene → Shared
with_scene c s = record c { tree = s.tree; files = s.files; pipes = s.pipes; clock = s.clock; rand = s.rand; input = s.input }

-- the row of the call of a number: one on open files, one on names, one on time or random bytes, or one on paths
unfoldable pub row_of : ℕ → List ℕ → Scene → Reply
row_of number args s =
    if is_io number then io_row number args s
    else if is_naming number then name_row number args s
    else if is_time_call number then time_row number args s
    else file_row number args s

-- how many bytes a call has moved that answers so, where it had moved so many before: none once it is over
abbrev pub done_after : ℕ → Answer → ℕ
done_after count (Value value) = 0
done_after count (Refused errno) = 0
done_after count (Output stream bytes) = 0
done_after count Waits = count
done_after count (Part moved) = moved
done_after count (Pipe value) = 0
done_after count Unsupported = 0

-- a signal state after the answer of a call: SIGPIPE is pending after a write to a pipe that nobody reads
abbrev pub signals_after : Answer → Sig → Sig
signals_after (Value value) g = g
signals_after (Refused errno) g = g
signals_after (Output stream bytes) g = g
signals_after Waits g = g
signals_after (Part moved) g = g
signals_after (Pipe value) g = with_pending SIGPIPE g
signals_after Unsupported g = g

-- the task of the process that made a call, after its answer
abbrev pub task_after_answer : Answer → Task → Task
task_after_answer answer t = record t {
  caller = record t.caller { done = done_after t.caller.done answer };
  signals = signals_after answer t.signals;
}

-- the task of the process that made a call, as the call's row leaves it
abbrev pub task_after_row : Task → Reply → Task
task_after_row t r = task_after_answer r.answer (record t { caller = r.next.caller })

-- the call of a number leaves this, and gives its answer
abbrev pub effect_of_row : Shared → ℕ → Machine → ℕ → Reply → Effect
effect_of_row c p m number r =
    effect_of_answer (with_task (with_scene c r.next) p (task_after_row (task_at c p) r)) (record m { space = r.next.space }) number r.answer

-- the call of a number, served by its row
unfoldable pub file_call : ℕ → Shared → ℕ → Machine → Effect
file_call number c p m = effect_of_row c p m number (row_of number (arguments m) (scene_of c p m))
