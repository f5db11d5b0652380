-- execve(2): the process goes on as another program.
use Rattle.std.specs.Prelude.{ℕ, Result, Ok, Err}
use Rattle.dt_base.specs.Profile.{has_atomics}
use Rattle.dt_base.specs.declared.abi.TheConstants.{A0, A1, A2}
use Rattle.dt_base.specs.declared.errno.Errno.{Errno}
use Rattle.dt_exec.specs.declared.program.Program.{Program}
use Rattle.dt_exec.specs.Program.{execve_program}
use Rattle.dt_fds.specs.Holding.{Holding, holding_of, without_cloexec}
use Rattle.dt_rv64.specs.declared.machine.Machine.{Machine}
use Rattle.dt_rv64.specs.Effects.{register}
use Rattle.dt_signals.specs.Signals.{after_exec}
use Rattle.dt_virt.specs.Words.{start_bytes}
use Rattle.dt_calls.specs.declared.container.Served.TheVariants.{Done}
use Rattle.dt_calls.specs.declared.task.Task.{Task}
use Rattle.dt_calls.specs.Container.{Shared, task_at, with_task}
use Rattle.dt_calls.specs.Effect.{Effect, quiet_effect, refused_effect}

-- with these open files, their pipes, and the tree whose nodes they hold
abbrev pub shared_with_holding : Shared → Holding → Shared
shared_with_holding c h = record c { tree = h.tree; files = h.files; pipes = h.pipes }

-- a task whose break starts at this address, and is empty
abbrev pub task_after_start : ℕ → Task → Task
task_after_start break_start t = record t { program_break = record { start = break_start; end = break_start } }

-- a task that goes on as another program: its break starts there, and handlers are gone
abbrev pub task_after_exec : ℕ → Task → Task
task_after_exec break_start t = record (task_after_start break_start t) { signals = after_exec t.signals }

-- what is shared once a process has taken up another program: what is marked close-on-exec is closed, and its task goes on as
-- that program
abbrev pub with_exec : Shared → ℕ → ℕ → Shared
with_exec c p break_start =
    with_task (shared_with_holding c (without_cloexec p (holding_of c.tree c.pipes c.files))) p (task_after_exec break_start (task_at c p))

-- a program that can be started takes the place of the one that called: pid, working directory and umask stay
abbrev pub effect_of_program : Shared → ℕ → Machine → Result Program Errno → Effect
effect_of_program c p m (Err errno) = refused_effect c m errno
effect_of_program c p m (Ok program) = quiet_effect (with_exec c p program.break_start) program.machine Done

-- the program of a path takes the place of the one that called, with the words it is handed (execve(2))
unfoldable pub execve_call : Shared → ℕ → Machine → Effect
execve_call c p m =
    effect_of_program c p m (execve_program c.tree.shape (task_at c p).caller.cwd m.space
    (register m A0) (register m A1) (register m A2) (start_bytes c.rand) (has_atomics c.tree.version))
