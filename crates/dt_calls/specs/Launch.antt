-- How a run starts its program (execve(2), from its path on).
use Rattle.std.specs.Prelude.{ℕ, List, Result, Ok, Err}
use Rattle.std.specs.FinMap.{insert}
use Rattle.dt_base.specs.Profile.{has_atomics}
use Rattle.dt_base.specs.declared.errno.Errno.{Errno}
use Rattle.dt_base.specs.Command.{Words}
use Rattle.dt_exec.specs.declared.program.Program.{Program}
use Rattle.dt_exec.specs.Program.{start_program}
use Rattle.dt_base.specs.declared.limits.TheConstants.{FIRST_PID}
use Rattle.dt_virt.specs.Words.{start_bytes}
use Rattle.dt_calls.specs.declared.container.Launch.{Launch}
use Rattle.dt_calls.specs.declared.container.Launch.TheVariants.{Started, NoStart}
use Rattle.dt_calls.specs.Container.{Container, task_at, with_task, Shared}
use Rattle.dt_calls.specs.Execve.{task_after_start}

-- the container after a launch, and what it came to
pub record ContainerLaunch : Type 0 where
  pub container : Container
  pub launch : Launch

-- what is shared, with these bytes as standard input
abbrev pub with_input : List ℕ → Shared → Shared
with_input input c = record c { input = input }

-- a program that can be started has its machine at home, and its break where it starts
abbrev pub launch_of_program : Container → Result Program Errno → ContainerLaunch
launch_of_program c (Err errno) = record { container = c; launch = NoStart errno }
launch_of_program c (Ok program) = record {
  container = record c {
    shared = with_task c.shared FIRST_PID (task_after_start program.break_start (task_at c.shared FIRST_PID));
    machines = insert c.machines FIRST_PID program.machine;
  };
  launch = Started;
}

-- the program of a command is started: it is handed the command's words, its path, and 16 bytes that the seed gives, it has
-- atomics where the image's version has them, and the command's input is there to be read
unfoldable pub launch : Container → Words → ContainerLaunch
launch c words =
    launch_of_program (record c { shared = with_input words.input c.shared })
    (start_program c.shared.tree.shape words (start_bytes c.shared.rand) (has_atomics c.shared.tree.version))
