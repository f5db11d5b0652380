-- A container: what its processes share, the task of each, and the machines at home.
use Rattle.std.specs.Prelude.{ℕ, ◌+◌, List, [], Option, Some, None, unwrap_or}
use Rattle.std.specs.Ordering.{nat_cmp}
use Rattle.std.specs.FinMap.{FinMap, empty, get, insert}
use Rattle.dt_base.specs.declared.event.Event.{Event}
use Rattle.dt_fds.specs.Descriptions.{Descriptions, first_files}
use Rattle.dt_fds.specs.Pipes.{PipesView}
use Rattle.dt_pipes.specs.declared.pipe.TheConstants.{FIRST_PIPE}
use Rattle.dt_rv64.specs.declared.machine.Machine.{Machine}
use Rattle.dt_late.specs.declared.poll.Polling.TheVariants.{Idle}
use Rattle.dt_procs.specs.declared.member.Member.{Member}
use Rattle.dt_base.specs.declared.limits.TheConstants.{FIRST_PID}
use Rattle.dt_procs.specs.Members.{first_members}
use Rattle.dt_signals.specs.declared.signals.Sig.{Sig}
use Rattle.dt_signals.specs.Signals.{no_signals, with_pending}
use Rattle.dt_tree.specs.declared.limits.TheConstants.{ROOT}
use Rattle.dt_tree.specs.FileTree.{FileTree}
use Rattle.dt_tree.specs.Changes.{tree_after_hold}
use Rattle.dt_virt.specs.Words.{SeededWords, words_of_seed}
use Rattle.dt_calls.specs.declared.numbers.TheConstants.{FIRST_UMASK}
use Rattle.dt_calls.specs.declared.task.Task.{Task}

-- the tasks of live processes, by pid
abbrev pub Tasks : Type 0
Tasks = FinMap nat_cmp Task

-- what the processes of a container share: the file tree, the open files, the pipes, the logical time, the seed's words, the
-- processes as their kin see them, zombies included, the task of each that lives, and the bytes of standard input
pub record Shared : Type 0 where
  pub tree : FileTree
  pub files : Descriptions
  pub pipes : PipesView
  pub clock : ℕ
  pub rand : SeededWords
  pub members : List Member
  pub tasks : Tasks
  pub input : List ℕ

-- machines by the pid of the process
abbrev pub Machines : Type 0
Machines = FinMap nat_cmp Machine

-- what is shared, the machines that are at home, the pid that the next child gets, and what the last turn showed
pub record Container : Type 0 where
  pub shared : Shared
  pub machines : Machines
  pub next : ℕ
  pub events : List Event

-- a process that has no program yet: its working directory is the root, it has no data, and all signals have the default action
abbrev pub blank_task : ℕ → Task
blank_task vpid = record {
  caller = record { vpid = vpid; cwd = ROOT; umask = FIRST_UMASK; done = 0 };
  program_break = record { start = 0; end = 0 };
  signals = no_signals;
  polling = Idle;
}

-- the task of a process that lives
abbrev pub task_in : Tasks → ℕ → Task
task_in tasks p = unwrap_or (get tasks p) (blank_task p)

-- the task of a process, of what is shared
abbrev pub task_at : Shared → ℕ → Task
task_at c p = task_in c.tasks p

-- with this as the task of a process
abbrev pub with_task : Shared → ℕ → Task → Shared
with_task c p t = record c { tasks = insert c.tasks p t }

-- a task with this as its signal state
abbrev pub with_signals : Task → Sig → Task
with_signals t g = record t { signals = g }

-- the tasks with the signal pending in that of the process, where it has one
abbrev pub tasks_after_raise_in : ℕ → ℕ → Tasks → Option Task → Tasks
tasks_after_raise_in p signal tasks None = tasks
tasks_after_raise_in p signal tasks (Some t) = insert tasks p (with_signals t (with_pending signal t.signals))

-- a signal is pending at a process, if that lives
abbrev pub tasks_after_raise : ℕ → ℕ → Tasks → Tasks
tasks_after_raise p signal tasks = tasks_after_raise_in p signal tasks (get tasks p)

-- no pipes, none of which has been made
abbrev pub no_pipes : PipesView
no_pipes = record { contents = empty; next = FIRST_PIPE }

-- what a process finds that starts on a tree: it holds its working directory, there is no pipe, and no time has passed
abbrev pub first_shared : FileTree → ℕ → Shared
first_shared t seed = record {
  tree = tree_after_hold t ROOT;
  files = first_files FIRST_PID;
  pipes = no_pipes;
  clock = 0;
  rand = words_of_seed seed;
  members = first_members;
  tasks = insert empty FIRST_PID (blank_task FIRST_PID);
  input = [];
}

-- a container whose one process has no program yet
abbrev pub first_container : FileTree → ℕ → Container
first_container t seed = record { shared = first_shared t seed; machines = empty; next = FIRST_PID + 1; events = [] }
