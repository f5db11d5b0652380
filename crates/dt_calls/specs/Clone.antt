-- clone(2) of a process (fork(2)): the child is a copy of its parent, and shares what the parent has open.
use Rattle.std.specs.Prelude.{ℕ, ◌==◌, ◌&&◌, not, Bool, bit_and, bit_or, List, Some, Result, Ok, Err, if◌then◌else◌}
use Rattle.std.specs.FinMap.{insert}
use Rattle.dt_base.specs.declared.abi.TheConstants.{A0, A1, A2, A4, SP, CLONE, CSIGNAL, CLONE_PARENT_SETTID, CLONE_CHILD_CLEARTID, CLONE_CHILD_SETTID, SIGCHLD}
use Rattle.dt_base.specs.declared.errno.Errno.TheVariants.{Again}
use Rattle.dt_base.specs.Abi.{has_flag}
use Rattle.dt_base.specs.Fields.{low_bytes}
use Rattle.dt_fds.specs.Descriptions.{with_shared_table}
use Rattle.dt_procs.specs.Members.{is_full, with_child}
use Rattle.dt_rv64.specs.declared.machine.Machine.{Machine}
use Rattle.dt_rv64.specs.Effects.{register, with_register, machine_after_answer}
use Rattle.dt_signals.specs.Signals.{after_fork}
use Rattle.dt_space.specs.declared.access.Miss.{Miss}
use Rattle.dt_space.specs.Space.{PageView}
use Rattle.dt_space.specs.Write.{pages_after_store}
use Rattle.dt_tree.specs.Changes.{tree_after_hold}
use Rattle.dt_calls.specs.declared.container.Served.TheVariants.{Child, Unsupported}
use Rattle.dt_calls.specs.declared.task.Task.{Task}
use Rattle.dt_calls.specs.Container.{Shared, task_at}
use Rattle.dt_calls.specs.Effect.{Effect, quiet_effect, refused_effect}

-- a process that is no thread of its parent, with SIGCHLD at its end, and of the other flags at most these three
abbrev pub is_supported : ℕ → Bool
is_supported flags =
    (bit_and flags CSIGNAL == SIGCHLD)
    && (bit_or flags (bit_or CSIGNAL (bit_or CLONE_PARENT_SETTID (bit_or CLONE_CHILD_CLEARTID CLONE_CHILD_SETTID)))
    == bit_or CSIGNAL (bit_or CLONE_PARENT_SETTID (bit_or CLONE_CHILD_CLEARTID CLONE_CHILD_SETTID)))

-- the pages after a pid was written, or as they were where it can't be
abbrev pub pages_if_written : List PageView → Result (List PageView) Miss → List PageView
pages_if_written pages (Err miss) = pages
pages_if_written pages (Ok written) = written

-- the machine with a pid of 4 bytes at an address, if a flag asks for it; an address that can't be written is ignored
abbrev pub with_pid : Bool → ℕ → ℕ → Machine → Machine
with_pid flag address vpid m =
    if flag then record m { space = pages_if_written m.space (pages_after_store m.space address (low_bytes 4 vpid)) } else m

-- the machine with another stack, unless the address is 0
abbrev pub with_stack : ℕ → Machine → Machine
with_stack stack m = if stack == 0 then m else with_register m SP stack

-- the child's machine: its call answers 0
abbrev pub child_machine : Machine → ℕ → Machine
child_machine m vpid =
    with_pid (has_flag (register m A0) CLONE_CHILD_SETTID) (register m A4) vpid (with_stack (register m A1) (machine_after_answer m 0))

-- the parent's machine: its call answers the child's pid
abbrev pub parent_machine : Machine → ℕ → Machine
parent_machine m vpid = with_pid (has_flag (register m A0) CLONE_PARENT_SETTID) (register m A2) vpid (machine_after_answer m vpid)

-- the child's task: a copy of its parent's under its own pid, with no signal pending
abbrev pub child_task : Task → ℕ → Task
child_task t vpid = record t { caller = record t.caller { vpid = vpid }; signals = after_fork t.signals }

-- what is shared once the child is there: it holds its working directory, and has its parent's descriptors, actions and mask
abbrev pub with_child_of : Shared → ℕ → ℕ → Shared
with_child_of c p vpid = record c {
  tree = tree_after_hold c.tree (task_at c p).caller.cwd;
  files = with_shared_table p vpid c.files;
  members = with_child c.members vpid p;
  tasks = insert c.tasks vpid (child_task (task_at c p) vpid);
}

-- a child is made
abbrev pub clone_effect : Shared → ℕ → ℕ → Machine → Effect
clone_effect c next p m =
    record (quiet_effect (with_child_of c p next) (parent_machine m next) (Child next)) { child = Some (child_machine m next) }

-- clone(2): EAGAIN where 64 processes and zombies are there
unfoldable pub clone_call : Shared → ℕ → ℕ → Machine → Effect
clone_call c next p m =
    if not (is_supported (register m A0)) then quiet_effect c m (Unsupported CLONE)
    else if is_full c.members then refused_effect c m Again
    else clone_effect c next p m
