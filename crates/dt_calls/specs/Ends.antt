-- The end of processes (_exit(2)).
use Rattle.std.specs.Prelude.{ℕ, ◌==◌, List, [], ◌∷◌, ◌++◌, map, Bool, true, false, unwrap_or, if◌then◌else◌}
use Rattle.std.specs.FinMap.{remove, keys}
use Rattle.dt_base.specs.declared.abi.TheConstants.{SIGKILL, SIGCHLD}
use Rattle.dt_base.specs.declared.event.End.{End}
use Rattle.dt_base.specs.declared.event.End.TheVariants.{Signal}
use Rattle.dt_base.specs.declared.event.Event.{Event}
use Rattle.dt_base.specs.declared.event.Event.TheVariants.{Exit}
use Rattle.dt_fds.specs.Holding.{without_process, holding_of}
use Rattle.dt_base.specs.declared.limits.TheConstants.{FIRST_PID}
use Rattle.dt_procs.specs.Members as members
use Rattle.dt_tree.specs.Changes.{tree_after_release}
use Rattle.dt_calls.specs.declared.container.Served.{Served}
use Rattle.dt_calls.specs.declared.container.Served.TheVariants.{Done, Child, LastChild, Blocked, Progress, Ended, Unsupported}
use Rattle.dt_calls.specs.Container.{Shared, Tasks, task_at, tasks_after_raise}
use Rattle.dt_calls.specs.Effect.{Effect}
use Rattle.dt_calls.specs.Execve.{shared_with_holding}

-- a process has nothing open, and holds its working directory no longer
abbrev pub shared_without_files : ℕ → Shared → Shared
shared_without_files p c =
    let left = shared_with_holding c (without_process p (holding_of c.tree c.pipes c.files)) in
    record left { tree = tree_after_release left.tree (task_at c p).caller.cwd }

-- the tasks after the end of a process: its own goes, and SIGCHLD is pending at its parent, if that lives
abbrev pub tasks_after_end : ℕ → Shared → Tasks
tasks_after_end p c = tasks_after_raise (unwrap_or (members.parent_pid c.members p) 0) SIGCHLD (remove c.tasks p)

-- a process ends: what it has open is closed, its task goes, its parent is told, its children go to the first process, and its
-- end is kept until it is reaped
unfoldable pub shared_after_one_end : ℕ → End → Shared → Shared
shared_after_one_end p end c = record (shared_without_files p c) {
  tasks = tasks_after_end p c;
  members = members.members_after_end p end c.members;
}

-- these processes are killed, one after the other
unfoldable pub shared_after_kills : List ℕ → Shared → Shared
shared_after_kills [] c = c
shared_after_kills (p ∷ ps) c = shared_after_kills ps (shared_after_one_end p (Signal SIGKILL) c)

-- the ends of these processes
abbrev pub kill_events : List ℕ → List Event
kill_events pids = map (λ p. Exit p (Signal SIGKILL)) pids

-- a process ends; after the first one all others that live are killed, in the order of their pids
unfoldable pub shared_after_end : ℕ → End → Shared → Shared
shared_after_end p end c = let left = shared_after_one_end p end c in if p == FIRST_PID then shared_after_kills (keys left.tasks) left else left

-- the ends that show
abbrev pub end_events : ℕ → End → Shared → List Event
end_events p end c =
    Exit p end ∷ (if p == FIRST_PID then kill_events (keys (shared_after_one_end p end c).tasks) else [])

-- whether a process has ended
abbrev pub has_ended : Served → Bool
has_ended Done = false
has_ended (Child v) = false
has_ended (LastChild v) = true
has_ended Blocked = false
has_ended Progress = false
has_ended Ended = true
has_ended (Unsupported number) = false

-- what became of a process that ends: it has ended, and may have made a child before
abbrev pub served_after_end : Served → Served
served_after_end Done = Ended
served_after_end (Child v) = LastChild v
served_after_end (LastChild v) = LastChild v
served_after_end Blocked = Ended
served_after_end Progress = Ended
served_after_end Ended = Ended
served_after_end (Unsupported number) = Ended

-- the process ends, which shows
abbrev pub with_end : ℕ → End → Effect → Effect
with_end p end r = record r {
  shared = shared_after_end p end r.shared;
  events = r.events ++ end_events p end r.shared;
  served = served_after_end r.served;
}
