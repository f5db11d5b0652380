-- What holds between stops of a container in code, with what its host keeps.
use Rattle.std.specs.Prelude.{◌≡◌, ◌≢◌, ℕ, ◌+◌, ◌<◌, ◌≤◌, length, true, Option, None, IsSome, IfSome, Result, IfOk, IsErrOf}
use Rattle.std.specs.FinMap.{get, keys}
use Rattle.dt_fds.specs.Backs.{AllIn, IsPiped, descriptions_of}
use Rattle.dt_host.specs.Cause.{HasCause}
use Rattle.dt_host.specs.declared.error.HostErr.{HostErr}
use Rattle.dt_host.specs.declared.error.HostErr.TheVariants.{Failed}
use Rattle.dt_tables.specs.Total.{total}
use Rattle.dt_host.specs.World.{World, IsDir}
use Rattle.dt_procs.specs.Members.{has_live}
use Rattle.dt_base.specs.declared.limits.TheConstants.{FIRST_PID}
use Rattle.dt_procs.specs.declared.member.TheConstants.{PROCESS_LIMIT}
use Rattle.dt_procs.specs.Table as procs
use Rattle.dt_procs.specs.Table.{members_of}
use Rattle.dt_tree.specs.FileTree.{holds_of}
use Rattle.dt_tree.specs.Shape.{one_for}
use Rattle.dt_tree.specs.Table.{Stands, shape_of, tree_of}
use Rattle.dt_calls.specs.declared.shared.Shared.{Shared}
use Rattle.dt_calls.specs.declared.container.Served.{Served}
use Rattle.dt_calls.specs.declared.container.Served.TheVariants.{Done, Child, LastChild, Blocked, Progress, Ended, Unsupported}
use Rattle.dt_calls.specs.declared.task.Task.{Task}
use Rattle.dt_rv64.specs.declared.machine.Machine.{Machine}
use Rattle.dt_calls.specs.declared.call.effect.Effect.{Effect as EffectInCode}
use Rattle.dt_calls.specs.Container.{Tasks}
use Rattle.dt_calls.specs.Effect.{Effect}
use Rattle.dt_calls.specs.InCode.{ContainerView, shared_of, effect_as}
use Rattle.dt_calls.specs.Settle.{next_after}

-- how many live processes have a node as their working directory
abbrev pub directories_of : Tasks → ℕ → ℕ
directories_of tasks n = total (λ (t : Task). one_for t.caller.cwd n) tasks

-- the table of the tree stands for it, with the host's nodes, those of the pipes and of the processes for theirs; what
-- is open is in the tree, and the working directory of each live process is a directory of it; each node is held once for each
-- description and each working directory that names it; each task stands under its process's pid, which was given before,
-- and the process lives; and no pid that is still to be given has descriptors
pub record IsSound (c : Shared) (w : World) : Type 0 where
  pub stands : Stands c.fs.tree w.forest
  pub pids : procs.Stands c.pids w.pids
  pub all_in : AllIn (shape_of c.fs.tree w.forest) c.fs.files.descriptors
  pub directories : (p : ℕ) → IfSome (get c.tasks p) (λ t. IsDir (shape_of c.fs.tree w.forest) t.caller.cwd)
  pub holds : (n : ℕ) → holds_of (tree_of c.fs.tree w.forest) n ≡ descriptions_of c.fs.files.descriptors n + directories_of c.tasks n
  pub piped : IsPiped c.fs.files w.pipes
  pub named : (p : ℕ) → IfSome (get c.tasks p) (λ t. t.caller.vpid ≡ p)
  pub given : (p : ℕ) → IsSome (get c.tasks p) → p < c.pids.next
  pub lives : (p : ℕ) → IsSome (get c.tasks p) → has_live (members_of c.pids) p ≡ true
  pub fresh : (p : ℕ) → c.pids.next ≤ p → get c.fs.files.descriptors.tables p ≡ None

-- each place for a machine is one of a live process
abbrev pub IsPaired : ContainerView → Type 0
IsPaired c = (p : ℕ) → IsSome (get c.places p) → IsSome (get c.shared.tasks p)

-- what is shared is sound, and machines have places for live processes alone, of which there are at most 64
pub record IsSoundContainer (c : ContainerView) (w : World) : Type 0 where
  pub shared : IsSound c.shared w
  pub paired : IsPaired c
  pub few : length (keys c.places) ≤ PROCESS_LIMIT

-- q lives on where p ends: p is another one, and not the first, after which all end
pub record IsLeftAfter (p q : ℕ) : Type 0 where
  pub first : p ≢ FIRST_PID
  pub apart : q ≢ p

-- q lives on, if it lived, after a turn of p that came to this
abbrev pub LivesOn : ℕ → Served → ℕ → Type 0
LivesOn p Done q = Unit {0}
LivesOn p (Child v) q = Unit {0}
LivesOn p (LastChild v) q = IsLeftAfter p q
LivesOn p Blocked q = Unit {0}
LivesOn p Progress q = Unit {0}
LivesOn p Ended q = IsLeftAfter p q
LivesOn p (Unsupported number) q = Unit {0}

-- a turn of p that came to this leaves what is sound, and each process that lives on has a task still; and the pid of a child
-- was next, and has a task unless all have ended
pub record LeavesSound (p : ℕ) (served : Served) (made : Option Machine) (old new : Shared) (world : World) : Type 0 where
  pub sound : IsSound new world
  pub tasks : (q : ℕ) → LivesOn p served q → IsSome (get old.tasks q) → IsSome (get new.tasks q)
  pub next : new.pids.next ≡ next_after old.pids.next made
  pub child : IfSome made (λ _. LivesOn p served old.pids.next → IsSome (get new.tasks old.pids.next))

-- what was sound is sound still, each process that had a task has one, and no pid was given
pub record KeepsSound (old new : Shared) (world : World) : Type 0 where
  pub sound : IsSound new world
  pub tasks : (q : ℕ) → IsSome (get old.tasks q) → IsSome (get new.tasks q)
  pub next : new.pids.next ≡ old.pids.next

-- a call that asks nothing of the host changes tasks alone, and leaves what was sound
pub record ChangesTasks (old new : Shared) : Type 0 where
  pub rest : new ≡ record old { tasks = new.tasks }
  pub kept : (world : World) → IsSound old world → KeepsSound old new world

-- what the code left: what is shared, what the host keeps, and the machine of the process whose stop was served
pub record Left : Type 0 where
  pub shared : Shared
  pub world : World
  pub machine : Machine

-- what was left, of its parts
abbrev pub left : Shared → World → Machine → Left
left c w m = record { shared = c; world = w; machine = m }

-- the code served a stop of p as it is defined, unless the host failed or memory was wanting
pub record HasEffect (p : ℕ) (defined : Effect) (old : Shared) (new : Left) (result : Result EffectInCode HostErr) (before now : ℕ) : Type 0 where
  pub served : IfOk result (λ e. defined ≡ effect_as (shared_of new.shared new.world) new.machine e)
  pub kept : IfOk result (λ e. LeavesSound p e.served e.child old new.shared new.world)
  pub cause : HasCause before now (IsErrOf result Failed)
