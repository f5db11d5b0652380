-- What the calls work on in code, and how a row is served.
use Rattle.std.specs.Prelude.{◌≡◌, ℕ, ◌+◌, ◌<◌, ◌≤◌, List, Result, IfOk, OnOk, IsErrOf}
use Rattle.dt_base.specs.declared.answer.Answer.{Answer}
use Rattle.dt_base.specs.declared.caller.Caller.{Caller}
use Rattle.dt_fds.specs.OpenFiles.{pipes_at}
use Rattle.dt_fds.specs.Backs.{AllIn, IsPiped, KeepsTables, OnlyFiles, descriptions_of}
use Rattle.dt_host.specs.Cause.{HasCause}
use Rattle.dt_host.specs.declared.error.HostErr.{HostErr}
use Rattle.dt_host.specs.declared.error.HostErr.TheVariants.{Failed}
use Rattle.dt_host.specs.World.{World, IsFile, IsDir, IsDevice}
use Rattle.dt_space.specs.Space.{PageView}
use Rattle.dt_tree.specs.Table.{Stands, shape_of, tree_of}
use Rattle.dt_tree.specs.FileTree.{holds_of}
use Rattle.dt_tree.specs.Shape.{one_for}
use Rattle.dt_callbase.specs.declared.fs.Fs.{Fs}
use Rattle.dt_callbase.specs.Scene.{Scene, Reply}

-- where the code stands: what it keeps, what its host keeps, the process that calls, and its pages
pub record Stage : Type 0 where
  pub fs : Fs
  pub world : World
  pub caller : Caller
  pub space : List PageView

-- a stage, of its parts
abbrev pub stage : Fs → World → Caller → List PageView → Stage
stage fs world caller space = record { fs = fs; world = world; caller = caller; space = space }

-- the scene that a stage stands for
abbrev pub scene : Stage → Scene
scene g = record {
  tree = tree_of g.fs.tree g.world.forest;
  files = g.fs.files.descriptors;
  pipes = pipes_at g.fs.files g.world.pipes;
  clock = g.fs.clock;
  rand = g.fs.rand;
  input = g.fs.input;
  caller = g.caller;
  space = g.space;
}

-- how often open files and the working directory of the process that calls name a node
abbrev pub node_references : Scene → ℕ → ℕ
node_references s n = descriptions_of s.files n + one_for n s.caller.cwd

-- the table stands for a tree with the host's nodes, the working directory is a directory of it, what is open is in it, and
-- each node is held at least once for each of these that names it; and the table of pipes stands for the host's
pub record Sound (g : Stage) : Type 0 where
  pub stands : Stands g.fs.tree g.world.forest
  pub is_dir : IsDir (shape_of g.fs.tree g.world.forest) g.caller.cwd
  pub all_in : AllIn (shape_of g.fs.tree g.world.forest) g.fs.files.descriptors
  pub enough : (n : ℕ) → node_references (scene g) n ≤ holds_of (tree_of g.fs.tree g.world.forest) n
  pub piped : IsPiped g.fs.files g.world.pipes

-- a call leaves what others hold: the process is the same; the holds of a node that are neither of an open file nor of the
-- process's working directory are as many as before; where there are such, a file stays a file, a directory one and a device
-- one; and the descriptors of other processes stay
pub record KeepsOthers (old new : Scene) : Type 0 where
  pub vpid : new.caller.vpid ≡ old.caller.vpid
  pub tables : KeepsTables old.caller.vpid old.files new.files
  pub holds : (n : ℕ) → holds_of new.tree n + node_references old n ≡ holds_of old.tree n + node_references new n
  pub files : (n : ℕ) → node_references old n < holds_of old.tree n → IsFile old.tree.shape n → IsFile new.tree.shape n
  pub dirs : (n : ℕ) → node_references old n < holds_of old.tree n → IsDir old.tree.shape n → IsDir new.tree.shape n
  pub devices : (n : ℕ) → node_references old n < holds_of old.tree n → IsDevice old.tree.shape n → IsDevice new.tree.shape n

-- the code reached what is defined: it answers and leaves that, unless the host fails or memory is wanting
pub record HasReply (defined : Reply) (old new : Stage) (result : Result Answer HostErr) (before now : ℕ) : Type 0 where
  pub served : IfOk result (λ answer. defined ≡ record { next = scene new; answer = answer })
  pub sound : OnOk result (Sound new)
  pub others : OnOk result (KeepsOthers (scene old) (scene new))
  pub rest : OnlyFiles old.world new.world
  pub cause : HasCause before now (IsErrOf result Failed)

-- the code serves a row of these arguments
abbrev pub HasRowReply : (List ℕ → Scene → Reply) → List ℕ → Stage → Stage → Result Answer HostErr → ℕ → ℕ → Type 0
HasRowReply row args old new result before now = HasReply (row args (scene old)) old new result before now

-- the code serves what is left of a row
abbrev pub HasReplyOf : (Scene → Reply) → Stage → Stage → Result Answer HostErr → ℕ → ℕ → Type 0
HasReplyOf row old new result before now = HasReply (row (scene old)) old new result before now
