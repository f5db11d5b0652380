-- What holds between calls of open files, their pipes and their tree: what is open is there, and held.
use Rattle.std.specs.Prelude.{◌≡◌, ◌≢◌, ℕ, ◌+◌, ◌<◌, ◌≤◌, IfSome, IsSome, Result, Ok, Err, OnOk, IsErrOf}
use Rattle.std.specs.FinMap.{get}
use Rattle.dt_host.specs.Cause.{HasCause}
use Rattle.dt_tables.specs.Total.{total}
use Rattle.dt_host.specs.World as host
use Rattle.dt_host.specs.World.{World, Forest, IsFile, IsDir, IsDevice}
use Rattle.dt_host.specs.declared.error.HostErr.{HostErr}
use Rattle.dt_host.specs.declared.error.HostErr.TheVariants.{Failed, NoMemory}
use Rattle.dt_host.specs.declared.error.CallErr.{CallErr}
use Rattle.dt_host.specs.declared.error.CallErr.TheVariants.{Errno as is_refused, Host as has_failed}
use Rattle.dt_tree.specs.FileTree.{holds_of}
use Rattle.dt_tree.specs.Calls.{UnlessFailed}
use Rattle.dt_tree.specs.Table.{Table, Stands, tree_of}
use Rattle.dt_fds.specs.declared.desc.DescKind.{DescKind}
use Rattle.dt_fds.specs.declared.desc.DescKind.TheVariants.{File, Dir, Device, PipeRead, PipeWrite, Input, Stream}
use Rattle.dt_fds.specs.Descriptions.{Descriptions, inode_of, pipe_of, one_if_named, readers, writers}
use Rattle.dt_fds.specs.declared.files.Files.{Files}
use Rattle.dt_fds.specs.Ends.{AreCounted}
use Rattle.dt_fds.specs.OpenFiles.{pipes_at}
use Rattle.dt_fds.specs.Pipes.{PipesView}
use Rattle.dt_fds.specs.Holding.{Holding, FilesAnswer, holding_of}
use Rattle.dt_pipes.specs.Table as pipes

-- how many open descriptions are of a node
unfoldable pub descriptions_of : Descriptions → ℕ → ℕ
descriptions_of f n = total (λ desc. one_if_named n (inode_of desc.kind)) f.descs

-- the node of a description is there, and of its kind
abbrev pub IsIn : Forest → DescKind → Type 0
IsIn v (File n) = IsFile v n
IsIn v (Dir n) = IsDir v n
IsIn v (Device n) = IsDevice v n
IsIn v (PipeRead q) = Unit {0}
IsIn v (PipeWrite q) = Unit {0}
IsIn v Input = Unit {0}
IsIn v (Stream stream) = Unit {0}

-- the node of each open description is there, and of its kind
abbrev pub AllIn : Forest → Descriptions → Type 0
AllIn v f = (k : ℕ) → IfSome (get f.descs k) (λ desc. IsIn v desc.kind)

-- the pipe of each open description that is an end of one is there
abbrev pub AllEnds : PipesView → Descriptions → Type 0
AllEnds pipes f = (k : ℕ) → IfSome (get f.descs k) (λ desc. IfSome (pipe_of desc.kind) (λ q. IsSome (get pipes.contents q)))

-- each node is held at least once for each description of it, and each description's node is there and of its kind, or its
-- pipe is there
pub record Backs (h : Holding) : Type 0 where
  pub enough : (n : ℕ) → descriptions_of h.files n ≤ holds_of h.tree n
  pub is_in : AllIn h.tree.shape h.files
  pub ends : AllEnds h.pipes h.files

-- the tables of all processes but one stay
abbrev pub KeepsTables : ℕ → Descriptions → Descriptions → Type 0
KeepsTables p old new = (q : ℕ) → q ≢ p → get new.tables q ≡ get old.tables q

-- as many descriptions are of each node and of each end of a pipe, each description's node is there and of its kind if that
-- was so before, and so is its pipe; and the tables of other processes stay
pub record KeepsNodes (p : ℕ) (old new : Descriptions) : Type 0 where
  pub tables : KeepsTables p old new
  pub counts : (n : ℕ) → descriptions_of new n ≡ descriptions_of old n
  pub reading : (q : ℕ) → readers new q ≡ readers old q
  pub writing : (q : ℕ) → writers new q ≡ writers old q
  pub all_in : (v : Forest) → AllIn v old → AllIn v new
  pub all_ends : (pipes : PipesView) → AllEnds pipes old → AllEnds pipes new

-- what others hold stays: the holds of a node that are of no description are as many as before, and where there are such,
-- a file stays a file, a directory a directory and a device a device; and the tables of other processes stay
pub record KeepsOthers (p : ℕ) (old new : Holding) : Type 0 where
  pub tables : KeepsTables p old.files new.files
  pub holds : (n : ℕ) → holds_of new.tree n + descriptions_of old.files n ≡ holds_of old.tree n + descriptions_of new.files n
  pub files : (n : ℕ) → descriptions_of old.files n < holds_of old.tree n → IsFile old.tree.shape n → IsFile new.tree.shape n
  pub dirs : (n : ℕ) → descriptions_of old.files n < holds_of old.tree n → IsDir old.tree.shape n → IsDir new.tree.shape n
  pub devices : (n : ℕ) → descriptions_of old.files n < holds_of old.tree n → IsDevice old.tree.shape n → IsDevice new.tree.shape n

-- where the code stands: its open files, its tree's table, and what its host keeps
pub record At : Type 0 where
  pub files : Files
  pub table : Table
  pub world : World

-- where it stands, of these parts
abbrev pub at : Files → Table → World → At
at files table world = record { files = files; table = table; world = world }

-- the descriptions, the pipes and the tree of code that stands there
abbrev pub holding_at : At → Holding
holding_at a = holding_of (tree_of a.table a.world.forest) (pipes_at a.files a.world.pipes) a.files.descriptors

-- nothing but nodes and pipes may have changed
abbrev pub OnlyFiles : World → World → Type 0
OnlyFiles old new = new.pids ≡ old.pids

-- the pipe of each open description that is an end of one is in the table
abbrev pub HasEnds : Files → Type 0
HasEnds f = (k : ℕ) → IfSome (get f.descriptors.descs k) (λ desc. IfSome (pipe_of desc.kind) (λ q. IsSome (get f.pipes.pipes q)))

-- the table of the pipes stands for those of the host, its ends are counted, and the pipe of each is there
pub record IsPiped (f : Files) (host : host.PipeContents) : Type 0 where
  pub stands : pipes.Stands f.pipes host
  pub counted : AreCounted f.descriptors f.ends
  pub there : AllEnds (pipes_at f host) f.descriptors

-- the tables stand for a tree and for pipes, and these back the descriptions
pub record IsBacked (a : At) : Type 0 where
  pub stands : Stands a.table a.world.forest
  pub pipes : pipes.Stands a.files.pipes a.world.pipes
  pub ends : AreCounted a.files.descriptors a.files.ends
  pub backs : Backs (holding_at a)

-- descriptions, pipes and tree came to this, unless the host failed or memory was wanting
pub record HasHolding {A : Type 0} (p : ℕ) (defined : Holding) (old new : At) (result : Result A HostErr) (before now : ℕ) : Type 0 where
  pub made : OnOk result (holding_at new ≡ defined)
  pub backed : OnOk result (IsBacked new)
  pub others : OnOk result (KeepsOthers p (holding_at old) (holding_at new))
  pub rest : OnlyFiles old.world new.world
  pub cause : HasCause before now (IsErrOf result Failed)

-- the host failed
abbrev pub HasFailed : {A : Type 0} → Result A CallErr → Type 0
HasFailed (Ok value) = ⊥
HasFailed (Err (is_refused errno)) = ⊥
HasFailed (Err (has_failed Failed)) = Unit {0}
HasFailed (Err (has_failed NoMemory)) = ⊥

-- a call answered and left what is defined, unless the host failed or memory was wanting
abbrev pub IsFilesAnswer : {A : Type 0} → Result A CallErr → Holding → FilesAnswer A → Type 0
IsFilesAnswer (Ok value) new defined = defined ≡ record { answer = Ok value; next = new }
IsFilesAnswer (Err (is_refused errno)) new defined = defined ≡ record { answer = Err errno; next = new }
IsFilesAnswer (Err (has_failed error)) new defined = Unit {0}

-- a call is made as it is defined
pub record HasFilesAnswer {A : Type 0} (p : ℕ) (call : Holding → FilesAnswer A) (old new : At) (result : Result A CallErr) (before now : ℕ) : Type 0 where
  pub made : IsFilesAnswer result (holding_at new) (call (holding_at old))
  pub backed : UnlessFailed result (IsBacked new)
  pub others : UnlessFailed result (KeepsOthers p (holding_at old) (holding_at new))
  pub rest : OnlyFiles old.world new.world
  pub cause : HasCause before now (HasFailed result)
