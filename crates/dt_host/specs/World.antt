-- What a host keeps: the nodes of a tree by number, which of them is the root, what each pipe holds, and the pids that are live.
use Rattle.std.specs.Prelude.{◌≡◌, ◌≢◌, ℕ, ◌^◌, ◌<◌, List, [], length, Option, None, Some, option_and_then, unwrap_or, IsSome, true}
use Rattle.std.specs.Ordering.{nat_cmp}
use Rattle.std.specs.Cmp.Lexicographic.{slice_cmp}
use Rattle.std.specs.FinMap.{FinMap, empty, get, insert, remove}
use Rattle.std.specs.FinSet as set
use Rattle.std.specs.FinSet.{FinSet, contains}
use Rattle.dt_base.specs.declared.image.Device.{Device}

-- the entries of a directory: a node's number by the bytes of its name
abbrev pub Names : Type 0
Names = FinMap (slice_cmp nat_cmp) ℕ

-- the bytes of a file, the entries of a directory, the target of a link, or which device it is
pub data Node : Type 0 where
  file : List ℕ → Node
  dir : Names → Node
  link : List ℕ → Node
  device : Device → Node

-- the live nodes by number, and the number of the root
pub record Forest : Type 0 where
  pub nodes : FinMap nat_cmp Node
  pub root : ℕ

-- the bytes that each pipe holds (pipe(7)), the oldest first, by the pipe's number
abbrev pub PipeContents : Type 0
PipeContents = FinMap nat_cmp (List ℕ)

-- the pids of live processes
abbrev pub HostPids : Type 0
HostPids = FinSet nat_cmp

-- all that a host keeps
pub record World : Type 0 where
  pub forest : Forest
  pub pipes : PipeContents
  pub pids : HostPids

-- the node of that number
abbrev pub node_at : Forest → ℕ → Option Node
node_at v n = get v.nodes n

-- the number is one of a node
abbrev pub IsLive : Forest → ℕ → Type 0
IsLive v n = IsSome (node_at v n)

-- the bytes of a node that is a file
abbrev pub file_bytes : Node → Option (List ℕ)
file_bytes (file bytes) = Some bytes
file_bytes (dir names) = None
file_bytes (link target) = None
file_bytes (device which) = None

-- the entries of a node that is a directory
abbrev pub dir_names : Node → Option Names
dir_names (file bytes) = None
dir_names (dir names) = Some names
dir_names (link target) = None
dir_names (device which) = None

-- the target of a node that is a link
abbrev pub link_target : Node → Option (List ℕ)
link_target (file bytes) = None
link_target (dir names) = None
link_target (link target) = Some target
link_target (device which) = None

-- which device a node is that is one
abbrev pub node_device : Node → Option Device
node_device (file bytes) = None
node_device (dir names) = None
node_device (link target) = None
node_device (device which) = Some which

-- the bytes of the file of that number
abbrev pub file_at : Forest → ℕ → Option (List ℕ)
file_at v n = option_and_then file_bytes (node_at v n)

-- the entries of the directory of that number
abbrev pub dir_at : Forest → ℕ → Option Names
dir_at v n = option_and_then dir_names (node_at v n)

-- the target of the link of that number
abbrev pub target_at : Forest → ℕ → Option (List ℕ)
target_at v n = option_and_then link_target (node_at v n)

-- the device of that number
abbrev pub device_at : Forest → ℕ → Option Device
device_at v n = option_and_then node_device (node_at v n)

-- the number is one of a file
abbrev pub IsFile : Forest → ℕ → Type 0
IsFile v n = IsSome (file_at v n)

-- the number is one of a directory
abbrev pub IsDir : Forest → ℕ → Type 0
IsDir v n = IsSome (dir_at v n)

-- the number is one of a link
abbrev pub IsLink : Forest → ℕ → Type 0
IsLink v n = IsSome (target_at v n)

-- the number is one of a device
abbrev pub IsDevice : Forest → ℕ → Type 0
IsDevice v n = IsSome (device_at v n)

-- the bytes of a file; none where there is no file
unfoldable pub content : Forest → ℕ → List ℕ
content v n = unwrap_or (file_at v n) []

-- all its numbers have 64 bits: those of its nodes, the root's, and each file's size
pub record IsSized (v : Forest) : Type 0 where
  pub numbers : (n : ℕ) → IsLive v n → n < 2 ^ 64
  pub root : v.root < 2 ^ 64
  pub files : (n : ℕ) → length (content v n) < 2 ^ 64

-- the number is one of a pipe
abbrev pub IsPipe : World → ℕ → Type 0
IsPipe w n = IsSome (get w.pipes n)

-- what a pipe holds; none where there is no pipe
abbrev pub pipe_bytes : World → ℕ → List ℕ
pipe_bytes w n = unwrap_or (get w.pipes n) []

-- the numbers of pipes have 64 bits, and none of them is a node's
pub record ArePipes (w : World) : Type 0 where
  pub numbers : (n : ℕ) → IsPipe w n → n < 2 ^ 64
  pub apart : (n : ℕ) → IsLive w.forest n → get w.pipes n ≡ None

-- the live pids have 64 bits
abbrev pub ArePids : HostPids → Type 0
ArePids pids = (p : ℕ) → contains pids p ≡ true → p < 2 ^ 64

-- the entries of a directory; none where there is no directory
unfoldable pub names_at : Forest → ℕ → Names
names_at v d = unwrap_or (dir_at v d) empty

-- the number that a directory has under a name
unfoldable pub entry : Forest → ℕ → List ℕ → Option ℕ
entry v d name = get (names_at v d) name

-- the forest with this node under that number
abbrev pub with_node : Forest → ℕ → Node → Forest
with_node v n node = record v { nodes = insert v.nodes n node }

-- the forest with these bytes as the file of that number
unfoldable pub with_bytes : Forest → ℕ → List ℕ → Forest
with_bytes v n bytes = with_node v n (file bytes)

-- the forest with one entry more in that directory
unfoldable pub with_entry : Forest → ℕ → List ℕ → ℕ → Forest
with_entry v d name n = with_node v d (dir (insert (names_at v d) name n))

-- the forest with one entry fewer in that directory
unfoldable pub without_entry : Forest → ℕ → List ℕ → Forest
without_entry v d name = with_node v d (dir (remove (names_at v d) name))

-- the forest without the node of that number
abbrev pub without_node : Forest → ℕ → Forest
without_node v n = record v { nodes = remove v.nodes n }

-- no directory has an entry for that number
abbrev pub IsNameless : Forest → ℕ → Type 0
IsNameless v n = (d : ℕ) (name : List ℕ) → entry v d name ≢ Some n

-- that number has no entries
abbrev pub IsBare : Forest → ℕ → Type 0
IsBare v d = (name : List ℕ) → entry v d name ≡ None

-- the world with this forest
abbrev pub with_forest : World → Forest → World
with_forest w v = record w { forest = v }

-- the world with these pids
abbrev pub with_pids : World → HostPids → World
with_pids w pids = record w { pids = pids }

-- the world with a pipe of that number that holds these bytes
abbrev pub with_pipe : World → ℕ → List ℕ → World
with_pipe w n bytes = record w { pipes = insert w.pipes n bytes }

-- the world without the pipe of that number
abbrev pub without_pipe : World → ℕ → World
without_pipe w n = record w { pipes = remove w.pipes n }

-- nothing but the forest may have changed
pub record OnlyForest (old new : World) : Type 0 where
  pub pipes : new.pipes ≡ old.pipes
  pub pids : new.pids ≡ old.pids

-- nothing but the pids may have changed
pub record OnlyPids (old new : World) : Type 0 where
  pub forest : new.forest ≡ old.forest
  pub pipes : new.pipes ≡ old.pipes

-- a forest of nothing but a root without entries
abbrev pub empty_forest : ℕ → Forest
empty_forest root = record { nodes = insert empty root (dir empty); root = root }

-- a world of nothing but a root without entries: there is no pipe, and no pid is live
abbrev pub empty_world : ℕ → World
empty_world root = record { forest = empty_forest root; pipes = empty; pids = set.empty }

-- nothing is there but a root without entries, and no pid is live
abbrev pub IsEmptyStart : World → Type 0
IsEmptyStart w = w ≡ empty_world w.forest.root
