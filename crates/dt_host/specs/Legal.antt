-- The legal answers of a host, as relations between the world before a call, what was asked, the answer, and the world after it.
-- Those of the calls without a relation here stand as clauses at the trait.
use Rattle.std.specs.Prelude.{◌≡◌, ◌≢◌, ℕ, ◌-◌, ◌≤◌, min, List, [], ◌++◌, length, take, drop, false, None, is_some, MatchOption}
use Rattle.std.specs.Prelude.{Result, MatchResult, if◌then◌else◌}
use Rattle.std.specs.FinMap.{empty, get}
use Rattle.std.specs.FinSet.{contains, insert, remove}
use Rattle.dt_host.specs.declared.entry.HostEntry.{HostEntry}
use Rattle.dt_host.specs.declared.kind.NodeKind.{NodeKind}
use Rattle.dt_host.specs.declared.kind.NodeKind.TheVariants.{File, Dir, Pipe, Link, Device}
use Rattle.dt_host.specs.Sink.{MovesSome}
use Rattle.dt_host.specs.World.{World, Forest, file, dir, link, device, node_at, with_node, with_forest, with_pids, with_pipe}
use Rattle.dt_host.specs.World.{without_pipe, with_entry, without_entry, without_node, with_bytes, content, pipe_bytes}
use Rattle.dt_host.specs.World.{IsLive, IsNameless, IsBare}
use Rattle.dt_base.specs.Bytes.{with_bytes_at, with_length}

-- the world with something new of that kind, under this number: an empty file, a directory without entries, an empty pipe,
-- a link, or a device
abbrev pub with_new : World → ℕ → NodeKind → World
with_new w n File = with_forest w (with_node w.forest n (file []))
with_new w n Dir = with_forest w (with_node w.forest n (dir empty))
with_new w n Pipe = with_pipe w n []
with_new w n (Link target) = with_forest w (with_node w.forest n (link target))
with_new w n (Device which) = with_forest w (with_node w.forest n (device which))

-- a new node or pipe was made under a number that was free
pub record MadeAt (old : World) (kind : NodeKind) (new : World) (n : ℕ) : Type 0 where
  pub positive : 1 ≤ n
  pub free : node_at old.forest n ≡ None
  pub no_pipe : get old.pipes n ≡ None
  pub made : new ≡ with_new old n kind

-- the answers of `make`
abbrev pub Makes : {E : Type 0} → World → NodeKind → Result ℕ E → World → Type 0
Makes old kind result new = MatchResult result (MadeAt old kind new) (λ _. new ≡ old)

-- the answers of `bind`
abbrev pub Binds : {A E : Type 0} → World → ℕ → List ℕ → ℕ → Result A E → World → Type 0
Binds old d name n result new =
    MatchResult result (λ _. new ≡ with_forest old (with_entry old.forest d name n)) (λ _. new ≡ old)

-- the answers of `unbind`
abbrev pub Unbinds : {A E : Type 0} → World → ℕ → List ℕ → Result A E → World → Type 0
Unbinds old d name result new =
    MatchResult result (λ _. new ≡ with_forest old (without_entry old.forest d name)) (λ _. new ≡ old)

-- a node may go that is no root, that no directory names and that has no entries
pub record NodeMayGo (v : Forest) (n : ℕ) : Type 0 where
  pub live : IsLive v n
  pub nameless : IsNameless v n
  pub not_root : n ≢ v.root
  pub bare : IsBare v n

-- a pipe may always go, and a node where it may
abbrev pub MayGo : World → ℕ → Type 0
MayGo w n = MatchOption (get w.pipes n) (NodeMayGo w.forest n) (λ _. Unit {0})

-- the world without the pipe of that number, or without the node where there is no such pipe
abbrev pub without : World → ℕ → World
without w n = if is_some (get w.pipes n) then without_pipe w n else with_forest w (without_node w.forest n)

-- the answers of `forget`
abbrev pub Forgets : {A E : Type 0} → World → ℕ → Result A E → World → Type 0
Forgets old n result new = MatchResult result (λ _. new ≡ without old n) (λ _. new ≡ old)

-- a pid that was not live is one
pub record MadePid (old new : World) (p : ℕ) : Type 0 where
  pub free : contains old.pids p ≡ false
  pub made : new ≡ with_pids old (insert old.pids p)

-- the answers of `new_pid`
abbrev pub MakesPid : {E : Type 0} → World → Result ℕ E → World → Type 0
MakesPid old result new = MatchResult result (MadePid old new) (λ _. new ≡ old)

-- the answers of `drop_pid`
abbrev pub DropsPid : {A E : Type 0} → World → ℕ → Result A E → World → Type 0
DropsPid old p result new = MatchResult result (λ _. new ≡ with_pids old (remove old.pids p)) (λ _. new ≡ old)

-- an entry that `names` found, as its name and its number
abbrev pub pair_of : HostEntry → List ℕ × ℕ
pair_of found = (found.name, found.ino)

-- so many bytes of a file, from an offset on, came into the start of a buffer
pub record Reads (bytes : List ℕ) (off : ℕ) (old new : List ℕ) (count : ℕ) : Type 0 where
  pub moved : MovesSome (min (length old) (length bytes - off)) count
  pub prefix : new ≡ take count (drop off bytes) ++ drop count old

-- the world with bytes written over a file from an offset on
abbrev pub with_write : World → ℕ → ℕ → List ℕ → World
with_write w n off bytes = with_forest w (with_bytes w.forest n (with_bytes_at (content w.forest n) off bytes))

-- so many of the bytes were written
pub record WritesSome (old : World) (n off : ℕ) (bytes : List ℕ) (new : World) (count : ℕ) : Type 0 where
  pub moved : MovesSome (length bytes) count
  pub prefix : new ≡ with_write old n off (take count bytes)

-- a prefix of the bytes was written, maybe none or all of them
pub record WritesPart (old : World) (n off : ℕ) (bytes : List ℕ) (new : World) : Type 0 where
  pub count : ℕ
  pub within : count ≤ length bytes
  pub prefix : new ≡ with_write old n off (take count bytes)

-- the answers of `write_at`
abbrev pub Writes : {E : Type 0} → World → ℕ → ℕ → List ℕ → Result ℕ E → World → Type 0
Writes old n off bytes result new =
    MatchResult result (WritesSome old n off bytes new) (λ _. WritesPart old n off bytes new)

-- the answers of a write that goes on until all is written
abbrev pub WritesAll : {A E : Type 0} → World → ℕ → ℕ → List ℕ → Result A E → World → Type 0
WritesAll old n off bytes result new =
    MatchResult result (λ _. new ≡ with_write old n off bytes) (λ _. WritesPart old n off bytes new)

-- the world with a file of another size: cut, or with zeros behind its bytes
abbrev pub with_size : World → ℕ → ℕ → World
with_size w n len = with_forest w (with_bytes w.forest n (with_length (content w.forest n) len))

-- so many of the oldest bytes that a pipe holds came into the start of a buffer, and are gone from it
pub record TakesSome (old : World) (n : ℕ) (before after : List ℕ) (new : World) (count : ℕ) : Type 0 where
  pub moved : MovesSome (min (length before) (length (pipe_bytes old n))) count
  pub prefix : after ≡ take count (pipe_bytes old n) ++ drop count before
  pub left : new ≡ with_pipe old n (drop count (pipe_bytes old n))

-- the answers of `pipe_take`
abbrev pub Takes : {E : Type 0} → World → ℕ → List ℕ → List ℕ → Result ℕ E → World → Type 0
Takes old n before after result new =
    MatchResult result (TakesSome old n before after new) (λ _. new ≡ old)

-- the world with these bytes behind those that a pipe holds
abbrev pub with_put : World → ℕ → List ℕ → World
with_put w n bytes = with_pipe w n (pipe_bytes w n ++ bytes)

-- so many of the bytes were put into a pipe
pub record PutsSome (old : World) (n : ℕ) (bytes : List ℕ) (new : World) (count : ℕ) : Type 0 where
  pub moved : MovesSome (length bytes) count
  pub prefix : new ≡ with_put old n (take count bytes)

-- a prefix of the bytes was put into a pipe, maybe none or all of them
pub record PutsPart (old : World) (n : ℕ) (bytes : List ℕ) (new : World) : Type 0 where
  pub count : ℕ
  pub within : count ≤ length bytes
  pub prefix : new ≡ with_put old n (take count bytes)

-- the answers of `pipe_put`
abbrev pub Puts : {E : Type 0} → World → ℕ → List ℕ → Result ℕ E → World → Type 0
Puts old n bytes result new = MatchResult result (PutsSome old n bytes new) (λ _. PutsPart old n bytes new)

-- the answers of a transfer into a pipe that goes on until all is moved
abbrev pub PutsAll : {A E : Type 0} → World → ℕ → List ℕ → Result A E → World → Type 0
PutsAll old n bytes result new = MatchResult result (λ _. new ≡ with_put old n bytes) (λ _. PutsPart old n bytes new)

-- so many of the oldest bytes that a pipe holds came into the start of a buffer: as many as there are, or as fit
pub record TakesMost (old : World) (n : ℕ) (before after : List ℕ) (new : World) (count : ℕ) : Type 0 where
  pub most : count ≡ min (length before) (length (pipe_bytes old n))
  pub prefix : after ≡ take count (pipe_bytes old n) ++ drop count before
  pub left : new ≡ with_pipe old n (drop count (pipe_bytes old n))

-- so many of the oldest bytes that a pipe holds are gone from it, maybe none, and no more than a buffer takes
pub record LosesPart (old : World) (n : ℕ) (before : List ℕ) (new : World) : Type 0 where
  pub count : ℕ
  pub there : count ≤ length (pipe_bytes old n)
  pub fits : count ≤ length before
  pub left : new ≡ with_pipe old n (drop count (pipe_bytes old n))

-- the answers of a transfer out of a pipe that goes on until the buffer is full or the pipe is empty
abbrev pub TakesAll : {E : Type 0} → World → ℕ → List ℕ → List ℕ → Result ℕ E → World → Type 0
TakesAll old n before after result new =
    MatchResult result (TakesMost old n before after new) (λ _. LosesPart old n before new)

-- the answers of `cut`
abbrev pub Cuts : {A E : Type 0} → World → ℕ → ℕ → Result A E → World → Type 0
Cuts old n len result new = MatchResult result (λ _. new ≡ with_size old n len) (λ _. new ≡ old)
