-- A host in memory, and how it answers: a call that is listed fails and is counted, and any other chooses by words.
use Rattle.std.specs.Prelude.{◌≡◌, ℕ, ◌-◌, ◌%◌, min, ◌==◌, List, [], ◌++◌, length, take, drop, map, Option, Some, Vec, Ok, Err, Result, MatchBool, MatchResult, if◌then◌else◌}
use Rattle.dt_host.specs.declared.kind.NodeKind.{NodeKind}
use Rattle.std.specs.FinMap.{empty, insert, remove}
use Rattle.std.specs.FinSet as set
use Rattle.dt_host.specs.declared.entry.HostEntry.{HostEntry}
use Rattle.dt_host.specs.declared.raw.RawStat.{RawStat}
use Rattle.dt_host.specs.declared.error.HostErr.{HostErr}
use Rattle.dt_host.specs.declared.error.HostErr.TheVariants.{Failed, NoMemory}
use Rattle.dt_host.specs.World.{World, empty_world, with_forest, with_pids, with_pipe, with_entry, without_entry, entry, content, target_at, pipe_bytes}
use Rattle.dt_host.specs.Legal.{with_new, without, pair_of, with_write, with_size, with_put}
use Rattle.dt_memhost.specs.Picks.{Picks, length_by}
use Rattle.dt_memhost.specs.Script.{Script, script_from, is_next_listed, after_call, after_fault, after_draw, after_draws, with_stream, coming_word, words_of}
use Rattle.dt_memhost.specs.Order.{Orders, order_at, with_new_order, with_last, without_name, drawn_order}
use Rattle.dt_memhost.specs.declared.forest.TheConstants.{ROOT}
use Rattle.dt_memhost.specs.declared.number.TheConstants.{INODE_NUMBERS, PID_NUMBERS}
use Rattle.dt_memhost.specs.Number.{IsChosenNumber, is_in_either}

-- what the host keeps, the order of binding in its nodes, and the script
pub record HostState : Type 0 where
  pub view : World
  pub orders : Orders
  pub script : Script

-- a host before any call: a root without entries, whose number is 1, no pipe, no pid, the words and the calls that fail
abbrev pub empty_host : Picks → List ℕ → HostState
empty_host picks fails = record { view = empty_world ROOT; orders = insert empty ROOT []; script = script_from picks fails }

-- a call that fails is counted, as a call and as a fault, and changes nothing else
pub record Fails {A : Type 0} (old : HostState) (result : Result A HostErr) (new : HostState) : Type 0 where
  pub failed_only : result ≡ Err Failed
  pub counts : new ≡ record old { script = after_fault old.script }

-- memory ran out: nothing changes but the script
pub record Starves (old : HostState) (script : Script) (new : HostState) (error : HostErr) : Type 0 where
  pub memory_only : error ≡ NoMemory
  pub kept : new ≡ record old { script = script }

-- an answer without a choice, which leaves what the host keeps
pub record Gives {A : Type 0} (old : HostState) (answer : A) (result : Result A HostErr) (new : HostState) : Type 0 where
  pub ok : result ≡ Ok answer
  pub counts : new ≡ record old { script = after_call old.script }

-- a call fails where it is listed, and else answers as said
abbrev pub UnlessListed : {A : Type 0} → HostState → Result A HostErr → HostState → Type 0 → Type 0
UnlessListed old result new said = MatchBool (is_next_listed old.script) (Fails old result new) said

-- a call that fills a buffer fails where it is listed, and leaves the buffer, and else answers as said
abbrev pub FillsUnlessListed : {A : Type 0} → HostState → List ℕ → List ℕ → Result A HostErr → HostState → Type 0 → Type 0
FillsUnlessListed old before after result new said =
    MatchBool (is_next_listed old.script) (Fails old result new × (after ≡ before)) said

-- how a host in memory answers `root`
abbrev pub RootsBy : HostState → Result ℕ HostErr → HostState → Type 0
RootsBy old result new = UnlessListed old result new (Gives old old.view.forest.root result new)

-- how it answers `find`
abbrev pub FindsBy : HostState → ℕ → List ℕ → Result (Option ℕ) HostErr → HostState → Type 0
FindsBy old d name result new =
    UnlessListed old result new (Gives old (entry old.view.forest d name) result new)

-- a word chooses the number of the new node or pipe, where those of nodes and pipes are live
pub record MakesNumber (old : HostState) (kind : NodeKind) (new : HostState) (n : ℕ) : Type 0 where
  pub chosen : IsChosenNumber (is_in_either old.view.forest.nodes old.view.pipes) INODE_NUMBERS (coming_word old.script) n
  pub view : new.view ≡ with_new old.view n kind
  pub orders : new.orders ≡ with_new_order old.orders n kind
  pub script : new.script ≡ after_draw (after_call old.script)

-- how it answers `make`
abbrev pub MakesBy : HostState → NodeKind → Result ℕ HostErr → HostState → Type 0
MakesBy old kind result new =
    UnlessListed old result new
    (MatchResult result (MakesNumber old kind new) (Starves old (after_draw (after_call old.script)) new))

-- the entry is added
pub record BindsEntry (old : HostState) (d : ℕ) (name : List ℕ) (n : ℕ) (new : HostState) : Type 0 where
  pub view : new.view ≡ with_forest old.view (with_entry old.view.forest d name n)
  pub orders : new.orders ≡ with_last old.orders d name n
  pub script : new.script ≡ after_call old.script

-- how it answers `bind`
abbrev pub BindsBy : {A : Type 0} → HostState → ℕ → List ℕ → ℕ → Result A HostErr → HostState → Type 0
BindsBy old d name n result new =
    UnlessListed old result new
    (MatchResult result (λ _. BindsEntry old d name n new) (Starves old (after_call old.script) new))

-- the entry is gone, and the others of its directory stay in their order
pub record UnbindsEntry {A : Type 0} (old : HostState) (d : ℕ) (name : List ℕ) (answer : A) (result : Result A HostErr) (new : HostState) : Type 0 where
  pub ok : result ≡ Ok answer
  pub view : new.view ≡ with_forest old.view (without_entry old.view.forest d name)
  pub orders : new.orders ≡ without_name old.orders d name
  pub script : new.script ≡ after_call old.script

-- how it answers `unbind`, which takes no memory
abbrev pub UnbindsBy : {A : Type 0} → HostState → ℕ → List ℕ → A → Result A HostErr → HostState → Type 0
UnbindsBy old d name answer result new = UnlessListed old result new (UnbindsEntry old d name answer result new)

-- the node is gone, and so is its order; or the pipe is gone, which has no order
pub record ForgetsNumber {A : Type 0} (old : HostState) (n : ℕ) (answer : A) (result : Result A HostErr) (new : HostState) : Type 0 where
  pub ok : result ≡ Ok answer
  pub view : new.view ≡ without old.view n
  pub orders : new.orders ≡ remove old.orders n
  pub script : new.script ≡ after_call old.script

-- how it answers `forget`, which takes no memory
abbrev pub ForgetsBy : {A : Type 0} → HostState → ℕ → A → Result A HostErr → HostState → Type 0
ForgetsBy old n answer result new = UnlessListed old result new (ForgetsNumber old n answer result new)

-- a word chooses the pid, which is live
pub record AddsPid (old new : HostState) (p : ℕ) : Type 0 where
  pub chosen : IsChosenNumber (set.contains old.view.pids) PID_NUMBERS (coming_word old.script) p
  pub view : new.view ≡ with_pids old.view (set.insert old.view.pids p)
  pub orders : new.orders ≡ old.orders
  pub script : new.script ≡ after_draw (after_call old.script)

-- how it answers `new_pid`
abbrev pub MakesPidBy : HostState → Result ℕ HostErr → HostState → Type 0
MakesPidBy old result new =
    UnlessListed old result new
    (MatchResult result (AddsPid old new) (Starves old (after_draw (after_call old.script)) new))

-- the pid is no longer live
pub record RemovesPid {A : Type 0} (old : HostState) (p : ℕ) (answer : A) (result : Result A HostErr) (new : HostState) : Type 0 where
  pub ok : result ≡ Ok answer
  pub view : new.view ≡ with_pids old.view (set.remove old.view.pids p)
  pub orders : new.orders ≡ old.orders
  pub script : new.script ≡ after_call old.script

-- how it answers `drop_pid`, which takes no memory
abbrev pub DropsPidBy : {A : Type 0} → HostState → ℕ → A → Result A HostErr → HostState → Type 0
DropsPidBy old p answer result new = UnlessListed old result new (RemovesPid old p answer result new)

-- its choices begin anew
pub record Restarts {A : Type 0} (old : HostState) (number : ℕ) (answer : A) (result : Result A HostErr) (new : HostState) : Type 0 where
  pub ok : result ≡ Ok answer
  pub script : new ≡ record old { script = with_stream (after_call old.script) number }

-- how it answers `disturb`: the words that are left are dropped, and the stream of the number begins
abbrev pub DisturbsBy : {A : Type 0} → HostState → ℕ → A → Result A HostErr → HostState → Type 0
DisturbsBy old number answer result new = UnlessListed old result new (Restarts old number answer result new)

-- the entries come in the order that words choose, one word for each
pub record ListsBy (old : HostState) (d : ℕ) (new : HostState) (found : List HostEntry) : Type 0 where
  pub chosen : let order = order_at old.orders d in
      map pair_of found ≡ drawn_order (words_of (length order) old.script) order
  pub kept : let count = length (order_at old.orders d) in
      new ≡ record old { script = after_draws count (after_call old.script) }

-- how it answers `names`; where memory runs out no word was taken
abbrev pub NamesBy : {Z : Type 0} → HostState → ℕ → Result (Vec HostEntry Z) HostErr → HostState → Type 0
NamesBy old d result new =
    UnlessListed old result new
    (MatchResult result (λ found. ListsBy old d new found.items) (Starves old (after_call old.script) new))

-- what is said of a node: the size of a file, which is 0 for any other node, and three words
abbrev pub raw_by : World → ℕ → Script → RawStat
raw_by w n s = record {
  size = length (content w.forest n);
  device = coming_word s;
  mtime = coming_word (after_draw s);
  blocks = coming_word (after_draw (after_draw s));
}

-- an answer by a choice, which leaves what the host keeps
pub record Chooses {A : Type 0} (old : HostState) (answer : A) (script : Script) (result : Result A HostErr) (new : HostState) : Type 0 where
  pub chosen : result ≡ Ok answer
  pub kept : new ≡ record old { script = script }

-- how it answers `raw`
abbrev pub RawBy : HostState → ℕ → Result RawStat HostErr → HostState → Type 0
RawBy old n result new =
    UnlessListed old result new
    (Chooses old (raw_by old.view n old.script) (after_draw (after_draw (after_draw (after_call old.script)))) result new)

-- the target of a link, without a choice
pub record GivesTarget (old : HostState) (n : ℕ) (new : HostState) (target : List ℕ) : Type 0 where
  pub there : target_at old.view.forest n ≡ Some target
  pub counts : new ≡ record old { script = after_call old.script }

-- how it answers `target`
abbrev pub TargetBy : HostState → ℕ → Result (List ℕ) HostErr → HostState → Type 0
TargetBy old n result new =
    UnlessListed old result new (MatchResult result (GivesTarget old n new) (Starves old (after_call old.script) new))

-- how it answers `next_stop`: an index below this length, by a word
abbrev pub StopsBy : HostState → ℕ → Result ℕ HostErr → HostState → Type 0
StopsBy old count result new =
    UnlessListed old result new
    (Chooses old (coming_word old.script % count) (after_draw (after_call old.script)) result new)

-- how it answers `clock` and `cycles`: a word
abbrev pub WordBy : HostState → Result ℕ HostErr → HostState → Type 0
WordBy old result new =
    UnlessListed old result new (Chooses old (coming_word old.script) (after_draw (after_call old.script)) result new)

-- each byte of a buffer is the lowest of a word
pub record Fills {A : Type 0} (old : HostState) (before after : List ℕ) (answer : A) (result : Result A HostErr) (new : HostState) : Type 0 where
  pub ok : result ≡ Ok answer
  pub bytes : after ≡ map (λ word. word % 256) (words_of (length before) old.script)
  pub kept : new ≡ record old { script = after_draws (length before) (after_call old.script) }

-- how it answers `random`
abbrev pub FillsBy : {A : Type 0} → HostState → List ℕ → List ℕ → A → Result A HostErr → HostState → Type 0
FillsBy old before after answer result new =
    FillsUnlessListed old before after result new (Fills old before after answer result new)

-- the greatest length of a read
abbrev pub most_read : List ℕ → ℕ → List ℕ → ℕ
most_read bytes off buffer = min (length buffer) (length bytes - off)

-- how much is moved, by a word where there is anything to move
abbrev pub moved_count : ℕ → ℕ → ℕ
moved_count word most = if most == 0 then 0 else length_by word most

-- the script after a transfer, which takes a word where there is anything to move
abbrev pub after_transfer : Script → ℕ → Script
after_transfer s most = if most == 0 then after_call s else after_draw (after_call s)

-- so much of a file comes as a word chooses
pub record ReadsCount (old : HostState) (n off : ℕ) (before after : List ℕ) (result : Result ℕ HostErr) (new : HostState) : Type 0 where
  pub chosen : let most = most_read (content old.view.forest n) off before in
      result ≡ Ok (moved_count (coming_word old.script) most)
  pub prefix : let bytes = content old.view.forest n in
      let count = moved_count (coming_word old.script) (most_read bytes off before) in
      after ≡ take count (drop off bytes) ++ drop count before
  pub kept : let most = most_read (content old.view.forest n) off before in
      new ≡ record old { script = after_transfer old.script most }

-- how it answers `read_at`
abbrev pub ReadsBy : HostState → ℕ → ℕ → List ℕ → List ℕ → Result ℕ HostErr → HostState → Type 0
ReadsBy old n off before after result new =
    FillsUnlessListed old before after result new (ReadsCount old n off before after result new)

-- so much is written as a word chooses
pub record WritesCount (old : HostState) (n off : ℕ) (bytes : List ℕ) (new : HostState) (count : ℕ) : Type 0 where
  pub chosen : count ≡ length_by (coming_word old.script) (length bytes)
  pub view : new.view ≡ with_write old.view n off (take count bytes)
  pub orders : new.orders ≡ old.orders
  pub script : new.script ≡ after_draw (after_call old.script)

-- how it answers `write_at`
abbrev pub WritesBy : HostState → ℕ → ℕ → List ℕ → Result ℕ HostErr → HostState → Type 0
WritesBy old n off bytes result new =
    UnlessListed old result new
    (MatchResult result (WritesCount old n off bytes new) (Starves old (after_draw (after_call old.script)) new))

-- the greatest length of a transfer out of a pipe
abbrev pub most_taken : List ℕ → List ℕ → ℕ
most_taken bytes buffer = min (length buffer) (length bytes)

-- so much of what a pipe holds comes as a word chooses, the oldest first, and is gone from it
pub record TakesCount (old : HostState) (n : ℕ) (before after : List ℕ) (result : Result ℕ HostErr) (new : HostState) : Type 0 where
  pub chosen : let most = most_taken (pipe_bytes old.view n) before in
      result ≡ Ok (moved_count (coming_word old.script) most)
  pub prefix : let bytes = pipe_bytes old.view n in
      let count = moved_count (coming_word old.script) (most_taken bytes before) in
      after ≡ take count bytes ++ drop count before
  pub left : let bytes = pipe_bytes old.view n in
      let count = moved_count (coming_word old.script) (most_taken bytes before) in
      new.view ≡ with_pipe old.view n (drop count bytes)
  pub orders : new.orders ≡ old.orders
  pub script : let most = most_taken (pipe_bytes old.view n) before in
      new.script ≡ after_transfer old.script most

-- how it answers `pipe_take`
abbrev pub TakesBy : HostState → ℕ → List ℕ → List ℕ → Result ℕ HostErr → HostState → Type 0
TakesBy old n before after result new =
    FillsUnlessListed old before after result new (TakesCount old n before after result new)

-- so much is put into a pipe as a word chooses
pub record PutsCount (old : HostState) (n : ℕ) (bytes : List ℕ) (new : HostState) (count : ℕ) : Type 0 where
  pub chosen : count ≡ length_by (coming_word old.script) (length bytes)
  pub view : new.view ≡ with_put old.view n (take count bytes)
  pub orders : new.orders ≡ old.orders
  pub script : new.script ≡ after_draw (after_call old.script)

-- how it answers `pipe_put`; where memory runs out the pipe stays
abbrev pub PutsBy : HostState → ℕ → List ℕ → Result ℕ HostErr → HostState → Type 0
PutsBy old n bytes result new =
    UnlessListed old result new
    (MatchResult result (PutsCount old n bytes new) (Starves old (after_draw (after_call old.script)) new))

-- the file has another size
pub record CutsFile (old : HostState) (n len : ℕ) (new : HostState) : Type 0 where
  pub view : new.view ≡ with_size old.view n len
  pub orders : new.orders ≡ old.orders
  pub script : new.script ≡ after_call old.script

-- how it answers `cut`
abbrev pub CutsBy : {A : Type 0} → HostState → ℕ → ℕ → Result A HostErr → HostState → Type 0
CutsBy old n len result new =
    UnlessListed old result new
    (MatchResult result (λ _. CutsFile old n len new) (Starves old (after_call old.script) new))
