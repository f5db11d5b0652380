-- A store in memory, and how it answers.
use Rattle.std.specs.Prelude.{◌≡◌, ℕ, List, ◌++◌, length, take, drop, Option, Ok, Err, Result, MatchBool, MatchResult, String, Vec, string_bytes, vec_items}
use Rattle.std.specs.FinMap.{empty}
use Rattle.dt_tables.specs.Entries.{map_of}
use Rattle.dt_host.specs.Store.{StoreFiles, bytes_of, size_of, with_file}
use Rattle.dt_host.specs.declared.error.StoreErr.{StoreErr}
use Rattle.dt_host.specs.declared.error.StoreErr.TheVariants.{Failed, NoMemory}
use Rattle.dt_memhost.specs.Picks.{Picks, length_by}
use Rattle.dt_memhost.specs.Script.{Script, script_from, is_next_listed, after_call, after_fault, after_draw, coming_word}

-- the files of a list of names and bytes
abbrev pub files_of : {Y Z : Type 0} → List (String Y × Vec ℕ Z) → StoreFiles
files_of entries = map_of string_bytes vec_items entries

-- the files, and the script
pub record StoreState : Type 0 where
  pub files : StoreFiles
  pub script : Script

-- a store before any call: no files, the words and the calls that fail
abbrev pub empty_store : Picks → List ℕ → StoreState
empty_store picks fails = record { files = empty; script = script_from picks fails }

-- a call that fails is counted, and changes nothing else
pub record FailsAtStore {A : Type 0} (old : StoreState) (result : Result A StoreErr) (new : StoreState) : Type 0 where
  pub failed_only : result ≡ Err Failed
  pub counts : new ≡ record old { script = after_fault old.script }

-- the size of a file, without a word
pub record GivesSize (old : StoreState) (name : List ℕ) (result : Result (Option ℕ) StoreErr) (new : StoreState) : Type 0 where
  pub ok : result ≡ Ok (size_of old.files name)
  pub counts : new ≡ record old { script = after_call old.script }

-- how a store in memory answers a question for a size
abbrev pub SizesBy : StoreState → List ℕ → Result (Option ℕ) StoreErr → StoreState → Type 0
SizesBy old name result new =
    MatchBool (is_next_listed old.script) (FailsAtStore old result new) (GivesSize old name result new)

-- a word chooses how much of the buffer is filled
pub record ReadsSome (old : StoreState) (name : List ℕ) (off : ℕ) (before after : List ℕ) (result : Result ℕ StoreErr) (new : StoreState) : Type 0 where
  pub chosen : result ≡ Ok (length_by (coming_word old.script) (length before))
  pub prefix : let count = length_by (coming_word old.script) (length before) in
      after ≡ take count (drop off (bytes_of old.files name)) ++ drop count before
  pub counts : new ≡ record old { script = after_draw (after_call old.script) }

-- how a store in memory answers a read; one that fails leaves the buffer too
abbrev pub ReadsStoreBy : StoreState → List ℕ → ℕ → List ℕ → List ℕ → Result ℕ StoreErr → StoreState → Type 0
ReadsStoreBy old name off before after result new =
    MatchBool (is_next_listed old.script) (FailsAtStore old result new × (after ≡ before)) (ReadsSome old name off before after result new)

-- the name holds these bytes, without a word
pub record PutsFile (old : StoreState) (name bytes : List ℕ) (new : StoreState) : Type 0 where
  pub put : new ≡ record old { files = with_file old.files name bytes; script = after_call old.script }

-- memory ran out: the files stay
pub record PutsNone (old new : StoreState) (error : StoreErr) : Type 0 where
  pub memory_only : error ≡ NoMemory
  pub kept : new ≡ record old { script = after_call old.script }

-- how a store in memory puts a file
abbrev pub PutsStoreBy : {A : Type 0} → StoreState → List ℕ → List ℕ → Result A StoreErr → StoreState → Type 0
PutsStoreBy old name bytes result new =
    MatchBool (is_next_listed old.script) (FailsAtStore old result new)
    (MatchResult result (λ _. PutsFile old name bytes new) (PutsNone old new))
