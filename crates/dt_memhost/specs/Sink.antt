-- A sink in memory, and how it answers.
use Rattle.std.specs.Prelude.{◌≡◌, ℕ, ◌-◌, ◌||◌, min, Bool, false, List, [], ◌++◌, length, take, Option, None, Some, Err, Result, MatchBool, MatchResult, nat_le}
use Rattle.dt_host.specs.declared.error.SinkErr.{SinkErr}
use Rattle.dt_host.specs.declared.error.SinkErr.TheVariants.{Failed, NoMemory}
use Rattle.dt_memhost.specs.Picks.{Picks, length_by}
use Rattle.dt_memhost.specs.Script.{Script, script_from, is_next_listed, after_call, after_fault, after_draw, coming_word}

-- the bytes so far, how many may stand if that is limited, and the script
pub record SinkState : Type 0 where
  pub bytes : List ℕ
  pub room : Option ℕ
  pub script : Script

-- a sink before any call: no bytes, their room, the words and the calls that fail
abbrev pub empty_sink : Picks → List ℕ → Option ℕ → SinkState
empty_sink picks fails room = record { bytes = []; room = room; script = script_from picks fails }

-- no more bytes have room
abbrev pub is_full : Option ℕ → ℕ → Bool
is_full None count = false
is_full (Some room) count = nat_le room count

-- how many of so many more bytes have room
abbrev pub room_for : Option ℕ → ℕ → ℕ → ℕ
room_for None count more = more
room_for (Some room) count more = min more (room - count)

-- the next call fails: it is listed, or there is no room
abbrev pub is_next_failing : SinkState → Bool
is_next_failing s = is_full s.room (length s.bytes) || is_next_listed s.script

-- a call that fails is counted, and changes nothing else
pub record FailsAtSink (old : SinkState) (result : Result ℕ SinkErr) (new : SinkState) : Type 0 where
  pub failed_only : result ≡ Err Failed
  pub counts : new ≡ record old { script = after_fault old.script }

-- a word chooses how much of a piece is taken
pub record TakesPart (old : SinkState) (piece : List ℕ) (new : SinkState) (count : ℕ) : Type 0 where
  pub chosen : count ≡ length_by (coming_word old.script) (room_for old.room (length old.bytes) (length piece))
  pub taken : new ≡ record old { bytes = old.bytes ++ take count piece; script = after_draw (after_call old.script) }

-- memory ran out: nothing is taken but the word
pub record TakesNone (old new : SinkState) (error : SinkErr) : Type 0 where
  pub memory_only : error ≡ NoMemory
  pub kept : new ≡ record old { script = after_draw (after_call old.script) }

-- how a sink in memory answers
abbrev pub WritesSinkBy : SinkState → List ℕ → Result ℕ SinkErr → SinkState → Type 0
WritesSinkBy old piece result new =
    MatchBool (is_next_failing old) (FailsAtSink old result new) (MatchResult result (TakesPart old piece new) (TakesNone old new))
