-- What a host, a store or a sink in memory goes by: the words of its choices and the calls that fail.
use Rattle.std.specs.Prelude.{ℕ, ◌+◌, ◌-◌, ◌^◌, ◌==◌, min, Bool, List, []}
use Rattle.std.specs.List.{list_any}
use Rattle.dt_memhost.specs.Picks.{Picks, picks_of, next_pick, next_words, after_words}

-- the words, the numbers of the calls that fail, and how many calls were made and how many failed
pub record Script : Type 0 where
  pub picks : Picks
  pub fails : List ℕ
  pub calls : ℕ
  pub faults : ℕ

-- one more, until the last value of 64 bits
abbrev pub next_count : ℕ → ℕ
next_count count = min (count + 1) (2 ^ 64 - 1)

-- the next call is listed; calls are counted from 1
abbrev pub is_next_listed : Script → Bool
is_next_listed s = list_any (λ number. number == next_count s.calls) s.fails

-- the script once a call was made
abbrev pub after_call : Script → Script
after_call s = record s { calls = next_count s.calls }

-- the script once a call has failed
abbrev pub after_fault : Script → Script
after_fault s = record s { calls = next_count s.calls; faults = next_count s.faults }

-- the script once a word was taken
abbrev pub after_draw : Script → Script
after_draw s = record s { picks = (next_pick s.picks).1 }

-- the script once so many words were taken
abbrev pub after_draws : ℕ → Script → Script
after_draws n s = record s { picks = after_words n s.picks }

-- the script whose words are those of the stream of a number
abbrev pub with_stream : Script → ℕ → Script
with_stream s number = record s { picks = picks_of [] number }

-- the next word
abbrev pub coming_word : Script → ℕ
coming_word s = (next_pick s.picks).0

-- the next words, so many
abbrev pub words_of : ℕ → Script → List ℕ
words_of n s = next_words n s.picks

-- the script of these words and failing calls, before any call
abbrev pub script_from : Picks → List ℕ → Script
script_from picks fails = record { picks = picks; fails = fails; calls = 0; faults = 0 }
