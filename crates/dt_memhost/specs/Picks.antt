-- The words that choices are made by: those of a list, then those of a ChaCha8 stream.
use Rattle.std.specs.Prelude.{ℕ, zero, suc, ◌+◌, ◌%◌, List, [], ◌∷◌, ◌++◌, replicate}
use Rattle.std.specs.Int.{w64, to_le_bytes}
use Rattle.rand_chacha.specs.ChaCha.{ChaCha, next_word, of_seed}

-- the listed words that are left, and the stream after them
pub record Picks : Type 0 where
  pub words : List ℕ
  pub stream : ChaCha

-- the seed of a number: its 8 bytes, the lowest first, and 24 zeros
abbrev pub seed_of : ℕ → List ℕ
seed_of number = to_le_bytes w64 number ++ replicate 24 0

-- the words of a list, then the stream of a number
abbrev pub picks_of : List ℕ → ℕ → Picks
picks_of words number = record { words = words; stream = of_seed (seed_of number) }

-- the first of these words, or of that stream (ChaCha8 has four double rounds), and what is left
abbrev pub next_in : List ℕ → ChaCha → ℕ × Picks
next_in [] stream =
    let next = next_word 4 stream in (next.0, record { words = []; stream = next.1 })
next_in (word ∷ words) stream = (word, record { words = words; stream = stream })

-- the next word, and what is left
abbrev pub next_pick : Picks → ℕ × Picks
next_pick p = next_in p.words p.stream

-- the next words, so many
unfoldable pub next_words : ℕ → Picks → List ℕ
next_words zero p = []
next_words (suc more) p = (next_pick p).0 ∷ next_words more (next_pick p).1

-- what is left after so many words
unfoldable pub after_words : ℕ → Picks → Picks
after_words zero p = p
after_words (suc more) p = after_words more (next_pick p).1

-- the length that a word chooses, from 1 to this greatest value
abbrev pub length_by : ℕ → ℕ → ℕ
length_by word most = 1 + word % most
