-- Seeded words: the key stream of ChaCha20, under a key that a seed gives (RFC 8439, 2.3 and 2.4, with Bernstein's
-- 64-bit block counter and 64-bit stream number).
use Rattle.std.specs.Prelude.{ℕ, zero, suc, ◌+◌, ◌/◌, ◌%◌, ◌^◌, List, [], ◌++◌, take}
use Rattle.std.specs.Int.{w32, w64, to_le_bytes}
use Rattle.rand_chacha.specs.ChaCha.{word_at, key_of}
use Rattle.sha2.specs.Sha256.{sha256}

-- a key of 32 bytes, and the position of the next word in stream 0
pub record SeededWords : Type 0 where
  pub key : List ℕ
  pub word_pos : ℕ

-- the key of a seed: the SHA-256 of its 8 bytes, the lowest first (FIPS 180-4)
abbrev pub key_of_seed : ℕ → List ℕ
key_of_seed seed = sha256 (to_le_bytes w64 seed)

-- the words of a seed, from the first on
abbrev pub words_of_seed : ℕ → SeededWords
words_of_seed seed = record { key = key_of_seed seed; word_pos = 0 }

-- the word at a position of a stream, after ten double rounds; a stream has 2^64 blocks of 16 words, and then begins again
abbrev pub word : List ℕ → ℕ → ℕ → ℕ
word key stream word_pos = word_at 10 (key_of key) stream (word_pos % 2 ^ 68)

-- the bytes of so many words of a stream from a position on, the lowest of each word first
unfoldable pub bytes_from : List ℕ → ℕ → ℕ → ℕ → List ℕ
bytes_from key stream word_pos zero = []
bytes_from key stream word_pos (suc count) =
    bytes_from key stream word_pos count ++ to_le_bytes w32 (word key stream (word_pos + count))

-- how many words cover so many bytes
abbrev pub word_count : ℕ → ℕ
word_count count = (count + 3) / 4

-- the next bytes of stream 0; those of the last word that are too many are dropped
abbrev pub next_bytes : SeededWords → ℕ → List ℕ
next_bytes words count = take count (bytes_from words.key 0 words.word_pos (word_count count))

-- the words that are left after so many bytes
abbrev pub rest_after : SeededWords → ℕ → SeededWords
rest_after words count = record words { word_pos = (words.word_pos + word_count count) % 2 ^ 68 }

-- the 16 bytes that each program start is given: words 0 to 3 of stream 1
abbrev pub start_bytes : SeededWords → List ℕ
start_bytes words = bytes_from words.key 1 0 4
