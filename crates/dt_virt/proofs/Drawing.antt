-- The kit's transfer of whole words gives the bytes of the stream's words.
use Rattle.std.proofs.Common.{◌≡◌, ℕ, zero, suc, ◌+◌, ◌*◌, ◌%◌, ◌^◌, ◌<◌, List, [], take, length, length-append, refl, ap, ◌∙◌, arith}
use Rattle.std.proofs.lemmas.List.{length-take-le}
use Rattle.std.specs.Int.{w32, to_le_bytes}
use Rattle.rand_core.specs.Steps.{word_bytes, first_bytes, fill_via_u32}
use Rattle.rand_chacha.specs.ChaCha.{ChaCha, next_word, key_of}
use Rattle.dt_virt.specs.Words.{SeededWords, word, bytes_from, next_bytes, word_count}

-- a generator of a stream at a position
abbrev pub at : List ℕ → ℕ → ℕ → ChaCha
at key stream word_pos = record { key = key; stream = stream; word_pos = word_pos }

word_pos-suc : (word_pos count : ℕ) → ((word_pos + count) % 2 ^ 68 + 1) % 2 ^ 68 ≡ (word_pos + suc count) % 2 ^ 68
word_pos-suc word_pos count = omega arith

-- so many words from a position on, and the generator after them
word_bytes-from : (key : List ℕ) (stream word_pos count : ℕ) → word_pos < 2 ^ 68
    → word_bytes (to_le_bytes w32) (next_word 10) count (at (key_of key) stream word_pos)
    ≡ (bytes_from key stream word_pos count, at (key_of key) stream ((word_pos + count) % 2 ^ 68))
unfolding word_bytes bytes_from
word_bytes-from key stream word_pos zero h =
    let same : word_pos ≡ (word_pos + 0) % 2 ^ 68 = omega arith in
    ap (λ (p : ℕ). ([], at (key_of key) stream p)) same
word_bytes-from key stream word_pos (suc count) h =
    rw (word_bytes-from key stream word_pos count h, ← word_pos-suc word_pos count) refl

-- what a buffer and a generator are after so many bytes
pub record Filled (key : List ℕ) (stream word_pos count : ℕ) (bytes : List ℕ) (next : ChaCha) : Type 0 where
  pub prefix : bytes ≡ take count (bytes_from key stream word_pos (word_count count))
  pub key_kept : next.key ≡ key_of key
  pub stream_kept : next.stream ≡ stream
  pub moved : next.word_pos ≡ (word_pos + word_count count) % 2 ^ 68

-- a generator fills a buffer from its position on
pub filled : (key : List ℕ) (stream word_pos count : ℕ) (g next : ChaCha) (bytes : List ℕ)
    → g.key ≡ key_of key → g.stream ≡ stream → g.word_pos ≡ word_pos → word_pos < 2 ^ 68
    → (bytes, next) ≡ fill_via_u32 (next_word 10) count g
    → Filled key stream word_pos count bytes next
filled key stream word_pos count g next bytes its_key its_stream its_word_pos h e =
    let here : g ≡ at (key_of key) stream word_pos =
    ap (λ (k : List ℕ). at k g.stream g.word_pos) its_key
    ∙ ap (λ (s : ℕ). at (key_of key) s g.word_pos) its_stream
    ∙ ap (at (key_of key) stream) its_word_pos in
    let all = e ∙ ap (fill_via_u32 (next_word 10) count) here
    ∙ ap (first_bytes count) (word_bytes-from key stream word_pos (word_count count) h) in
    record {
      prefix = ap (λ (p : List ℕ × ChaCha). p.0) all;
      key_kept = ap (λ (p : List ℕ × ChaCha). p.1.key) all;
      stream_kept = ap (λ (p : List ℕ × ChaCha). p.1.stream) all;
      moved = ap (λ (p : List ℕ × ChaCha). p.1.word_pos) all;
    }

-- a draw goes on from a generator of stream 0
pub draws : (key : List ℕ) (count : ℕ) (g next : ChaCha) (bytes : List ℕ)
    → (g.key ≡ key_of key) × (g.stream ≡ 0) × (g.word_pos < 2 ^ 68)
    → (bytes, next) ≡ fill_via_u32 (next_word 10) count g
    → Filled key 0 g.word_pos count bytes next
draws key count g next bytes held e = filled key 0 g.word_pos count g next bytes held.0 held.1 refl held.2 e

-- the bytes of so many words are four times as many
pub length-bytes_from : (key : List ℕ) (stream word_pos count : ℕ) → length (bytes_from key stream word_pos count) ≡ 4 * count
unfolding bytes_from
length-bytes_from key stream word_pos zero = refl
length-bytes_from key stream word_pos (suc count) =
    let before = length-bytes_from key stream word_pos count in
    let more : length (to_le_bytes w32 (word key stream (word_pos + count))) ≡ 4 = refl in
    rw length-append (omega (arith, before, more))

-- as many bytes are drawn as are asked for
pub length-drawn : (words : SeededWords) (count : ℕ) → length (next_bytes words count) ≡ count
length-drawn words count =
    let all = length-bytes_from words.key 0 words.word_pos (word_count count) in
    length-take-le count (bytes_from words.key 0 words.word_pos (word_count count)) (omega (arith, all))
