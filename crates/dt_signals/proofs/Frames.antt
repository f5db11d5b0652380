-- The bytes of a frame, one part after another, and the words in them.
use Rattle.std.proofs.Common.{◌≡◌, ℕ, zero, suc, ◌+◌, ◌-◌, ◌*◌, ◌<◌, ◌≤◌, ◌^◌, List, [], ◌∷◌, ◌++◌, length, get_or, set, take, drop, replicate, refl, sym, ap, ◌∙◌, append-nil, append_assoc, length-append, length-drop, arith}
use Rattle.std.proofs.lemmas.List.{take_at, drop_at, drop-drop, drop-replicate, length-replicate, length-take-le, replicate-append-replicate, set_at, take_more, take_all, take-append-drop, get_or-drop}
use Rattle.std.proofs.lemmas.List.Elements.{All-nil, All-append, All-replicate}
use Rattle.dt_base.specs.Bytes.{with_bytes_at}
use Rattle.dt_base.specs.Fields.{low_bytes, with_field}
use Rattle.dt_space.proofs.Numbers.{length-low_bytes}
use Rattle.dt_rv64.specs.declared.machine.Machine.{Machine}
use Rattle.dt_space.specs.Space.{IsBytes}
use Rattle.dt_space.proofs.Spaces.{IsBytes-low_bytes}
use Rattle.dt_signals.specs.declared.numbers.TheConstants.{FRAME_SIZE, FRAME_PC, FRAME_REGISTERS, FRAME_MASK, SIGNO_SIZE}
use Rattle.dt_elf.specs.Stack.{word_bytes}
use Rattle.dt_signals.specs.Frame.{frame_of, word_in, words_in}

bytes_of-nil : word_bytes [] ≡ []
unfolding word_bytes
bytes_of-nil = refl

pub bytes_of-cons : (word : ℕ) (words : List ℕ) → word_bytes (word ∷ words) ≡ low_bytes 8 word ++ word_bytes words
unfolding word_bytes
bytes_of-cons word words = refl

bytes_of-append : (words more : List ℕ) → word_bytes (words ++ more) ≡ word_bytes words ++ word_bytes more
bytes_of-append [] more = rw bytes_of-nil refl
bytes_of-append (word ∷ words) more = rw (bytes_of-cons word (words ++ more), bytes_of-cons word words, bytes_of-append words more) (sym (append_assoc (low_bytes 8 word) (word_bytes words) (word_bytes more)))

pub length-bytes_of : (words : List ℕ) → length (word_bytes words) ≡ 8 * length words
length-bytes_of [] = rw bytes_of-nil refl
length-bytes_of (word ∷ words) =
    let long = ap length (bytes_of-cons word words) ∙ length-append (low_bytes 8 word) (word_bytes words) in
    let more = length-bytes_of words in
    let eight = length-low_bytes 8 word in
    omega (arith, long, more, eight)

-- one word more
bytes_of-more : (words : List ℕ) (i d : ℕ) → i < length words → word_bytes (take (i + 1) words) ≡ word_bytes (take i words) ++ low_bytes 8 (get_or words i d)
bytes_of-more words i d within =
    ap word_bytes (take_more words i d within) ∙ bytes_of-append (take i words) (get_or words i d ∷ []) ∙ rw (bytes_of-cons (get_or words i d) [], bytes_of-nil, append-nil (low_bytes 8 (get_or words i d))) refl

-- a field behind what was written, in bytes that follow it
put-next : (width value at : ℕ) (prefix rest : List ℕ) → length prefix ≡ at → with_field width (prefix ++ rest) at value ≡ (prefix ++ low_bytes width value) ++ drop width rest
put-next width value at prefix rest long =
    let before = take_at prefix rest at long in
    let behind : drop (at + width) (prefix ++ rest) ≡ drop width rest = sym (drop-drop width at (prefix ++ rest)) ∙ ap (drop width) (drop_at prefix rest at long) in
    rw (before, behind) refl

-- a field behind bytes that were written over others
pub field-behind : (width value from at : ℕ) (old bytes : List ℕ) → from ≤ length old → at ≡ from + length bytes → with_field width (with_bytes_at old from bytes) at value ≡ with_bytes_at old from (bytes ++ low_bytes width value)
field-behind width value from at old bytes within is =
    let prefix = take from old ++ bytes in
    let long : length prefix ≡ at = omega (arith, length-append (take from old) bytes, length-take-le from old within) in
    let next = put-next width value at prefix (drop (from + length bytes) old) long in
    let rest : drop width (drop (from + length bytes) old) ≡ drop (from + length (bytes ++ low_bytes width value)) old = drop-drop width (from + length bytes) old ∙ ap (λ (n : ℕ). drop n old) (omega (arith, length-append bytes (low_bytes width value), length-low_bytes width value)) in
    next ∙ rw (rest, append_assoc (take from old) bytes (low_bytes width value)) refl

-- the registers that were written so far, and one more
pub registers-more : (old registers : List ℕ) (index d : ℕ) → FRAME_REGISTERS ≤ length old → 1 ≤ index → index < length registers → with_field 8 (with_bytes_at old FRAME_REGISTERS (word_bytes (take (index - 1) (drop 1 registers)))) (FRAME_REGISTERS + 8 * (index - 1)) (get_or registers index d) ≡ with_bytes_at old FRAME_REGISTERS (word_bytes (take (index + 1 - 1) (drop 1 registers)))
registers-more old registers index d room some within =
    let words = drop 1 registers in
    let few : index - 1 < length words = omega (arith, length-drop 1 registers) in
    let long : length (word_bytes (take (index - 1) words)) ≡ 8 * (index - 1) = omega (arith, length-bytes_of (take (index - 1) words), length-take-le (index - 1) words (omega arith)) in
    let word : get_or registers index d ≡ get_or words (index - 1) d = sym (get_or-drop 1 registers (index - 1) d ∙ ap (λ (i : ℕ). get_or registers i d) (omega arith)) in
    let next = field-behind 8 (get_or registers index d) FRAME_REGISTERS (FRAME_REGISTERS + 8 * (index - 1)) old (word_bytes (take (index - 1) words)) room (omega (arith, long)) in
    let count : index + 1 - 1 ≡ index - 1 + 1 = omega arith in
    next ∙ ap (with_bytes_at old FRAME_REGISTERS) (rw (count, bytes_of-more words (index - 1) d few, word) refl)

pub registers-none : (old : List ℕ) (words : List ℕ) → with_bytes_at old FRAME_REGISTERS (word_bytes (take 0 words)) ≡ old
registers-none old words = rw bytes_of-nil (rw (append-nil (take FRAME_REGISTERS old)) (take-append-drop FRAME_REGISTERS old))

pub registers-all : (old registers : List ℕ) (index : ℕ) → length registers ≤ index → with_bytes_at old FRAME_REGISTERS (word_bytes (take (index - 1) (drop 1 registers))) ≡ with_bytes_at old FRAME_REGISTERS (word_bytes (drop 1 registers))
registers-all old registers index all = ap (λ (words : List ℕ). with_bytes_at old FRAME_REGISTERS (word_bytes words)) (take_all (index - 1) (drop 1 registers) (omega (arith, length-drop 1 registers)))

-- zeros behind what was written

zeros-on : (at skip left : ℕ) (prefix : List ℕ) → left ≡ skip + at → prefix ++ replicate left 0 ≡ (prefix ++ replicate skip 0) ++ replicate at 0
zeros-on at skip left prefix is = rw (append_assoc prefix (replicate skip 0) (replicate at 0), replicate-append-replicate {A = ℕ} skip at 0, is) refl

put-zeros : (width value at left rest : ℕ) (prefix : List ℕ) → length prefix ≡ at → left ≡ width + rest → with_field width (prefix ++ replicate left 0) at value ≡ (prefix ++ low_bytes width value) ++ replicate rest 0
put-zeros width value at left rest prefix long is =
    let more : drop width (replicate left 0) ≡ replicate rest 0 = drop-replicate width left 0 ∙ ap (λ (n : ℕ). replicate {A = ℕ} n 0) (omega arith) in
    put-next width value at prefix (replicate left 0) long ∙ rw more refl

write-zeros : (bytes : List ℕ) (at left rest : ℕ) (prefix : List ℕ) → length prefix ≡ at → left ≡ length bytes + rest → with_bytes_at (prefix ++ replicate left 0) at bytes ≡ (prefix ++ bytes) ++ replicate rest 0
write-zeros bytes at left rest prefix long is =
    let before = take_at prefix (replicate left 0) at long in
    let behind : drop (at + length bytes) (prefix ++ replicate left 0) ≡ replicate rest 0 = sym (drop-drop (length bytes) at (prefix ++ replicate left 0)) ∙ ap (drop (length bytes)) (drop_at prefix (replicate left 0) at long) ∙ drop-replicate (length bytes) left 0 ∙ ap (λ (n : ℕ). replicate {A = ℕ} n 0) (omega arith) in
    rw (before, behind) refl

-- words in a frame, one after another

pub words_in-none : (frame : List ℕ) (offset : ℕ) → words_in frame offset 0 ≡ []
unfolding words_in
words_in-none frame offset = refl

pub words_in-suc : (frame : List ℕ) (offset count : ℕ) → words_in frame offset (suc count) ≡ word_in frame offset ∷ words_in frame (offset + 8) count
unfolding words_in
words_in-suc frame offset count = refl

words_in-more : (frame : List ℕ) (count offset at : ℕ) → at ≡ offset + 8 * count → words_in frame offset (suc count) ≡ words_in frame offset count ++ word_in frame at ∷ []
words_in-more frame zero offset at is = rw (words_in-suc frame offset 0, words_in-none frame (offset + 8), words_in-none frame offset) (ap (λ (o : ℕ). word_in frame o ∷ []) (omega arith))
words_in-more frame (suc count) offset at is = words_in-suc frame offset (suc count) ∙ rw (words_in-more frame count (offset + 8) at (omega arith), words_in-suc frame offset count) refl

pub length-words_in : (frame : List ℕ) (count offset : ℕ) → length (words_in frame offset count) ≡ count
length-words_in frame zero offset = rw (words_in-none frame offset) refl
length-words_in frame (suc count) offset = rw (words_in-suc frame offset count) (ap suc (length-words_in frame count (offset + 8)))

-- the registers that were read so far, and zeros
abbrev pub registers-of : List ℕ → ℕ → List ℕ
registers-of frame index = 0 ∷ (words_in frame FRAME_REGISTERS (index - 1) ++ replicate (32 - index) 0)

pub read-more : (frame : List ℕ) (index : ℕ) → 1 ≤ index → index < 32 → set (registers-of frame index) index (word_in frame (FRAME_REGISTERS + 8 * (index - 1))) ≡ registers-of frame (index + 1)
read-more frame index some within =
    let words = words_in frame FRAME_REGISTERS (index - 1) in
    let word = word_in frame (FRAME_REGISTERS + 8 * (index - 1)) in
    let rest = replicate {A = ℕ} (32 - (index + 1)) 0 in
    let count : 32 - index ≡ suc (32 - (index + 1)) = omega arith in
    let zeros : replicate {A = ℕ} (32 - index) 0 ≡ 0 ∷ rest = ap (λ (n : ℕ). replicate {A = ℕ} n 0) count in
    let same : index + 1 - 1 ≡ suc (index - 1) = omega arith in
    let next : words_in frame FRAME_REGISTERS (index + 1 - 1) ≡ words ++ word ∷ [] = ap (words_in frame FRAME_REGISTERS) same ∙ words_in-more frame (index - 1) FRAME_REGISTERS (FRAME_REGISTERS + 8 * (index - 1)) refl in
    let long : length (0 ∷ words) ≡ index = omega (arith, length-words_in frame (index - 1) FRAME_REGISTERS) in
    let written : set (0 ∷ (words ++ 0 ∷ rest)) index word ≡ (0 ∷ words) ++ word ∷ rest = set_at (0 ∷ words) 0 rest word index long in
    let after : words_in frame FRAME_REGISTERS (index + 1 - 1) ++ rest ≡ words ++ word ∷ rest = rw next (append_assoc words (word ∷ []) rest) in
    ap (λ (xs : List ℕ). set (0 ∷ (words ++ xs)) index word) zeros ∙ written ∙ ap (λ (xs : List ℕ). 0 ∷ xs) (sym after)

pub read-none : (frame : List ℕ) → replicate 32 0 ≡ registers-of frame 1
read-none frame = rw (words_in-none frame FRAME_REGISTERS) refl

pub zeros-fit : (count i : ℕ) → get_or (replicate count 0) i 0 < 2 ^ 64
zeros-fit zero i = omega arith
zeros-fit (suc count) zero = omega arith
zeros-fit (suc count) (suc i) = zeros-fit count i

pub read-all : (frame : List ℕ) (index : ℕ) → index ≡ 32 → registers-of frame index ≡ 0 ∷ words_in frame FRAME_REGISTERS 31
read-all frame index all = rw (all, append-nil (words_in frame FRAME_REGISTERS 31)) refl

-- the whole frame, as it is written part by part
pub frame-written : (signal pc mask narrow pc_at registers_at mask_at size : ℕ) (registers : List ℕ) → narrow ≤ pc_at → pc_at + 8 ≡ registers_at → registers_at + length registers ≡ mask_at → mask_at + 8 ≤ size → with_field 8 (with_bytes_at (with_field 8 (with_field narrow (replicate size 0) 0 signal) pc_at pc) registers_at registers) mask_at mask ≡ low_bytes narrow signal ++ (replicate (pc_at - narrow) 0 ++ (low_bytes 8 pc ++ (registers ++ (low_bytes 8 mask ++ replicate (size - mask_at - 8) 0))))
frame-written signal pc mask narrow pc_at registers_at mask_at size registers in_order pc_next registers_next within =
    let zeros = λ (n : ℕ). replicate {A = ℕ} n 0 in
    let number = low_bytes narrow signal in
    let head = number ++ zeros (pc_at - narrow) in
    let kept = head ++ low_bytes 8 pc in
    let all = kept ++ registers in
    let head_len : length head ≡ pc_at = omega (arith, length-append number (zeros (pc_at - narrow)), length-low_bytes narrow signal, length-replicate {A = ℕ} (pc_at - narrow) 0) in
    let kept_len : length kept ≡ registers_at = omega (arith, length-append head (low_bytes 8 pc), length-low_bytes 8 pc, head_len) in
    let all_len : length all ≡ mask_at = omega (arith, length-append kept registers, kept_len) in
    let first : with_field narrow (zeros size) 0 signal ≡ head ++ zeros (size - pc_at) = put-zeros narrow signal 0 size (size - narrow) [] refl (omega arith) ∙ zeros-on (size - pc_at) (pc_at - narrow) (size - narrow) number (omega arith) in
    let second : with_field 8 (head ++ zeros (size - pc_at)) pc_at pc ≡ kept ++ zeros (size - registers_at) = put-zeros 8 pc pc_at (size - pc_at) (size - registers_at) head head_len (omega arith) in
    let third : with_bytes_at (kept ++ zeros (size - registers_at)) registers_at registers ≡ all ++ zeros (size - mask_at) = write-zeros registers registers_at (size - registers_at) (size - mask_at) kept kept_len (omega arith) in
    let fourth : with_field 8 (all ++ zeros (size - mask_at)) mask_at mask ≡ (all ++ low_bytes 8 mask) ++ zeros (size - mask_at - 8) = put-zeros 8 mask mask_at (size - mask_at) (size - mask_at - 8) all all_len (omega arith) in
    rw (first, second, third, fourth) (simp append_assoc)

-- a frame is made of bytes

IsBytes-both : (prefix rest : List ℕ) → IsBytes prefix → IsBytes rest → IsBytes (prefix ++ rest)
IsBytes-both prefix rest = All-append (λ (b : ℕ). b < 256) prefix rest

IsBytes-zeros : (count : ℕ) → IsBytes (replicate count 0)
IsBytes-zeros count = All-replicate (λ (b : ℕ). b < 256) count 0 (omega arith)

IsBytes-bytes_of : (words : List ℕ) → IsBytes (word_bytes words)
unfolding word_bytes
IsBytes-bytes_of [] = All-nil (λ (b : ℕ). b < 256)
IsBytes-bytes_of (word ∷ words) = IsBytes-both (low_bytes 8 word) (word_bytes words) (IsBytes-low_bytes 8 word) (IsBytes-bytes_of words)

pub IsBytes-frame : (signal mask : ℕ) (m : Machine) → IsBytes (frame_of signal m mask)
IsBytes-frame signal mask m =
    let last = replicate {A = ℕ} (FRAME_SIZE - FRAME_MASK - 8) 0 in
    let masked = low_bytes 8 mask ++ last in
    let registers = word_bytes (drop 1 m.regs) ++ masked in
    let counter = low_bytes 8 m.pc ++ registers in
    let zeros = replicate {A = ℕ} (FRAME_PC - SIGNO_SIZE) 0 in
    IsBytes-both (low_bytes SIGNO_SIZE signal) (zeros ++ counter) (IsBytes-low_bytes SIGNO_SIZE signal)
    (IsBytes-both zeros counter (IsBytes-zeros (FRAME_PC - SIGNO_SIZE))
    (IsBytes-both (low_bytes 8 m.pc) registers (IsBytes-low_bytes 8 m.pc)
    (IsBytes-both (word_bytes (drop 1 m.regs)) masked (IsBytes-bytes_of (drop 1 m.regs))
    (IsBytes-both (low_bytes 8 mask) last (IsBytes-low_bytes 8 mask) (IsBytes-zeros (FRAME_SIZE - FRAME_MASK - 8))))))
