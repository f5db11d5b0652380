-- What a frame keeps is what is read from it.
use Rattle.std.proofs.Common.{◌≡◌, ℕ, ◌+◌, ◌-◌, ◌<◌, ◌^◌, List, [], ◌∷◌, ◌++◌, length, get_or, take, drop, replicate, None, Ok, refl, sym, ap, ◌∙◌, append_assoc, length-append, length-drop, arith}
use Rattle.std.specs.List.{All}
use Rattle.std.proofs.lemmas.List.{take_at, drop_at, drop_more, length-replicate}
use Rattle.std.proofs.lemmas.List.Elements.{All-head, All-tail, All-drop, All-from_get_or}
use Rattle.dt_base.specs.declared.abi.TheConstants.{SP}
use Rattle.dt_base.specs.Fields.{little_endian, low_bytes}
use Rattle.dt_rv64.specs.declared.machine.Machine.{Machine}
use Rattle.dt_rv64.specs.Effects.{register}
use Rattle.dt_rv64.specs.Valid.{IsMachine}
use Rattle.dt_space.specs.declared.access.TheConstants.{READ}
use Rattle.dt_space.specs.Space.{load}
use Rattle.dt_space.proofs.Numbers.{length-low_bytes}
use Rattle.dt_signals.specs.declared.numbers.TheConstants.{FRAME_SIZE, FRAME_PC, FRAME_REGISTERS, FRAME_MASK, SIGNO_SIZE}
use Rattle.dt_signals.specs.declared.signals.Sig.{Sig}
use Rattle.dt_signals.specs.Signals.{with_mask}
use Rattle.dt_elf.specs.Stack.{word_bytes}
use Rattle.dt_signals.specs.Frame.{frame_of, machine_of_frame, word_in, words_in}
use Rattle.dt_signals.specs.Return.{sigreturn_state, sigreturn_of}
use Rattle.dt_signals.proofs.Frames.{bytes_of-cons, length-bytes_of, words_in-none, words_in-suc}

-- a word is the number of its bytes
word-back : (v : ℕ) → v < 2 ^ 64 → little_endian (low_bytes 8 v) ≡ v
word-back v fits = omega arith

word-at : (prefix rest : List ℕ) (v at : ℕ) → length prefix ≡ at → v < 2 ^ 64 → word_in (prefix ++ (low_bytes 8 v ++ rest)) at ≡ v
word-at prefix rest v at long fits =
    let behind : drop at (prefix ++ (low_bytes 8 v ++ rest)) ≡ low_bytes 8 v ++ rest = drop_at prefix (low_bytes 8 v ++ rest) at long in
    let bytes : take 8 (low_bytes 8 v ++ rest) ≡ low_bytes 8 v = take_at (low_bytes 8 v) rest 8 (length-low_bytes 8 v) in
    ap (λ (xs : List ℕ). little_endian (take 8 xs)) behind ∙ ap little_endian bytes ∙ word-back v fits

words-at : (words prefix rest : List ℕ) (at : ℕ) → length prefix ≡ at → All (λ word. word < 2 ^ 64) words → words_in (prefix ++ (word_bytes words ++ rest)) at (length words) ≡ words
words-at [] prefix rest at long fit = words_in-none (prefix ++ (word_bytes [] ++ rest)) at
words-at (word ∷ words) prefix rest at long fit =
    let low = low_bytes 8 word in
    let here : prefix ++ (word_bytes (word ∷ words) ++ rest) ≡ prefix ++ (low ++ (word_bytes words ++ rest)) = rw (bytes_of-cons word words) (ap (λ (xs : List ℕ). prefix ++ xs) (append_assoc low (word_bytes words) rest)) in
    let on : prefix ++ (low ++ (word_bytes words ++ rest)) ≡ (prefix ++ low) ++ (word_bytes words ++ rest) = sym (append_assoc prefix low (word_bytes words ++ rest)) in
    let next : length (prefix ++ low) ≡ at + 8 = omega (arith, length-append prefix low, length-low_bytes 8 word, long) in
    let head = ap (λ (xs : List ℕ). word_in xs at) here ∙ word-at prefix (word_bytes words ++ rest) word at long (All-head (λ (w : ℕ). w < 2 ^ 64) word words fit) in
    let tail = ap (λ (xs : List ℕ). words_in xs (at + 8) (length words)) (here ∙ on) ∙ words-at words (prefix ++ low) rest (at + 8) next (All-tail (λ (w : ℕ). w < 2 ^ 64) word words fit) in
    words_in-suc (prefix ++ (word_bytes (word ∷ words) ++ rest)) at (length words) ∙ rw (head, tail) refl

module _ (signal mask : ℕ) (m : Machine) (is : IsMachine m) where
  abbrev number : List ℕ
  number = low_bytes SIGNO_SIZE signal

  abbrev zeros : List ℕ
  zeros = replicate (FRAME_PC - SIGNO_SIZE) 0

  abbrev registers : List ℕ
  registers = drop 1 m.regs

  abbrev last : List ℕ
  last = replicate (FRAME_SIZE - FRAME_MASK - 8) 0

  length-registers : length registers ≡ 31
  length-registers = omega (arith, length-drop 1 m.regs, is.registers)

  length-head : length (number ++ zeros) ≡ FRAME_PC
  length-head = length-append number zeros ∙ omega (arith, length-low_bytes SIGNO_SIZE signal, length-replicate {A = ℕ} (FRAME_PC - SIGNO_SIZE) 0)

  length-kept : length ((number ++ zeros) ++ low_bytes 8 m.pc) ≡ FRAME_REGISTERS
  length-kept = length-append (number ++ zeros) (low_bytes 8 m.pc) ∙ omega (arith, length-head, length-low_bytes 8 m.pc)

  length-all : length (((number ++ zeros) ++ low_bytes 8 m.pc) ++ word_bytes registers) ≡ FRAME_MASK
  length-all = length-append ((number ++ zeros) ++ low_bytes 8 m.pc) (word_bytes registers) ∙ omega (arith, length-kept, length-bytes_of registers, length-registers)

  pub length-frame : length (frame_of signal m mask) ≡ FRAME_SIZE
  length-frame =
      let prefix = ((number ++ zeros) ++ low_bytes 8 m.pc) ++ word_bytes registers in
      let parts : frame_of signal m mask ≡ prefix ++ (low_bytes 8 mask ++ last) = simp append_assoc in
      ap length parts ∙ omega (arith, length-append prefix (low_bytes 8 mask ++ last), length-append (low_bytes 8 mask) last, length-all, length-low_bytes 8 mask, length-replicate {A = ℕ} (FRAME_SIZE - FRAME_MASK - 8) 0)

  pc-back : word_in (frame_of signal m mask) FRAME_PC ≡ m.pc
  pc-back =
      let rest = word_bytes registers ++ (low_bytes 8 mask ++ last) in
      let at : frame_of signal m mask ≡ (number ++ zeros) ++ (low_bytes 8 m.pc ++ rest) = simp append_assoc in
      ap (λ (frame : List ℕ). word_in frame FRAME_PC) at ∙ word-at (number ++ zeros) rest m.pc FRAME_PC length-head is.counter

  registers-back : words_in (frame_of signal m mask) FRAME_REGISTERS 31 ≡ registers
  registers-back =
      let prefix = (number ++ zeros) ++ low_bytes 8 m.pc in
      let rest = low_bytes 8 mask ++ last in
      let at : frame_of signal m mask ≡ prefix ++ (word_bytes registers ++ rest) = simp append_assoc in
      let fit : All (λ word. word < 2 ^ 64) registers = All-drop (λ (word : ℕ). word < 2 ^ 64) 1 m.regs (All-from_get_or (λ (word : ℕ). word < 2 ^ 64) m.regs 0 (λ i within. is.words i)) in
      let back = words-at registers prefix rest FRAME_REGISTERS length-kept fit in
      ap (λ (frame : List ℕ). words_in frame FRAME_REGISTERS 31) at ∙ ap (words_in (prefix ++ (word_bytes registers ++ rest)) FRAME_REGISTERS) (sym length-registers) ∙ back

  mask-back : mask < 2 ^ 64 → word_in (frame_of signal m mask) FRAME_MASK ≡ mask
  mask-back fits =
      let prefix = ((number ++ zeros) ++ low_bytes 8 m.pc) ++ word_bytes registers in
      let at : frame_of signal m mask ≡ prefix ++ (low_bytes 8 mask ++ last) = simp append_assoc in
      ap (λ (frame : List ℕ). word_in frame FRAME_MASK) at ∙ word-at prefix last mask FRAME_MASK length-all fits

  all-back : 0 ∷ words_in (frame_of signal m mask) FRAME_REGISTERS 31 ≡ m.regs
  all-back =
      let first : m.regs ≡ get_or m.regs 0 0 ∷ registers = drop_more m.regs 0 0 (omega (arith, is.registers)) in
      rw (registers-back, ← is.zero) (sym first)

  pub machine-back : (other : Machine) → machine_of_frame (frame_of signal m mask) other ≡ record m { space = other.space; reserved = None; atomics = other.atomics }
  machine-back other = rw (pc-back, all-back) refl

pub return-back : (signal : ℕ) (m : Machine) (mask : ℕ) (g : Sig) (handler : Machine) → IsMachine m → mask < 2 ^ 64 → load handler.space READ (register handler SP) FRAME_SIZE ≡ Ok (frame_of signal m mask) → sigreturn_of g handler ≡ Ok (sigreturn_state (with_mask mask g) (record m { space = handler.space; reserved = None; atomics = handler.atomics }))
unfolding sigreturn_of
return-back signal m mask g handler is fits reads = rw (reads, mask-back signal mask m is fits, machine-back signal mask m is handler) refl
