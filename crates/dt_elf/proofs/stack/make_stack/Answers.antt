use Rattle.std.proofs.Common.{◌≡◌, ◌≤◌, ◌+◌, ◌-◌, ◌*◌, ◌/◌, ◌++◌, ap, ◌∙◌, length, replicate, ℕ, refl, arith}
use Rattle.dt_base.specs.declared.limits.TheConstants.{PAGE_SIZE}
use Rattle.dt_elf.specs.Executable.{executable}
use Rattle.dt_elf.specs.Stack.{Invocation, aligned_address, strings, strings_start, stack_words, stack_pointer}
use Rattle.dt_elf.specs.declared.layout.TheConstants.{STACK_START, STACK_TOP}
use Rattle.dt_elf.proofs.Strings.{has-room, HasRoom, stack_words-are}
use Rattle.dt_elf.proofs.stack.make_stack.Goals as goal

pub overflow_sub-len : goal.overflow_sub-len
overflow_sub-len c =
    let given : Invocation = record { words = c.args.command.now; execfn = c.args.execfn.now; random = c.args.random.now } in
    let room : HasRoom (executable c.args.elf.now) c.args.headers given = has-room (executable c.args.elf.now) c.args.headers given c.requires.few c.requires.short (omega arith) in
    let text : c.len.result ≡ length (strings given) = let items = ap length c.in_ok-text.ensures in omega (arith, c.in_ok-text.text.ok.0, items) in
    omega (arith, room.text, text)

pub pointer_below-pointer-requires : goal.pointer_below-pointer-requires
pointer_below-pointer-requires c =
    let given : Invocation = record { words = c.args.command.now; execfn = c.args.execfn.now; random = c.args.random.now } in
    let room : HasRoom (executable c.args.elf.now) c.args.headers given = has-room (executable c.args.elf.now) c.args.headers given c.requires.few c.requires.short (omega arith) in
    let text : c.len.result ≡ length (strings given) = let items = ap length c.in_ok-text.ensures in omega (arith, c.in_ok-text.text.ok.0, items) in
    let start : c.aligned_address-start.result ≡ strings_start given = c.aligned_address-start.ensures ∙ ap (λ (n : ℕ). aligned_address (STACK_TOP - n)) text in
    let words : c.len-2.result ≡ length (stack_words (executable c.args.elf.now) c.args.headers given) = let items = ap length (c.in_ok-words.ensures ∙ stack_words-are (executable c.args.elf.now) c.args.headers given _ start) in omega (arith, c.in_ok-words.words.ok.0, items) in
    omega (arith, room.text, room.words, text, words)

pub overflow_sub-zero_pages : goal.overflow_sub-zero_pages
overflow_sub-zero_pages c =
    let given : Invocation = record { words = c.args.command.now; execfn = c.args.execfn.now; random = c.args.random.now } in
    let room : HasRoom (executable c.args.elf.now) c.args.headers given = has-room (executable c.args.elf.now) c.args.headers given c.requires.few c.requires.short (omega arith) in
    let text : c.len.result ≡ length (strings given) = let items = ap length c.in_ok-text.ensures in omega (arith, c.in_ok-text.text.ok.0, items) in
    let start : c.aligned_address-start.result ≡ strings_start given = c.aligned_address-start.ensures ∙ ap (λ (n : ℕ). aligned_address (STACK_TOP - n)) text in
    let words : c.len-2.result ≡ length (stack_words (executable c.args.elf.now) c.args.headers given) = let items = ap length (c.in_ok-words.ensures ∙ stack_words-are (executable c.args.elf.now) c.args.headers given _ start) in omega (arith, c.in_ok-words.words.ok.0, items) in
    omega (arith, room.text, room.words, text, words)

pub lay_out-requires-clause-below : goal.lay_out-requires-clause-below
lay_out-requires-clause-below c =
    let given : Invocation = record { words = c.args.command.now; execfn = c.args.execfn.now; random = c.args.random.now } in
    let room : HasRoom (executable c.args.elf.now) c.args.headers given = has-room (executable c.args.elf.now) c.args.headers given c.requires.few c.requires.short (omega arith) in
    let text : c.len.result ≡ length (strings given) = let items = ap length c.in_ok-text.ensures in omega (arith, c.in_ok-text.text.ok.0, items) in
    let start : c.aligned_address-start.result ≡ strings_start given = c.aligned_address-start.ensures ∙ ap (λ (n : ℕ). aligned_address (STACK_TOP - n)) text in
    let words : c.len-2.result ≡ length (stack_words (executable c.args.elf.now) c.args.headers given) = let items = ap length (c.in_ok-words.ensures ∙ stack_words-are (executable c.args.elf.now) c.args.headers given _ start) in omega (arith, c.in_ok-words.words.ok.0, items) in
    let high : STACK_START + PAGE_SIZE ≤ c.pointer_below-pointer.result = omega (arith, room.text, room.words, text, words) in
    omega (arith, high)

pub lay_out-requires-clause-apart : goal.lay_out-requires-clause-apart
lay_out-requires-clause-apart c =
    let given : Invocation = record { words = c.args.command.now; execfn = c.args.execfn.now; random = c.args.random.now } in
    let room : HasRoom (executable c.args.elf.now) c.args.headers given = has-room (executable c.args.elf.now) c.args.headers given c.requires.few c.requires.short (omega arith) in
    let text : c.len.result ≡ length (strings given) = let items = ap length c.in_ok-text.ensures in omega (arith, c.in_ok-text.text.ok.0, items) in
    let start : c.aligned_address-start.result ≡ strings_start given = c.aligned_address-start.ensures ∙ ap (λ (n : ℕ). aligned_address (STACK_TOP - n)) text in
    let words : c.len-2.result ≡ length (stack_words (executable c.args.elf.now) c.args.headers given) = let items = ap length (c.in_ok-words.ensures ∙ stack_words-are (executable c.args.elf.now) c.args.headers given _ start) in omega (arith, c.in_ok-words.words.ok.0, items) in
    let words_len = c.deref.ensures.len in
    omega (arith, room.text, room.words, text, words, words_len)

pub returns-clause-zeros : goal.returns-clause-zeros
returns-clause-zeros c =
    let given : Invocation = record { words = c.args.command.now; execfn = c.args.execfn.now; random = c.args.random.now } in
    let room : HasRoom (executable c.args.elf.now) c.args.headers given = has-room (executable c.args.elf.now) c.args.headers given c.requires.few c.requires.short (omega arith) in
    let text : c.len.result ≡ length (strings given) = let items = ap length c.in_ok-text.ensures in omega (arith, c.in_ok-text.text.ok.0, items) in
    let start : c.aligned_address-start.result ≡ strings_start given = c.aligned_address-start.ensures ∙ ap (λ (n : ℕ). aligned_address (STACK_TOP - n)) text in
    let words : c.len-2.result ≡ length (stack_words (executable c.args.elf.now) c.args.headers given) = let items = ap length (c.in_ok-words.ensures ∙ stack_words-are (executable c.args.elf.now) c.args.headers given _ start) in omega (arith, c.in_ok-words.words.ok.0, items) in
    let high : STACK_START + PAGE_SIZE ≤ c.pointer_below-pointer.result = omega (arith, room.text, room.words, text, words) in
    (omega (arith, high), omega arith)

pub returns-clause-pointer : goal.returns-clause-pointer
returns-clause-pointer c =
    let given : Invocation = record { words = c.args.command.now; execfn = c.args.execfn.now; random = c.args.random.now } in
    let text : c.len.result ≡ length (strings given) = let items = ap length c.in_ok-text.ensures in omega (arith, c.in_ok-text.text.ok.0, items) in
    let start : c.aligned_address-start.result ≡ strings_start given = c.aligned_address-start.ensures ∙ ap (λ (n : ℕ). aligned_address (STACK_TOP - n)) text in
    let words : c.len-2.result ≡ length (stack_words (executable c.args.elf.now) c.args.headers given) = let items = ap length (c.in_ok-words.ensures ∙ stack_words-are (executable c.args.elf.now) c.args.headers given _ start) in omega (arith, c.in_ok-words.words.ok.0, items) in
    c.pointer_below-pointer.ensures ∙ rw (start, words) refl

pub returns-clause-contents : goal.returns-clause-contents
returns-clause-contents c =
    let given : Invocation = record { words = c.args.command.now; execfn = c.args.execfn.now; random = c.args.random.now } in
    let room : HasRoom (executable c.args.elf.now) c.args.headers given = has-room (executable c.args.elf.now) c.args.headers given c.requires.few c.requires.short (omega arith) in
    let text : c.len.result ≡ length (strings given) = let items = ap length c.in_ok-text.ensures in omega (arith, c.in_ok-text.text.ok.0, items) in
    let start : c.aligned_address-start.result ≡ strings_start given = c.aligned_address-start.ensures ∙ ap (λ (n : ℕ). aligned_address (STACK_TOP - n)) text in
    let words : c.len-2.result ≡ length (stack_words (executable c.args.elf.now) c.args.headers given) = let items = ap length (c.in_ok-words.ensures ∙ stack_words-are (executable c.args.elf.now) c.args.headers given _ start) in omega (arith, c.in_ok-words.words.ok.0, items) in
    let words_are : c.deref.result.now ≡ stack_words (executable c.args.elf.now) c.args.headers given = c.deref.ensures.value ∙ c.in_ok-words.ensures ∙ stack_words-are (executable c.args.elf.now) c.args.headers given _ start in
    let text_is : c.deref-2.result.now ≡ strings given = c.deref-2.ensures.value ∙ c.in_ok-text.ensures in
    let pointer : c.pointer_below-pointer.result ≡ stack_pointer (executable c.args.elf.now) c.args.headers given = c.pointer_below-pointer.ensures ∙ rw (start, words) refl in
    let zeros = PAGE_SIZE * ((c.pointer_below-pointer.result - STACK_START) / PAGE_SIZE) in
    let size : zeros ≡ STACK_START + zeros - STACK_START = omega arith in
    ap (λ (n : ℕ). replicate n 0 ++ c.in_ok-contents.contents.items) size ∙ c.in_ok-contents.ensures ∙ rw (pointer, start, words_are, text_is) refl
