-- Strings and words of a stack, one after another.
use Rattle.std.proofs.Common.{◌≡◌, ℕ, ◌+◌, ◌-◌, ◌*◌, ◌<◌, ◌≤◌, List, [], ◌∷◌, ◌++◌, length, get_or, drop, take, replicate, refl, sym, ap, ◌∙◌, append-nil, append_assoc, length-append, arith}
use Rattle.std.proofs.lemmas.List.{drop_all, take_all, length-replicate, replicate-append-replicate}
use Rattle.dt_base.proofs.Lists.{drop-at}
use Rattle.dt_base.specs.Fields.{low_bytes}
use Rattle.dt_elf.specs.Stack.{Invocation, terminated_words, word_addresses, word_bytes, words_size, strings, strings_start, stack_words_at, stack_words, stack_layout}
use Rattle.dt_elf.specs.declared.layout.TheConstants.{RANDOM_SIZE, STACK_START}
use Rattle.dt_base.specs.declared.limits.TheConstants.{ARGUMENT_LIMIT, PATH_LIMIT}
use Rattle.dt_base.specs.Command.{Words}
use Rattle.dt_elf.specs.Executable.{Executable}

size-cons : (word : List ℕ) (rest : List (List ℕ)) → words_size (word ∷ rest) ≡ length word + 9 + words_size rest
unfolding words_size
size-cons word rest = refl

pub size-nil : words_size [] ≡ 0
unfolding words_size
size-nil = refl

terminated-cons : (word : List ℕ) (rest : List (List ℕ)) → terminated_words (word ∷ rest) ≡ word ++ (0 ∷ terminated_words rest)
unfolding terminated_words
terminated-cons word rest = refl

pub terminated-nil : terminated_words [] ≡ []
unfolding terminated_words
terminated-nil = refl

addresses-cons : (address : ℕ) (word : List ℕ) (rest : List (List ℕ)) → word_addresses address (word ∷ rest) ≡ address ∷ word_addresses (address + (length word + 1)) rest
unfolding word_addresses
addresses-cons address word rest = refl

pub addresses-nil : (address : ℕ) → word_addresses address [] ≡ []
unfolding word_addresses
addresses-nil address = refl

word_bytes-cons : (word : ℕ) (rest : List ℕ) → word_bytes (word ∷ rest) ≡ low_bytes 8 word ++ word_bytes rest
unfolding word_bytes
word_bytes-cons word rest = refl

pub word_bytes-nil : word_bytes [] ≡ []
unfolding word_bytes
word_bytes-nil = refl

-- one word on

pub size-on : (words : List (List ℕ)) (i : ℕ) (word : List ℕ) → i < length words → word ≡ get_or words i word → words_size (drop i words) ≡ length word + 9 + words_size (drop (i + 1) words)
size-on words i word lt is = ap words_size (drop-at words i word word lt is) ∙ size-cons word (drop (i + 1) words)

pub size-end : (words : List (List ℕ)) (i : ℕ) → length words ≤ i → words_size (drop i words) ≡ 0
size-end words i all = ap words_size (drop_all i words all) ∙ size-nil

pub terminated-on : (words : List (List ℕ)) (i : ℕ) (word text : List ℕ) → i < length words → word ≡ get_or words i word → (text ++ word) ++ (0 ∷ []) ++ terminated_words (drop (i + 1) words) ≡ text ++ terminated_words (drop i words)
terminated-on words i word text lt is =
    let parts : terminated_words (drop i words) ≡ word ++ (0 ∷ terminated_words (drop (i + 1) words)) = ap terminated_words (drop-at words i word word lt is) ∙ terminated-cons word (drop (i + 1) words) in
    rw parts (simp append_assoc)

pub terminated-end : (words : List (List ℕ)) (i : ℕ) (text : List ℕ) → length words ≤ i → text ++ terminated_words (drop i words) ≡ text
terminated-end words i text all = rw (drop_all i words all, terminated-nil) (append-nil text)

pub length-terminated-on : (words : List (List ℕ)) (i : ℕ) (word : List ℕ) → i < length words → word ≡ get_or words i word → length (terminated_words (drop i words)) ≡ length word + 1 + length (terminated_words (drop (i + 1) words))
length-terminated-on words i word lt is =
    let parts : terminated_words (drop i words) ≡ word ++ (0 ∷ terminated_words (drop (i + 1) words)) = ap terminated_words (drop-at words i word word lt is) ∙ terminated-cons word (drop (i + 1) words) in
    let long = ap length parts ∙ length-append word (0 ∷ terminated_words (drop (i + 1) words)) in
    omega (arith, long)

pub length-terminated-end : (words : List (List ℕ)) (i : ℕ) → length words ≤ i → length (terminated_words (drop i words)) ≡ 0
length-terminated-end words i all = ap (λ (ws : List (List ℕ)). length (terminated_words ws)) (drop_all i words all) ∙ ap length terminated-nil

pub addresses-on : (words : List (List ℕ)) (i next : ℕ) (word list : List ℕ) → i < length words → word ≡ get_or words i word → (list ++ next ∷ []) ++ word_addresses (next + (length word + 1)) (drop (i + 1) words) ≡ list ++ word_addresses next (drop i words)
addresses-on words i next word list lt is =
    let parts : word_addresses next (drop i words) ≡ next ∷ word_addresses (next + (length word + 1)) (drop (i + 1) words) = ap (word_addresses next) (drop-at words i word word lt is) ∙ addresses-cons next word (drop (i + 1) words) in
    rw parts (simp append_assoc)

pub addresses-end : (words : List (List ℕ)) (i next : ℕ) (list : List ℕ) → length words ≤ i → list ++ word_addresses next (drop i words) ≡ list
addresses-end words i next list all = rw (drop_all i words all, addresses-nil next) (append-nil list)

pub word_bytes-on : (words : List ℕ) (i d : ℕ) (bytes : List ℕ) → i < length words → (bytes ++ low_bytes 8 (get_or words i d)) ++ word_bytes (drop (i + 1) words) ≡ bytes ++ word_bytes (drop i words)
word_bytes-on words i d bytes lt =
    let word = get_or words i d in
    let parts : word_bytes (drop i words) ≡ low_bytes 8 word ++ word_bytes (drop (i + 1) words) = ap word_bytes (drop-at words i word d lt refl) ∙ word_bytes-cons word (drop (i + 1) words) in
    rw parts (simp append_assoc)

pub word_bytes-end : (words : List ℕ) (i : ℕ) (bytes : List ℕ) → length words ≤ i → bytes ++ word_bytes (drop i words) ≡ bytes
word_bytes-end words i bytes all = rw (drop_all i words all, word_bytes-nil) (append-nil bytes)

-- how long they are

pub length-word_bytes : (words : List ℕ) → length (word_bytes words) ≡ 8 * length words
length-word_bytes [] = ap length word_bytes-nil
length-word_bytes (word ∷ rest) =
    let long = ap length (word_bytes-cons word rest) ∙ length-append (low_bytes 8 word) (word_bytes rest) in
    let more = length-word_bytes rest in
    let eight : length (low_bytes 8 word) ≡ 8 = refl in
    omega (arith, long, more, eight)

-- words, each with its 0 and 8 bytes for its address, are what they count
pub length-terminated : (words : List (List ℕ)) → length (terminated_words words) + 8 * length words ≡ words_size words
length-terminated [] = let none = ap length terminated-nil in omega (arith, none, size-nil)
length-terminated (word ∷ rest) =
    let long = ap length (terminated-cons word rest) ∙ length-append word (0 ∷ terminated_words rest) in
    let more = length-terminated rest in
    let count = size-cons word rest in
    omega (arith, long, more, count)

pub length-addresses : (words : List (List ℕ)) (address : ℕ) → length (word_addresses address words) ≡ length words
length-addresses [] address = ap length (addresses-nil address)
length-addresses (word ∷ rest) address =
    let long = ap length (addresses-cons address word rest) in
    let more = length-addresses rest (address + (length word + 1)) in
    omega (arith, long, more)

pub length-strings : (given : Invocation) → length (strings given) ≡ length given.random + (length given.execfn + (1 + (length (terminated_words given.words.args) + length (terminated_words given.words.env))))
length-strings given = simp length-append (omega arith)

pub length-words : (program : Executable) (headers : ℕ) (words : Words) (execfn : List ℕ) (start : ℕ) → length (stack_words_at program headers words execfn start) ≡ 31 + (length words.args + length words.env)
length-words program headers words execfn start = simp (length-append, length-addresses) (omega arith)

-- strings and words take less than the stack
pub record HasRoom (program : Executable) (headers : ℕ) (given : Invocation) : Type 0 where
  pub text : length (strings given) ≤ 140000
  pub words : 8 * length (stack_words program headers given) ≤ 140000

pub stack_words-are : (program : Executable) (headers : ℕ) (given : Invocation) (start : ℕ) → start ≡ strings_start given → stack_words_at program headers given.words given.execfn start ≡ stack_words program headers given
unfolding stack_words
stack_words-are program headers given start is = rw is refl

pub has-room : (program : Executable) (headers : ℕ) (given : Invocation) → words_size given.words.args + words_size given.words.env ≤ ARGUMENT_LIMIT → length given.execfn ≤ PATH_LIMIT → length given.random ≡ RANDOM_SIZE → HasRoom program headers given
has-room program headers given few short sixteen =
    let args = length-terminated given.words.args in
    let env = length-terminated given.words.env in
    let text = length-strings given in
    let words = ap length (sym (stack_words-are program headers given (strings_start given) refl)) ∙ length-words program headers given.words given.execfn (strings_start given) in
    record { text = omega (arith, args, env, text, few, short, sixteen); words = omega (arith, args, env, words, few) }

pub listed-whole : (w1 w2 w3 w4 w5 w6 args env rest : List ℕ) (count : ℕ) → w1 ≡ [] ++ count ∷ [] → w2 ≡ w1 ++ args → w3 ≡ w2 ++ 0 ∷ [] → w4 ≡ w3 ++ env → w5 ≡ w4 ++ 0 ∷ [] → w6 ≡ w5 ++ rest → w6 ≡ count ∷ (args ++ (0 ∷ (env ++ (0 ∷ rest))))
listed-whole w1 w2 w3 w4 w5 w6 args env rest count e1 e2 e3 e4 e5 e6 = rw (e6, e5, e4, e3, e2, e1) (simp append_assoc)

joined-zeros : (byte first pointer : ℕ) → STACK_START ≤ first → first ≤ pointer → replicate (first - STACK_START) byte ++ replicate (pointer - first) byte ≡ replicate (pointer - STACK_START) byte
joined-zeros byte first pointer above below =
    let sum : first - STACK_START + (pointer - first) ≡ pointer - STACK_START = omega (arith, above, below) in
    replicate-append-replicate {A = ℕ} (first - STACK_START) (pointer - first) byte ∙ ap (λ (n : ℕ). replicate n byte) sum

-- bytes from an address on, with the zeros below it
pub laid-whole : (zeros both resized whole words text : List ℕ) (first pointer start len : ℕ) → STACK_START ≤ first → first ≤ pointer → pointer + 8 * length words ≤ start → zeros ≡ replicate (pointer - first) 0 → both ≡ zeros ++ word_bytes words → length both ≡ len → resized ≡ take (start - first) both ++ replicate (start - first - len) 0 → whole ≡ resized ++ text → replicate (first - STACK_START) 0 ++ whole ≡ stack_layout pointer words start text
laid-whole zeros both resized whole words text first pointer start len above below apart zeros_are both_are len_is resized_is whole_is =
    let prefix_length = ap length zeros_are ∙ length-replicate (pointer - first) 0 in
    let long = ap length both_are ∙ length-append zeros (word_bytes words) in
    let back = length-word_bytes words in
    let all : take (start - first) both ≡ both = take_all (start - first) both (omega (arith, prefix_length, long, back)) in
    let gap : start - first - len ≡ start - (pointer + 8 * length words) = omega (arith, prefix_length, long, back, len_is) in
    rw (whole_is, resized_is, all, gap, both_are, zeros_are, ← joined-zeros 0 first pointer above below) (simp append_assoc)
