-- Words of a list that were read one after the other.
use Rattle.std.proofs.Common.{◌≡◌, ◌≢◌, ℕ, Vec, Global, ◌+◌, ◌-◌, ◌%◌, ◌^◌, ◌≤◌, ◌<◌, suc, zero, min, Bool, true, false, List, [], ◌∷◌, ◌++◌, length, Option, Some, None, Result, Ok, Err, refl, sym, ap, subst, ◌∙◌, append_assoc, append-nil, arith}
use Rattle.std.specs.Prelude.{IsTrue, IsOk, MatchOption, nat_le, nat_lt, if◌then◌else◌}
use Rattle.std.specs.List.{list_all}
use Rattle.std.specs.Result.{IsOkAnd}
use Rattle.std.proofs.lemmas.Bool.Decides.{nat_tests}
use Rattle.dt_base.specs.Path.{has_no_nul}
use Rattle.dt_base.specs.declared.blob.Blob.{Blob}
use Rattle.dt_base.specs.declared.errno.Errno.{Errno}
use Rattle.dt_base.specs.declared.errno.Errno.TheVariants.{TooBig, Fault as BadAddress}
use Rattle.dt_base.specs.declared.limits.TheConstants.{ARGUMENT_LIMIT}
use Rattle.dt_elf.specs.Stack.{words_size}
use Rattle.dt_space.specs.declared.access.Miss.{Miss}
use Rattle.dt_space.specs.declared.access.TheConstants.{READ}
use Rattle.dt_space.specs.Space.{PageView, load, loaded_number}
use Rattle.dt_exec.specs.Arguments.{word_before, word_at, words_from, words_at, one_at_least, within_limit, command_of}
use Rattle.dt_exec.specs.inner.Listed.{AreListed, IsTooBig}
use Rattle.dt_exec.proofs.NoNul.{each, all-append}

-- what was stored of a list
abbrev pub IsList : Result (List (List ℕ)) Errno → Option (Vec Blob Global) → Type 0
IsList all found = MatchOption found (IsTooBig all) (λ words. AreListed all words.items)

-- what came so far before what comes, unless that is an error
abbrev pub after : List (List ℕ) → Result (List (List ℕ)) Errno → Result (List (List ℕ)) Errno
after words (Ok more) = Ok (words ++ more)
after words (Err errno) = Err errno

after-none : (rest : Result (List (List ℕ)) Errno) → rest ≡ after [] rest
after-none (Ok words) = refl
after-none (Err errno) = refl

after-before : (words : List (List ℕ)) (word : List ℕ) (rest : Result (List (List ℕ)) Errno) → after words (word_before (Ok word) rest) ≡ after (words ++ word ∷ []) rest
after-before words word (Ok more) = ap Ok (sym (append_assoc words (word ∷ []) more))
after-before words word (Err errno) = refl

-- some words were read and counted, and stored as long as they are within the limit
pub record SoFar (all rest : Result (List (List ℕ)) Errno) (stored : List (List ℕ)) (count : ℕ) : Type 0 where
  pub words : List (List ℕ)
  pub so_far : all ≡ after words rest
  pub counted : count ≡ min (words_size words) (2 ^ 64 - 1)
  pub same : count ≤ ARGUMENT_LIMIT → stored ≡ words
  pub no_nul : IsTrue (list_all has_no_nul stored)

size-push : (words : List (List ℕ)) (word : List ℕ) → words_size (words ++ word ∷ []) ≡ words_size words + length word + 9
unfolding words_size
size-push [] word = omega arith
size-push (first ∷ words) word = omega (arith, size-push words word)

pub start : (all : Result (List (List ℕ)) Errno) → SoFar all all [] 0
unfolding words_size
start all = record { words = []; so_far = after-none all; counted = refl; same = λ _. refl; no_nul = refl }

abbrev stored_if : Bool → List (List ℕ) → List ℕ → List (List ℕ)
stored_if fits stored word = if fits then stored ++ word ∷ [] else stored

-- one word more
more : (all rest next : Result (List (List ℕ)) Errno) (stored now : List (List ℕ)) (count counted : ℕ) (word : List ℕ) → SoFar all rest stored count → rest ≡ word_before (Ok word) next → IsTrue (has_no_nul word)
    → counted ≡ min (count + length word + 9) (2 ^ 64 - 1) → now ≡ (if nat_le counted ARGUMENT_LIMIT then stored ++ word ∷ [] else stored) → SoFar all next now counted
more all rest next stored now count counted word sofar is clean count_is now_is = record {
  words = sofar.words ++ word ∷ [];
  so_far = sofar.so_far ∙ ap (after sofar.words) is ∙ after-before sofar.words word next;
  counted = omega (arith, count_is, sofar.counted, size-push sofar.words word);
  same = λ few.
      let fits : nat_le counted ARGUMENT_LIMIT ≡ true = grind (arith, nat_tests) in
      now_is ∙ ap (λ b. stored_if b stored word) fits ∙ ap (λ s. s ++ word ∷ []) (sofar.same (omega (arith, count_is, few)));
  no_nul = subst (λ s. IsTrue (list_all has_no_nul s)) (sym now_is) (by_test (nat_le counted ARGUMENT_LIMIT));
}
  where
    by_test : (fits : Bool) → IsTrue (list_all has_no_nul (stored_if fits stored word))
    by_test true = all-append has_no_nul stored (word ∷ []) sofar.no_nul (each (has_no_nul word) true clean refl)
    by_test false = sofar.no_nul

-- a word that can't be read
pub refused : (all rest next : Result (List (List ℕ)) Errno) (stored : List (List ℕ)) (count : ℕ) (errno : Errno) → SoFar all rest stored count → rest ≡ word_before (Err errno) next → all ≡ Err errno
refused all rest next stored count errno sofar is = sofar.so_far ∙ ap (after sofar.words) is

-- an entry that can't be read
pub missed : (all rest : Result (List (List ℕ)) Errno) (stored : List (List ℕ)) (count : ℕ) → SoFar all rest stored count → rest ≡ Err BadAddress → all ≡ Err BadAddress
missed all rest stored count sofar is = sofar.so_far ∙ ap (after sofar.words) is

-- the entry that ends the list
pub ended : (all rest : Result (List (List ℕ)) Errno) (stored : Vec Blob Global) (count : ℕ) (found : Option (Vec Blob Global)) → SoFar all rest stored.items count → rest ≡ Ok [] → found ≡ (if nat_le count ARGUMENT_LIMIT then Some stored else None) → IsList all found
ended all rest stored count found sofar is found_is = subst (IsList all) (sym found_is) (by_test (nat_le count ARGUMENT_LIMIT) refl)
  where
    whole : all ≡ Ok sofar.words
    whole = sofar.so_far ∙ ap (after sofar.words) is ∙ ap Ok (append-nil sofar.words)

    by_test : (fits : Bool) → nat_le count ARGUMENT_LIMIT ≡ fits → IsList all (if fits then Some stored else None)
    by_test true is =
        let few : count ≤ ARGUMENT_LIMIT = grind (arith, nat_tests) in
        record { whole = whole ∙ ap Ok (sym (sofar.same few)); no_nul = sofar.no_nul }
    by_test false is =
        let many : ARGUMENT_LIMIT < count = grind (arith, nat_tests) in
        subst (λ r. IsOkAnd r (λ words. ARGUMENT_LIMIT < words_size words)) (sym whole) (omega (arith, many, sofar.counted))

-- one entry of a list
pub entry_at : (pages : List PageView) (at left less : ℕ) (found : Result ℕ Miss) → left ≡ suc less → found ≡ loaded_number (load pages READ at 8) → words_at pages at left ≡ words_from pages found (words_at pages ((at + 8) % 2 ^ 64) less)
unfolding words_at
entry_at pages at left less found is read = ap (words_at pages at) is ∙ ap (λ r. words_from pages r (words_at pages ((at + 8) % 2 ^ 64) less)) (sym read)

-- an entry that is no 0 is the address of a word
pub word_of_entry : (pages : List PageView) (entry : ℕ) (word : Result (List ℕ) Errno) (rest : Result (List (List ℕ)) Errno) → entry ≢ 0 → word ≡ word_at pages entry → words_from pages (Ok entry) rest ≡ word_before word rest
word_of_entry pages zero word rest some is = absurd (some refl)
word_of_entry pages (suc entry) word rest some is = ap (λ w. word_before w rest) (sym is)

-- one word more, which an entry leads to
pub word_more : (all : Result (List (List ℕ)) Errno) (pages : List PageView) (at left less entry : ℕ) (stored now : List (List ℕ)) (count counted : ℕ) (word : List ℕ) → SoFar all (words_at pages at left) stored count → left ≡ suc less → Ok entry ≡ loaded_number (load pages READ at 8) → entry ≢ 0 → Ok word ≡ word_at pages entry → IsTrue (has_no_nul word)
    → counted ≡ min (count + length word + 9) (2 ^ 64 - 1) → now ≡ (if nat_le counted ARGUMENT_LIMIT then stored ++ word ∷ [] else stored) → SoFar all (words_at pages ((at + 8) % 2 ^ 64) less) now counted
word_more all pages at left less entry stored now count counted word sofar one read some is clean count_is now_is =
    let rest = words_at pages ((at + 8) % 2 ^ 64) less in
    more all (words_at pages at left) rest stored now count counted word sofar
    (entry_at pages at left less (Ok entry) one read ∙ word_of_entry pages entry (Ok word) rest some is) clean count_is now_is

pub words_at-end : (pages : List PageView) (at left : ℕ) → left ≡ 0 → words_at pages at left ≡ Err BadAddress
unfolding words_at
words_at-end pages at left none = rw none refl

-- a list that was read to its end
pub is_listed : (all : Result (List (List ℕ)) Errno) (found : Option (Vec Blob Global)) → IsList all found → IsOk all
is_listed (Ok words) None is = refl
is_listed (Err errno) None is = absurd is
is_listed all (Some words) is = subst IsOk (sym is.whole) refl

size-one_at_least : (words : List (List ℕ)) → words_size words ≤ words_size (one_at_least words)
unfolding words_size
size-one_at_least [] = omega arith
size-one_at_least (word ∷ words) = omega arith

too_many : (args env : List (List ℕ)) → ARGUMENT_LIMIT < words_size args + words_size env → Err TooBig ≡ within_limit (record { args = args; env = env; input = [] })
too_many args env many = let long : nat_lt ARGUMENT_LIMIT (words_size args + words_size env) ≡ true = grind (arith, nat_tests) in rw long refl

-- either list alone may be past the limit
pub args-too_big : (args env : Result (List (List ℕ)) Errno) → IsTooBig args → IsOk env → Err TooBig ≡ command_of args env
args-too_big (Err errno) env big ok = absurd big
args-too_big (Ok words) (Err errno) big ok = cc
args-too_big (Ok words) (Ok env) big ok = too_many (one_at_least words) env (omega (arith, big, size-one_at_least words))
