-- A list whose words count more than the limit, of which no more has to be known than that each can be read.
use Rattle.std.proofs.Common.{◌≡◌, ◌≢◌, ℕ, zero, suc, ◌<◌, ◌≤◌, ◌+◌, ◌%◌, ◌^◌, Bool, true, false, List, [], ◌∷◌, ◌++◌, Option, Some, None, Result, Ok, Err, refl, sym, ap, subst, ◌∙◌, append_assoc, arith}
use Rattle.std.specs.Prelude.{is_ok, not, nat_lt}
use Rattle.std.specs.List.{list_any}
use Rattle.std.specs.List.Sorted.{IsPermutation}
use Rattle.std.specs.Result.{IsOkAnd}
use Rattle.std.proofs.lemmas.List.Sorted.{list_any-IsPermutation}
use Rattle.std.proofs.lemmas.Bool.Decides.{nat_tests}
use Rattle.dt_base.specs.declared.errno.Errno.{Errno}
use Rattle.dt_base.specs.declared.errno.Errno.TheVariants.{Fault as BadAddress}
use Rattle.dt_base.specs.declared.limits.TheConstants.{ADDRESS_LIMIT, ARGUMENT_LIMIT}
use Rattle.dt_elf.specs.Stack.{words_size}
use Rattle.dt_space.specs.declared.access.Miss.{Miss}
use Rattle.dt_space.specs.declared.access.TextErr.{TextErr}
use Rattle.dt_space.specs.declared.access.TextErr.TheVariants as text_err
use Rattle.dt_space.specs.declared.access.TheConstants.{READ}
use Rattle.dt_space.specs.Argument.{text_or}
use Rattle.dt_space.specs.Space.{PageView, load, loaded_number}
use Rattle.dt_space.specs.Text.{text_at_address}
use Rattle.dt_exec.specs.Arguments.{word_before, word_at, words_from, words_at}
use Rattle.dt_exec.specs.inner.Listed.{IsTooBig}
use Rattle.dt_exec.specs.inner.Rest.{entry_before, entries_at, is_unread}
use Rattle.dt_exec.proofs.Collected.{SoFar, after}

-- entries that were read before others
abbrev pub behind : List ℕ → Option (List ℕ) → Option (List ℕ)
behind entries None = None
behind entries (Some more) = Some (entries ++ more)

pub behind-none : (rest : Option (List ℕ)) → rest ≡ behind [] rest
behind-none None = refl
behind-none (Some entries) = refl

behind-one : (entries : List ℕ) (before_it : ℕ) (rest : Option (List ℕ)) → behind entries (entry_before (Ok (suc before_it)) rest) ≡ behind (entries ++ suc before_it ∷ []) rest
behind-one entries before_it None = refl
behind-one entries before_it (Some more) = ap Some (sym (append_assoc entries (suc before_it ∷ []) more))

-- one entry of a list
pub next_entry : (pages : List PageView) (at left less : ℕ) (found : Result ℕ Miss) → left ≡ suc less → found ≡ loaded_number (load pages READ at 8) → entries_at pages at left ≡ entry_before found (entries_at pages ((at + 8) % 2 ^ 64) less)
unfolding entries_at
next_entry pages at left less found is read = ap (entries_at pages at) is ∙ ap (λ r. entry_before r (entries_at pages ((at + 8) % 2 ^ 64) less)) (sym read)

pub one_more : (entries : List ℕ) (entry : ℕ) (rest : Option (List ℕ)) → entry ≢ 0 → behind entries (entry_before (Ok entry) rest) ≡ behind (entries ++ entry ∷ []) rest
one_more entries zero rest some = absurd (some refl)
one_more entries (suc before_it) rest some = behind-one entries before_it rest

pub entries_at-end : (pages : List PageView) (at left : ℕ) → left ≡ 0 → entries_at pages at left ≡ None
unfolding entries_at
entries_at-end pages at left none = rw none refl

-- whether each of these words can be read
abbrev pub all_read : List PageView → Option (List ℕ) → Bool
all_read pages None = false
all_read pages (Some entries) = not (list_any (is_unread pages) entries)

one_read : (pages : List PageView) (entry : ℕ) (word : Result (List ℕ) Errno) (words : Result (List (List ℕ)) Errno) (entries : Option (List ℕ)) → word ≡ word_at pages (suc entry) → is_ok words ≡ all_read pages entries
    → is_ok (word_before word words) ≡ all_read pages (entry_before (Ok (suc entry)) entries)
one_read pages entry (Err errno) words None is same = refl
one_read pages entry (Err errno) words (Some entries) is same = rw (← is) refl
one_read pages entry (Ok word) (Err errno) None is same = refl
one_read pages entry (Ok word) (Ok words) None is same = same
one_read pages entry (Ok word) (Err errno) (Some entries) is same = rw (← is) same
one_read pages entry (Ok word) (Ok words) (Some entries) is same = rw (← is) same

by_entry : (pages : List PageView) (found : Result ℕ Miss) (words : Result (List (List ℕ)) Errno) (entries : Option (List ℕ)) → is_ok words ≡ all_read pages entries → is_ok (words_from pages found words) ≡ all_read pages (entry_before found entries)
by_entry pages (Err miss) words entries same = refl
by_entry pages (Ok zero) words entries same = refl
by_entry pages (Ok (suc entry)) words entries same = one_read pages entry (word_at pages (suc entry)) words entries refl same

-- a list can be read where its entries can be and each word that they lead to
pub readable : (pages : List PageView) (at left : ℕ) → is_ok (words_at pages at left) ≡ all_read pages (entries_at pages at left)
unfolding words_at entries_at
readable pages at zero = refl
readable pages at (suc left) =
    by_entry pages (loaded_number (load pages READ at 8)) (words_at pages ((at + 8) % 2 ^ 64) left) (entries_at pages ((at + 8) % 2 ^ 64) left) (readable pages ((at + 8) % 2 ^ 64) left)

-- in any order
pub readable-sorted : (pages : List PageView) (at left : ℕ) (entries sorted : List ℕ) → entries_at pages at left ≡ Some entries → IsPermutation entries sorted → not (list_any (is_unread pages) sorted) ≡ is_ok (words_at pages at left)
readable-sorted pages at left entries sorted is moved =
    ap not (sym (list_any-IsPermutation (is_unread pages) entries sorted moved)) ∙ sym (readable pages at left ∙ ap (all_read pages) is)

-- no list is refused but by EFAULT
fault_of_text : (found : Result (List ℕ) TextErr) (errno : Errno) → text_or BadAddress found ≡ Err errno → errno ≡ BadAddress
fault_of_text (Ok text) errno is = cc
fault_of_text (Err (text_err.Miss miss)) errno is = cc
fault_of_text (Err text_err.Long) errno is = cc
fault_of_text (Err text_err.NoMemory) errno is = cc

fault_before : (word : Result (List ℕ) Errno) (rest : Result (List (List ℕ)) Errno) (errno : Errno) → ((e : Errno) → word ≡ Err e → e ≡ BadAddress) → ((e : Errno) → rest ≡ Err e → e ≡ BadAddress) → word_before word rest ≡ Err errno → errno ≡ BadAddress
fault_before (Err e) rest errno of_word of_rest is = let same : e ≡ errno = cc in sym same ∙ of_word e refl
fault_before (Ok word) (Err e) errno of_word of_rest is = let same : e ≡ errno = cc in sym same ∙ of_rest e refl
fault_before (Ok word) (Ok words) errno of_word of_rest is = cc

fault_from : (pages : List PageView) (found : Result ℕ Miss) (rest : Result (List (List ℕ)) Errno) (errno : Errno) → ((e : Errno) → rest ≡ Err e → e ≡ BadAddress) → words_from pages found rest ≡ Err errno → errno ≡ BadAddress
fault_from pages (Err miss) rest errno of_rest is = cc
fault_from pages (Ok zero) rest errno of_rest is = cc
fault_from pages (Ok (suc entry)) rest errno of_rest is =
    fault_before (word_at pages (suc entry)) rest errno (λ e. fault_of_text (text_at_address pages (suc entry) ADDRESS_LIMIT) e) of_rest is

fault : (pages : List PageView) (at left : ℕ) (errno : Errno) → words_at pages at left ≡ Err errno → errno ≡ BadAddress
unfolding words_at
fault pages at zero errno is = cc
fault pages at (suc left) errno is =
    fault_from pages (loaded_number (load pages READ at 8)) (words_at pages ((at + 8) % 2 ^ 64) left) errno (λ e. fault pages ((at + 8) % 2 ^ 64) left e) is

-- the rest of a list that can't be read
pub rest_unread : (all : Result (List (List ℕ)) Errno) (stored : List (List ℕ)) (count : ℕ) (pages : List PageView) (at left : ℕ) → SoFar all (words_at pages at left) stored count → is_ok (words_at pages at left) ≡ false → all ≡ Err BadAddress
rest_unread all stored count pages at left sofar unread = by_rest (words_at pages at left) (λ e. fault pages at left e) sofar.so_far unread
  where
    by_rest : (rest : Result (List (List ℕ)) Errno) → ((e : Errno) → rest ≡ Err e → e ≡ BadAddress) → all ≡ after sofar.words rest → is_ok rest ≡ false → all ≡ Err BadAddress
    by_rest (Ok more) faults is none = cc
    by_rest (Err errno) faults is none = is ∙ ap Err (faults errno refl)

size-append : (words more : List (List ℕ)) → words_size words ≤ words_size (words ++ more)
unfolding words_size
size-append [] more = omega arith
size-append (word ∷ words) more = omega (arith, size-append words more)

-- one that can be, where what came before counts more than the limit
pub rest_read : (all : Result (List (List ℕ)) Errno) (stored : List (List ℕ)) (count : ℕ) (rest : Result (List (List ℕ)) Errno) → SoFar all rest stored count → nat_lt ARGUMENT_LIMIT count ≡ true → is_ok rest ≡ true → IsTooBig all
rest_read all stored count (Err errno) sofar many is = cc
rest_read all stored count (Ok more) sofar many is =
    let past : ARGUMENT_LIMIT < count = grind (arith, nat_tests) in
    subst (λ r. IsOkAnd r (λ words. ARGUMENT_LIMIT < words_size words)) (sym sofar.so_far)
    (omega (arith, past, sofar.counted, size-append sofar.words more))
