-- Texts of which no byte is 0.
use Rattle.std.proofs.Common.{◌≡◌, ℕ, ◌≤◌, suc, Bool, true, false, List, [], ◌∷◌, ◌++◌, length, take, drop, Option, Some, None, Result, Ok, Err, refl, sym, ap, subst, ◌∙◌, arith}
use Rattle.std.specs.Prelude.{IsTrue, IfOk, IfSome, ◌==◌, ◌&&◌, ◌||◌, not, nat_lt, if◌then◌else◌}
use Rattle.std.specs.List.{list_all, position_or_len, prefix_len}
use Rattle.std.specs.Option.{option_to_list}
use Rattle.std.proofs.lemmas.List.{take-append-drop}
use Rattle.std.proofs.lemmas.List.Folds.{list_all-append}
use Rattle.dt_base.specs.Path.{has_no_nul}
use Rattle.dt_space.specs.Space.{PageView}
use Rattle.dt_space.specs.Text.{text_at_address}
use Rattle.dt_space.specs.declared.access.TextErr.{TextErr}
use Rattle.dt_space.specs.declared.access.TextErr.TheVariants as text_err
use Rattle.dt_space.proofs.Texts.{text_no_nul, text_short}
use Rattle.dt_exec.specs.declared.limits.TheConstants.{SCRIPT_LINE_LIMIT}
use Rattle.dt_exec.specs.declared.script.Script.{Script}
use Rattle.dt_base.specs.declared.errno.Errno.TheVariants.{NameTooLong}
use Rattle.dt_base.specs.declared.limits.TheConstants.{PATH_LIMIT}
use Rattle.dt_space.specs.Argument.{text_or, non_empty_text, path_argument}
use Rattle.dt_exec.specs.Script.{HasNoNul, is_blank, without_leading_blanks, without_trailing_blanks, some_word, script_of_text, script_of_line, script_args}

both : (a b : Bool) → IsTrue (a && b) → IsTrue a × IsTrue b
both true true is = (refl, refl)
both true false is = cc
both false b is = cc

pub each : (a b : Bool) → IsTrue a → IsTrue b → IsTrue (a && b)
each true true p q = refl
each true false p q = cc
each false b p q = cc

module _ {X : Type 0} (p : X → Bool) where
  parts : (n : ℕ) (xs : List X) → IsTrue (list_all p xs) → IsTrue (list_all p (take n xs)) × IsTrue (list_all p (drop n xs))
  parts n xs is = both _ _ (sym (list_all-append p (take n xs) (drop n xs)) ∙ ap (list_all p) (take-append-drop n xs) ∙ is)

  pub all-take : (n : ℕ) (xs : List X) → IsTrue (list_all p xs) → IsTrue (list_all p (take n xs))
  all-take n xs is = (parts n xs is).0

  pub all-drop : (n : ℕ) (xs : List X) → IsTrue (list_all p xs) → IsTrue (list_all p (drop n xs))
  all-drop n xs is = (parts n xs is).1

  pub all-append : (xs ys : List X) → IsTrue (list_all p xs) → IsTrue (list_all p ys) → IsTrue (list_all p (xs ++ ys))
  all-append xs ys is also = list_all-append p xs ys ∙ each _ _ is also

abbrev pub not_nul : ℕ → Bool
not_nul b = not (b == 0)

skipped : (text : List ℕ) → IsTrue (has_no_nul text) → IsTrue (has_no_nul (without_leading_blanks text))
unfolding without_leading_blanks
skipped text is = all-drop not_nul (prefix_len is_blank text) text is

cut : (text : List ℕ) → IsTrue (has_no_nul text) → IsTrue (has_no_nul (without_trailing_blanks text))
unfolding without_trailing_blanks
cut text is = all-take not_nul _ text is

some : (word : List ℕ) → IsTrue (has_no_nul word) → IsTrue (list_all has_no_nul (option_to_list (some_word word)))
some word is = by_test (length word == 0)
  where
    by_test : (empty : Bool) → IsTrue (list_all has_no_nul (option_to_list (if empty then None else Some word)))
    by_test true = refl
    by_test false = each _ true is refl

named : (text : List ℕ) (s : Script) → IsTrue (has_no_nul text) → script_of_text text ≡ Some s → HasNoNul s
unfolding script_of_text
named text s clean is = by_test (length path == 0) is
  where
    path : List ℕ
    path = take (position_or_len is_blank text) text

    found : Script
    found = record { interpreter = path; argument = some_word (without_leading_blanks (drop (length path) text)) }

    by_test : (empty : Bool) → (if empty then None else Some found) ≡ Some s → HasNoNul s
    by_test true is = cc
    by_test false is =
        let same : found ≡ s = cc in
        subst HasNoNul same (record {
          interpreter = all-take not_nul (position_or_len is_blank text) text clean;
          argument = some (without_leading_blanks (drop (length path) text)) (skipped (drop (length path) text) (all-drop not_nul (length path) text clean));
        })

by_line : (line : List ℕ) (s : Script) → script_of_line line ≡ Some s → HasNoNul s
unfolding script_of_line
by_line line s is = by_tests (nat_lt SCRIPT_LINE_LIMIT (length line)) (has_no_nul line) refl is
  where
    by_tests : (long clean : Bool) → has_no_nul line ≡ clean → (if long || not clean then None else script_of_text (without_trailing_blanks (without_leading_blanks (drop 2 line)))) ≡ Some s → HasNoNul s
    by_tests true clean same is = cc
    by_tests false false same is = cc
    by_tests false true same is = named (without_trailing_blanks (without_leading_blanks (drop 2 line))) s (cut (without_leading_blanks (drop 2 line)) (skipped (drop 2 line) (all-drop not_nul 2 line same))) is

-- what a script says has none
pub script-no_nul : {E : Type 0} (found : Result (Option Script) E) (line : List ℕ) → IfOk found (λ script. script ≡ script_of_line line) → IfOk found (λ script. IfSome script HasNoNul)
script-no_nul (Ok None) line is = tt
script-no_nul (Ok (Some s)) line is = by_line line s (sym is)
script-no_nul (Err e) line is = tt

-- nor have the arguments of its interpreter
pub args-no_nul : (s : Script) (path : List ℕ) (args : List (List ℕ)) → HasNoNul s → IsTrue (has_no_nul path) → IsTrue (list_all has_no_nul args) → IsTrue (list_all has_no_nul (script_args s path args))
args-no_nul s path args own clean all =
    each (has_no_nul s.interpreter) _ own.interpreter
    (all-append has_no_nul (option_to_list s.argument) (path ∷ drop 1 args) own.argument
    (each (has_no_nul path) _ clean (all-drop has_no_nul 1 args all)))

path_read : (found : Result (List ℕ) TextErr) (text : List ℕ) → Ok text ≡ non_empty_text (text_or NameTooLong found) → found ≡ Ok text
path_read (Ok []) text is = cc
path_read (Ok (byte ∷ bytes)) text is = let same : text ≡ byte ∷ bytes = cc in ap Ok (sym same)
path_read (Err (text_err.Miss miss)) text is = cc
path_read (Err text_err.Long) text is = cc
path_read (Err text_err.NoMemory) text is = cc

-- a path that was read has none, and is within the limit
pub path-no_nul : (pages : List PageView) (address : ℕ) (text : List ℕ) → Ok text ≡ path_argument pages address → IsTrue (has_no_nul text)
path-no_nul pages address text is = text_no_nul pages address (suc PATH_LIMIT) text (path_read (text_at_address pages address (suc PATH_LIMIT)) text is)

pub path-short : (pages : List PageView) (address : ℕ) (text : List ℕ) → Ok text ≡ path_argument pages address → length text ≤ PATH_LIMIT
path-short pages address text is =
    let short = text_short pages address (suc PATH_LIMIT) text (path_read (text_at_address pages address (suc PATH_LIMIT)) text is) in
    omega arith
