-- Scripts, whose first line names the interpreter that runs them (execve(2), "Interpreter scripts").
use Rattle.std.specs.Prelude.{ℕ, ◌-◌, List, ◌∷◌, ◌++◌, length, take, drop, Bool, not, ◌||◌, ◌==◌, nat_eq, nat_lt, Option, None, Some, IsTrue, if◌then◌else◌}
use Rattle.std.specs.List.{starts_with, list_all, position_or_len, prefix_len, suffix_len}
use Rattle.std.specs.Option.{option_to_list}
use Rattle.dt_base.specs.Path.{has_no_nul}
use Rattle.dt_exec.specs.declared.limits.TheConstants.{SCRIPT_MARK, SCRIPT_LINE_LIMIT}
use Rattle.dt_exec.specs.declared.script.Script.{Script}

-- the file begins with `#!`
abbrev pub is_script : List ℕ → Bool
is_script bytes = starts_with nat_eq bytes SCRIPT_MARK

-- the byte LF
abbrev pub is_lf : ℕ → Bool
is_lf byte = byte == 10

-- a blank or a tab
abbrev pub is_blank : ℕ → Bool
is_blank byte = byte == 32 || byte == 9

-- a file's first line: all before the first LF, or all where there is none
unfoldable pub first_line : List ℕ → List ℕ
first_line bytes = take (position_or_len is_lf bytes) bytes

-- a text without the blanks that it begins with
unfoldable pub without_leading_blanks : List ℕ → List ℕ
without_leading_blanks text = drop (prefix_len is_blank text) text

-- a text without the blanks that it ends with
unfoldable pub without_trailing_blanks : List ℕ → List ℕ
without_trailing_blanks text = take (length text - suffix_len is_blank text) text

-- a word, unless it is empty
abbrev pub some_word : List ℕ → Option (List ℕ)
some_word word = if length word == 0 then None else Some word

-- a script by a text without blanks at its ends: the interpreter's path goes up to the first blank, the argument is the
-- rest
unfoldable pub script_of_text : List ℕ → Option Script
script_of_text text =
    let path = take (position_or_len is_blank text) text in
    if length path == 0 then None else Some (record {
      interpreter = path;
      argument = some_word (without_leading_blanks (drop (length path) text));
    })

-- the script that a first line makes: it has at most 255 bytes, no NUL, and names an interpreter behind its `#!`
unfoldable pub script_of_line : List ℕ → Option Script
script_of_line line =
    if nat_lt SCRIPT_LINE_LIMIT (length line) || not (has_no_nul line) then None
    else script_of_text (without_trailing_blanks (without_leading_blanks (drop 2 line)))

-- the script that a file is, unless its first line is bad
abbrev pub script_of : List ℕ → Option Script
script_of bytes = script_of_line (first_line bytes)

-- the arguments of a script's interpreter: its own path, what the script says, the script's path, and the script's
-- arguments from the second on
abbrev pub script_args : Script → List ℕ → List (List ℕ) → List (List ℕ)
script_args script path args = script.interpreter ∷ (option_to_list script.argument ++ (path ∷ drop 1 args))

-- what the script says has no NUL
pub record HasNoNul (script : Script) : Type 0 where
  pub interpreter : IsTrue (has_no_nul script.interpreter)
  pub argument : IsTrue (list_all has_no_nul (option_to_list script.argument))
