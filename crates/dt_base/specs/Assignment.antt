-- Words that set a variable of the environment.
use Rattle.std.specs.Prelude.{ℕ, Bool, false, ◌&&◌, ◌||◌, ◌==◌, List, [], ◌∷◌, take, Option, Some, None}
use Rattle.std.specs.List.{list_all, position}
use Rattle.std.specs.Char.{is_ascii_alphabetic, is_ascii_alphanumeric}

-- a letter, a digit or `_`
abbrev pub is_variable_byte : ℕ → Bool
is_variable_byte b = is_ascii_alphanumeric b || (b == 95)

-- a letter or `_`
abbrev pub is_variable_start : ℕ → Bool
is_variable_start b = is_ascii_alphabetic b || (b == 95)

-- a variable's name: a letter or `_`, and then letters, digits and `_` (POSIX, Base Definitions, Name)
abbrev pub is_variable : List ℕ → Bool
is_variable [] = false
is_variable (b ∷ bs) = is_variable_start b && list_all is_variable_byte bs

-- the bytes before this index are a variable's name
abbrev pub is_variable_before : List ℕ → Option ℕ → Bool
is_variable_before word None = false
is_variable_before word (Some index) = is_variable (take index word)

-- the word has the form NAME=VALUE
abbrev pub is_assignment : List ℕ → Bool
is_assignment word = is_variable_before word (position (λ b. b == 61) word)
