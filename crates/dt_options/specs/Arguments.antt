-- The words that clap reads: the arguments of `run` and of `export`, which stand before the first `--`, and those of
-- `demo` and of `steps`.
use Rattle.std.specs.Prelude.{ℕ, true, false, List, [], ◌∷◌, Option, Some, None, codes, if◌then◌else◌, unwrap_or, option_map, option_and_then}
use Rattle.std.specs.Str.Parse.{digits_value, without_leading_plus}
use Rattle.clap.specs.Words.{App, Row, Rule, Shape, fault_of, first_of, new_rule, one_of, subcommand_of}
use Rattle.clap.specs.Simple.{new_shape}
use Rattle.clap.specs.Walk.{is_empty}
use Rattle.clap.specs.ValueTests.{is_unsigned_in}
use Rattle.clap.specs.declared.builder.value_parser.ValueParser.TheVariants as parser
use Rattle.dt_base.specs.declared.limits.TheConstants.{BUDGET_LIMIT}
use Rattle.dt_options.specs.declared.options.TheConstants.{WORKERS_LIMIT}

-- the seed of a run whose words give none
abbrev pub default_seed : ℕ
default_seed = 0

-- the budget of a run whose words give none
abbrev pub default_budget : ℕ
default_budget = 100000000

-- the number of workers where the words give none
abbrev pub default_workers : ℕ
default_workers = 4

-- an operand, a text that must be there: IMAGE, TO or FILE
abbrev pub operand_rule : List ℕ → Rule
operand_rule name = record (new_rule name) { required = true }

-- the number of a demonstration, which must be there, from 0 to 2^64 - 1
abbrev pub demo_rule : Rule
demo_rule = record (new_rule (codes "number")) { required = true; parser = Some (parser.Unsigned 0 18446744073709551615) }

-- an option of one value, a number from 0 to 2^64 - 1
abbrev pub number_rule : List ℕ → Rule
number_rule name = record (new_rule name) { long = Some name; parser = Some (parser.Unsigned 0 18446744073709551615) }

-- an option of one value, a text
abbrev pub text_rule : List ℕ → Rule
text_rule name = record (new_rule name) { long = Some name }

-- the option `--budget`, whose value is a number from 1 to 1,000,000,000
abbrev pub budget_rule : Rule
budget_rule = record (number_rule (codes "budget")) { parser = Some (parser.Unsigned 1 BUDGET_LIMIT) }

-- the option `--workers`, whose value is a number from 1 to 64
abbrev pub workers_rule : Rule
workers_rule = record (number_rule (codes "workers")) { parser = Some (parser.Unsigned 1 WORKERS_LIMIT) }

-- `[--seed N] [--budget N] [--workers N] [--host N] [--stdin NAME]`
abbrev pub run_rules : List Rule
run_rules = number_rule (codes "seed") ∷ budget_rule ∷ workers_rule ∷ number_rule (codes "host") ∷ text_rule (codes "stdin") ∷ []

-- `[--seed N] [--budget N] [--workers N] [--host N]`
abbrev pub steps_rules : List Rule
steps_rules = number_rule (codes "seed") ∷ budget_rule ∷ workers_rule ∷ number_rule (codes "host") ∷ []

-- `run IMAGE`, and the options of a run
abbrev pub run_shape : Shape
run_shape = record (new_shape (codes "run")) { rules = operand_rule (codes "image") ∷ run_rules }

-- `export IMAGE TO`, and the options of a run
abbrev pub export_shape : Shape
export_shape = record (new_shape (codes "export")) {
  rules = operand_rule (codes "image") ∷ operand_rule (codes "to") ∷ run_rules;
}

-- `steps IMAGE FILE`, and the options of steps
abbrev pub steps_shape : Shape
steps_shape = record (new_shape (codes "steps")) {
  rules = operand_rule (codes "image") ∷ operand_rule (codes "file") ∷ steps_rules;
}

-- `demo N [--workers N] [--host N]`
abbrev pub demo_shape : Shape
demo_shape = record (new_shape (codes "demo")) {
  rules = demo_rule ∷ workers_rule ∷ number_rule (codes "host") ∷ [];
}

-- the program, whose words do not begin with its name, and which must be given a subcommand
abbrev pub program_shape : Shape
program_shape = record (new_shape (codes "dettrace")) {
  is_leaf = false;
  no_binary_name = true;
  subcommand_required = true;
}

-- the program with one subcommand, the one that the first word names
abbrev pub app_with : Shape → App
app_with shape = record { top = program_shape; subs = shape ∷ [] }

-- the program where that is `run`
abbrev pub run_app : App
run_app = app_with run_shape

-- the program where it is `export`
abbrev pub export_app : App
export_app = app_with export_shape

-- the program where it is `demo`
abbrev pub demo_app : App
demo_app = app_with demo_shape

-- the program where it is `steps`
abbrev pub steps_app : App
steps_app = app_with steps_shape

-- the values that clap matches to the arguments of the subcommand, where it takes the words
unfoldable pub matched_rows : App → List (List ℕ) → Option (List Row)
matched_rows app words = if is_empty (fault_of app words) then option_map (λ sub. sub.1) (subcommand_of app words) else None

-- what stands for an operand in the words
unfoldable pub operand_in : List ℕ → List Row → List ℕ
operand_in name rows = unwrap_or (first_of name rows) []

-- the text of an option, if it was given
unfoldable pub text_in : List ℕ → List Row → Option (List ℕ)
text_in name rows = first_of name rows

-- the number that a text writes, if it is one from 0 to 2^64 - 1
abbrev pub number_of : List ℕ → Option ℕ
number_of text =
    if is_unsigned_in 0 18446744073709551615 text then Some (digits_value 10 (without_leading_plus text)) else None

-- the number of an option, or of a demonstration, if it was given
unfoldable pub number_in : List ℕ → List Row → Option ℕ
number_in name rows = option_and_then number_of (one_of name rows)
