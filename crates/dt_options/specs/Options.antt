-- The command line: what the words of argv after the program's name ask for. The first word names the form. The words of
-- a run and of an export have a `--`: the first one ends the options (POSIX, Base Definitions, 12.2, guideline 10), and
-- behind it stands the command. Those of a demonstration and of steps have none.
use Rattle.std.specs.Prelude.{ℕ, ◌+◌, ◌≤◌, Bool, false, not, List, [], ◌∷◌, take, drop, Option, Some, None, codes, if◌then◌else◌, unwrap_or, option_map, option_and_then}
use Rattle.std.specs.List.{list_all, position}
use Rattle.std.specs.Str.{bytes_eq}
use Rattle.clap.specs.Words.{Row}
use Rattle.dt_base.specs.Assignment.{is_assignment}
use Rattle.dt_base.specs.Command.{Words}
use Rattle.dt_base.specs.Path.{has_no_nul}
use Rattle.dt_base.specs.declared.limits.TheConstants.{BUDGET_LIMIT}
use Rattle.dt_options.specs.declared.options.Options.{Options}
use Rattle.dt_options.specs.declared.options.Options.TheVariants.{Run, Export, Demo, Steps}
use Rattle.dt_options.specs.declared.options.RunOptions.{RunOptions}
use Rattle.dt_options.specs.declared.options.ExportOptions.{ExportOptions}
use Rattle.dt_options.specs.declared.options.DemoOptions.{DemoOptions}
use Rattle.dt_options.specs.declared.options.StepsOptions.{StepsOptions}
use Rattle.dt_options.specs.Arguments.{run_app, export_app, demo_app, steps_app, matched_rows, operand_in, number_in, default_seed, default_budget, default_workers, text_in}

-- what a run is asked to be: a folder with an image, the blob in it that standard input gives, the command that runs in it,
-- and numbers
pub record Request : Type 0 where
  pub image : List ℕ
  pub input : Option (List ℕ)
  pub command : Words
  pub seed : ℕ
  pub budget : ℕ
  pub workers : ℕ
  pub host : Option ℕ

-- what an export is asked to be: a run, and the folder that its last tree goes to
pub record ExportRequest : Type 0 where
  pub run : Request
  pub to : List ℕ

-- what a demonstration is asked to be
pub record DemoRequest : Type 0 where
  pub number : ℕ
  pub workers : ℕ
  pub host : Option ℕ

-- what steps are asked to be: a folder with an image, the file in it that lists their commands, and numbers for each step
pub record StepsRequest : Type 0 where
  pub image : List ℕ
  pub file : List ℕ
  pub seed : ℕ
  pub budget : ℕ
  pub workers : ℕ
  pub host : Option ℕ

-- what words may ask for
pub data Form : Type 0 where
  run_form : Request → Form
  export_form : ExportRequest → Form
  demo_form : DemoRequest → Form
  steps_form : StepsRequest → Form

-- ---- the words after `--`

-- the first word that sets no variable is the program; those before it are the environment
abbrev pub command_at : List (List ℕ) → Option ℕ → Option Words
command_at words None = None
command_at words (Some program) = Some (record { args = drop program words; env = take program words; input = [] })

-- the environment, the program and its arguments, where no word holds a NUL and a program is there
unfoldable pub command_in : List (List ℕ) → Option Words
command_in words =
    if list_all has_no_nul words then command_at words (position (λ word. not (is_assignment word)) words) else None

-- ---- all words

-- the request that both parts make
abbrev pub request : List Row → Words → Request
request rows command = record {
  image = operand_in (codes "image") rows;
  input = text_in (codes "stdin") rows;
  command = command;
  seed = unwrap_or (number_in (codes "seed") rows) default_seed;
  budget = unwrap_or (number_in (codes "budget") rows) default_budget;
  workers = unwrap_or (number_in (codes "workers") rows) default_workers;
  host = number_in (codes "host") rows;
}

-- what the words of a run before and after `--` ask for
abbrev pub request_in : List (List ℕ) → List (List ℕ) → Option Request
request_in before after = option_and_then (λ rows. option_map (request rows) (command_in after)) (matched_rows run_app before)

-- likewise of an export
abbrev pub export_request : List Row → Words → ExportRequest
export_request rows command = record { run = request rows command; to = operand_in (codes "to") rows }

abbrev pub export_in : List (List ℕ) → List (List ℕ) → Option ExportRequest
export_in before after = option_and_then (λ rows. option_map (export_request rows) (command_in after)) (matched_rows export_app before)

-- the demonstration of a number
abbrev pub demo_request : List Row → ℕ → DemoRequest
demo_request rows number = record {
  number = number;
  workers = unwrap_or (number_in (codes "workers") rows) default_workers;
  host = number_in (codes "host") rows;
}

-- what the words of a demonstration ask for
unfoldable pub demo_in : List (List ℕ) → Option DemoRequest
demo_in words =
    option_and_then (λ rows. option_map (demo_request rows) (number_in (codes "number") rows)) (matched_rows demo_app words)

-- the steps that a file lists
abbrev pub steps_request : List Row → StepsRequest
steps_request rows = record {
  image = operand_in (codes "image") rows;
  file = operand_in (codes "file") rows;
  seed = unwrap_or (number_in (codes "seed") rows) default_seed;
  budget = unwrap_or (number_in (codes "budget") rows) default_budget;
  workers = unwrap_or (number_in (codes "workers") rows) default_workers;
  host = number_in (codes "host") rows;
}

-- what the words of steps ask for
unfoldable pub steps_in : List (List ℕ) → Option StepsRequest
steps_in words = option_map steps_request (matched_rows steps_app words)

-- the first word is this one
abbrev pub begins_with : List ℕ → List (List ℕ) → Bool
begins_with name [] = false
begins_with name (word ∷ words) = bytes_eq word name

-- what words with a `--` ask for, by those before and after it: a run or an export
unfoldable pub form_with_command : List (List ℕ) → List (List ℕ) → Option Form
form_with_command before after =
    if begins_with (codes "run") before then option_map run_form (request_in before after)
    else (if begins_with (codes "export") before then option_map export_form (export_in before after) else None)

-- what words without a `--` ask for: a demonstration or steps
unfoldable pub form_without_command : List (List ℕ) → Option Form
form_without_command words =
    if begins_with (codes "demo") words then option_map demo_form (demo_in words)
    else (if begins_with (codes "steps") words then option_map steps_form (steps_in words) else None)

-- what words ask for, the first `--` of which has this index, if there is one
abbrev pub form_at : List (List ℕ) → Option ℕ → Option Form
form_at argv None = form_without_command argv
form_at argv (Some index) = form_with_command (take index argv) (drop (index + 1) argv)

-- what all words ask for
unfoldable pub form_of : List (List ℕ) → Option Form
form_of argv = form_at argv (position (λ word. bytes_eq word (codes "--")) argv)

-- ---- what the code has in hand

-- the request that a run's options hold
abbrev pub as_request : RunOptions → Request
as_request options = record {
  image = options.image;
  input = options.input;
  command = options.command;
  seed = options.seed;
  budget = options.budget;
  workers = options.workers;
  host = options.host;
}

-- an export's
abbrev pub as_export_request : ExportOptions → ExportRequest
as_export_request options = record { run = as_request options.run; to = options.to }

-- a demonstration's
abbrev pub as_demo_request : DemoOptions → DemoRequest
as_demo_request options = record { number = options.number; workers = options.workers; host = options.host }

-- and that of steps
abbrev pub as_steps_request : StepsOptions → StepsRequest
as_steps_request options = record {
  image = options.image;
  file = options.file;
  seed = options.seed;
  budget = options.budget;
  workers = options.workers;
  host = options.host;
}

-- the form that options hold
abbrev pub as_form : Options → Form
as_form (Run options) = run_form (as_request options)
as_form (Export options) = export_form (as_export_request options)
as_form (Demo options) = demo_form (as_demo_request options)
as_form (Steps options) = steps_form (as_steps_request options)

-- a budget is in its range
abbrev pub IsBudget : ℕ → Type 0
IsBudget budget = (1 ≤ budget) × (budget ≤ BUDGET_LIMIT)

-- the budget that options give is in its range; a demonstration is asked for none
abbrev pub HasBudget : Options → Type 0
HasBudget (Run options) = IsBudget options.budget
HasBudget (Export options) = IsBudget options.run.budget
HasBudget (Demo options) = Unit {0}
HasBudget (Steps options) = IsBudget options.budget

-- how many workers options ask for
abbrev pub workers_of : Options → ℕ
workers_of (Run options) = options.workers
workers_of (Export options) = options.run.workers
workers_of (Demo options) = options.workers
workers_of (Steps options) = options.workers
