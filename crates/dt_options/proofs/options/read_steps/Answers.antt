use Rattle.std.proofs.Common.{◌∙◌, ap, rules}
use Rattle.std.specs.Prelude.{option_map}
use Rattle.clap.specs.Words.{found_of, rows_of}
use Rattle.dt_options.specs.Arguments.{steps_app}
use Rattle.dt_options.proofs.Ranges.{steps_budget_within, steps_workers_within}
use Rattle.dt_options.proofs.Matches.{matched-refused, matched-taken}
use Rattle.dt_options.proofs.Requests.{steps_in-none, steps_in-some}
use Rattle.dt_options.proofs.options.read_steps.Goals as goal

pub returns-in_err-matches-clause-refused : goal.returns-in_err-matches-clause-refused
returns-in_err-matches-clause-refused c = λ is. steps_in-none _ (matched-refused steps_app _ c.in_err-matches.field-0.0 c.in_err-matches.ensures.refused (search rules))

pub returns-in_default-clause-refused : goal.returns-in_default-clause-refused
returns-in_default-clause-refused c = λ is. steps_in-none _ (matched-taken steps_app _ c.in_ok-matches.matches _ c.in_ok-matches.ensures.refused c.in_ok-matches.ensures.exact c.subcommand.ensures.rows ∙ ap (option_map (λ p. rows_of (found_of p.1.now))) c.in_default.is)

pub returns-clause-ok : goal.returns-clause-ok
returns-clause-ok c = steps_in-some _ (rows_of (found_of c.in-Some.steps.now)) _ (matched-taken steps_app _ c.in_ok-matches.matches _ c.in_ok-matches.ensures.refused c.in_ok-matches.ensures.exact c.subcommand.ensures.rows ∙ ap (option_map (λ p. rows_of (found_of p.1.now))) c.in-Some.is) (search rules)

pub returns-clause-budget : goal.returns-clause-budget
returns-clause-budget c = steps_budget_within _ (rows_of (found_of c.in-Some.steps.now)) _ (matched-taken steps_app _ c.in_ok-matches.matches _ c.in_ok-matches.ensures.refused c.in_ok-matches.ensures.exact c.subcommand.ensures.rows ∙ ap (option_map (λ p. rows_of (found_of p.1.now))) c.in-Some.is) (search rules)

pub returns-clause-workers : goal.returns-clause-workers
returns-clause-workers c = steps_workers_within _ (rows_of (found_of c.in-Some.steps.now)) _ (matched-taken steps_app _ c.in_ok-matches.matches _ c.in_ok-matches.ensures.refused c.in_ok-matches.ensures.exact c.subcommand.ensures.rows ∙ ap (option_map (λ p. rows_of (found_of p.1.now))) c.in-Some.is) (search rules)
