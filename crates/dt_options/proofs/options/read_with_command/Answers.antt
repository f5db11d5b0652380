use Rattle.std.proofs.Common.{◌∙◌, sym, rules}
use Rattle.dt_options.proofs.Requests.{with_command-run, with_command-export, with_command-none}
use Rattle.dt_options.proofs.options.read_with_command.Goals as goal

pub returns-in_err-read_run-clause-refused : goal.returns-in_err-read_run-clause-refused
returns-in_err-read_run-clause-refused c = λ is. with_command-run _ _ _ (sym c.begins_with.ensures ∙ c.if-begins_with.true) (c.in_err-read_run.ensures.refused (search rules))

pub returns-in_err-read_export-clause-refused : goal.returns-in_err-read_export-clause-refused
returns-in_err-read_export-clause-refused c = λ is. with_command-export _ _ _ (sym c.begins_with.ensures ∙ c.if-begins_with.false) (sym c.begins_with-else-begins_with.ensures ∙ c.if-begins_with-2.true) (c.in_err-read_export.ensures.refused (search rules))

pub returns-in_ok-read_run-clause-ok : goal.returns-in_ok-read_run-clause-ok
returns-in_ok-read_run-clause-ok c = with_command-run _ _ _ (sym c.begins_with.ensures ∙ c.if-begins_with.true) c.in_ok-read_run.ensures.ok

pub returns-in_ok-read_export-clause-ok : goal.returns-in_ok-read_export-clause-ok
returns-in_ok-read_export-clause-ok c = with_command-export _ _ _ (sym c.begins_with.ensures ∙ c.if-begins_with.false) (sym c.begins_with-else-begins_with.ensures ∙ c.if-begins_with-2.true) c.in_ok-read_export.ensures.ok

pub returns-else-begins_with-2-clause-refused : goal.returns-else-begins_with-2-clause-refused
returns-else-begins_with-2-clause-refused c = λ is. with_command-none _ _ (sym c.begins_with.ensures ∙ c.if-begins_with.false) (sym c.begins_with-else-begins_with.ensures ∙ c.if-begins_with-2.false)
