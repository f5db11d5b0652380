use Rattle.std.proofs.Common.{◌∙◌, sym, rules}
use Rattle.dt_options.proofs.Requests.{without_command-demo, without_command-steps, without_command-none}
use Rattle.dt_options.proofs.options.read_without_command.Goals as goal

pub returns-in_err-read_demo-clause-refused : goal.returns-in_err-read_demo-clause-refused
returns-in_err-read_demo-clause-refused c = λ is. without_command-demo _ _ (sym c.begins_with.ensures ∙ c.if-begins_with.true) (c.in_err-read_demo.ensures.refused (search rules))

pub returns-in_err-read_steps-clause-refused : goal.returns-in_err-read_steps-clause-refused
returns-in_err-read_steps-clause-refused c = λ is. without_command-steps _ _ (sym c.begins_with.ensures ∙ c.if-begins_with.false) (sym c.begins_with-else-begins_with.ensures ∙ c.if-begins_with-2.true) (c.in_err-read_steps.ensures.refused (search rules))

pub returns-in_ok-read_demo-clause-ok : goal.returns-in_ok-read_demo-clause-ok
returns-in_ok-read_demo-clause-ok c = without_command-demo _ _ (sym c.begins_with.ensures ∙ c.if-begins_with.true) c.in_ok-read_demo.ensures.ok

pub returns-in_ok-read_steps-clause-ok : goal.returns-in_ok-read_steps-clause-ok
returns-in_ok-read_steps-clause-ok c = without_command-steps _ _ (sym c.begins_with.ensures ∙ c.if-begins_with.false) (sym c.begins_with-else-begins_with.ensures ∙ c.if-begins_with-2.true) c.in_ok-read_steps.ensures.ok

pub returns-else-begins_with-2-clause-refused : goal.returns-else-begins_with-2-clause-refused
returns-else-begins_with-2-clause-refused c = λ is. without_command-none _ (sym c.begins_with.ensures ∙ c.if-begins_with.false) (sym c.begins_with-else-begins_with.ensures ∙ c.if-begins_with-2.false)
