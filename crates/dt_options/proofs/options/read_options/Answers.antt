use Rattle.std.proofs.Common.{◌≡◌, Some, refl, sym, subst, ◌∙◌}
use Rattle.std.specs.Prelude.{string_bytes, IfOk}
use Rattle.dt_options.specs.Options.{as_form}
use Rattle.dt_options.proofs.Requests.{form_of-with_command, form_of-without_command}
use Rattle.dt_options.proofs.options.read_options.Goals as goal

pub returns-in-Some-clause-ok : goal.returns-in-Some-clause-ok
returns-in-Some-clause-ok c =
    subst (λ form. IfOk c.read_with_command.result (λ o. form ≡ Some (as_form o)))
    (sym (form_of-with_command string_bytes c.args.argv.now _ _ c.in-Some.index (sym c.dashes.ensures.value ∙ c.in-Some.is) refl c.after.ensures))
    c.read_with_command.ensures.ok

pub returns-in-Some-clause-refused : goal.returns-in-Some-clause-refused
returns-in-Some-clause-refused c = λ is.
    form_of-with_command string_bytes c.args.argv.now _ _ c.in-Some.index (sym c.dashes.ensures.value ∙ c.in-Some.is) refl c.after.ensures
    ∙ c.read_with_command.ensures.refused is

pub returns-in-None-clause-ok : goal.returns-in-None-clause-ok
returns-in-None-clause-ok c =
    subst (λ form. IfOk c.read_without_command.result (λ o. form ≡ Some (as_form o)))
    (sym (form_of-without_command string_bytes c.args.argv.now (sym c.dashes.ensures.value ∙ c.in-None.is)))
    c.read_without_command.ensures.ok

pub returns-in-None-clause-refused : goal.returns-in-None-clause-refused
returns-in-None-clause-refused c = λ is.
    form_of-without_command string_bytes c.args.argv.now (sym c.dashes.ensures.value ∙ c.in-None.is)
    ∙ c.read_without_command.ensures.refused is
