use Rattle.std.proofs.Common.{ap, subst, refl, map, ◌∙◌}
use Rattle.std.specs.Prelude.{string_bytes}
use Rattle.clap.specs.Words.{FailsBy, fault_of, is_simple_and_free}
use Rattle.dt_options.specs.Arguments.{app_with}
use Rattle.dt_options.proofs.options.arguments.read_steps_arguments.Goals as goal

pub returns-clause-refused : goal.returns-clause-refused
returns-clause-refused c =
    let same = c.in_ok-program.ensures ∙ ap app_with c.in_ok-steps_command.ensures.shape in
    subst (λ app. FailsBy (fault_of app (map string_bytes c.args.words.now)) c.try_get_matches_from.result) same
    (c.try_get_matches_from.ensures.kinds (ap is_simple_and_free same ∙ refl))
