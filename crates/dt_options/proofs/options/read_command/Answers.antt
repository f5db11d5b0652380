use Rattle.std.proofs.Common.{◌≡◌, ◌∙◌, ap, sym, rules, true, map}
use Rattle.std.specs.Prelude.{string_bytes}
use Rattle.std.specs.List.{list_all}
use Rattle.dt_base.specs.Path.{has_no_nul}
use Rattle.dt_options.proofs.Requests.{command-nul, command-none, command-some, command-good}
use Rattle.dt_options.proofs.options.read_command.Goals as goal

pub returns-then-not-have_no_nul-clause-refused : goal.returns-then-not-have_no_nul-clause-refused
returns-then-not-have_no_nul-clause-refused c = λ is. command-nul string_bytes c.args.words.now (search rules)

pub returns-in_default-clause-refused : goal.returns-in_default-clause-refused
returns-in_default-clause-refused c = λ is. command-none string_bytes c.args.words.now (sym c.program.ensures.value ∙ c.in_default.is)

pub new-requires : goal.new-requires
new-requires c =
    let good : list_all (λ word. has_no_nul (string_bytes word)) c.args.words.now ≡ true = search rules in
    command-good string_bytes c.args.words.now c.in-Some.program _ _ good c.in-Some.ensures.within
    (c.in_ok-blobs.ensures ∙ ap (map string_bytes) c.split_at.ensures.back)
    (c.in_ok-blobs-2.ensures ∙ ap (map string_bytes) c.split_at.ensures.front)

pub returns-clause-ok : goal.returns-clause-ok
returns-clause-ok c =
    let good : list_all (λ word. has_no_nul (string_bytes word)) c.args.words.now ≡ true = search rules in
    command-some string_bytes c.args.words.now c.in-Some.program c.new.result good (sym c.program.ensures.value ∙ c.in-Some.is)
    (c.new.ensures.args ∙ (c.in_ok-blobs.ensures ∙ ap (map string_bytes) c.split_at.ensures.back))
    (c.new.ensures.env ∙ (c.in_ok-blobs-2.ensures ∙ ap (map string_bytes) c.split_at.ensures.front))
    c.new.ensures.input
