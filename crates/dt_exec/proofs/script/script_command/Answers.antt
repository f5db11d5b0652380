use Rattle.std.proofs.Common.{◌<◌, ◌++◌, length, sym, ap, subst, ◌∙◌, arith}
use Rattle.std.specs.Prelude.{IsTrue}
use Rattle.std.specs.List.{list_all}
use Rattle.dt_base.specs.Path.{has_no_nul}
use Rattle.dt_exec.proofs.NoNul.{args-no_nul}
use Rattle.dt_exec.proofs.script.script_command.Goals as goal

pub new-requires : goal.new-requires
new-requires c =
    let env = c.in_ok-push_copies.ensures ∙ ap (λ e. e ++ c.env.result.now) c.new-env.ensures.items ∙ c.env.ensures.env in
    record {
      some = subst (λ words. 0 < length words) (sym c.in_ok-args.ensures) (omega arith);
      args = subst (λ words. IsTrue (list_all has_no_nul words)) (sym c.in_ok-args.ensures)
          (args-no_nul c.args.script c.args.path.now c.args-2.result.now c.requires.script c.requires.path
          (subst (λ words. IsTrue (list_all has_no_nul words)) (sym c.args-2.ensures.args) c.args-2.ensures.good.args));
      env = subst (λ words. IsTrue (list_all has_no_nul words)) (sym env) c.env.ensures.good.env;
    }
