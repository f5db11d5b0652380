use Rattle.std.proofs.Common.{sym, ap, ◌∙◌}
use Rattle.std.specs.Prelude.{unwrap_or}
use Rattle.std.specs.FinMap.{get}
use Rattle.dt_tree.proofs.Kept.{get-kept}
use Rattle.dt_tree.proofs.tree.Tree.vino.Goals as goal

pub returns : goal.returns
returns c =
    c.unwrap_or.ensures
    ∙ ap (λ found. unwrap_or found 0) (c.copied.ensures ∙ c.get.ensures.value ∙ sym (get-kept c.self.inside.by_real c.args.real) ∙ ap (λ t. get t.by_real c.args.real) c.self.view_is)
