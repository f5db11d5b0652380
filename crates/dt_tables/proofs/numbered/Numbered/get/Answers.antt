use Rattle.std.proofs.Common.{sym, ap, ◌∙◌}
use Rattle.std.specs.FinMap.{get}
use Rattle.dt_tables.proofs.Kept.{get-kept}
use Rattle.dt_tables.proofs.numbered.Numbered.get.Goals as goal

pub returns : goal.returns
returns g c = c.get.ensures.value ∙ sym (get-kept c.self.inside.map c.args.n) ∙ ap (λ t. get t c.args.n) c.self.view_is
