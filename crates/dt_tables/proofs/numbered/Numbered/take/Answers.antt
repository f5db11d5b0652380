use Rattle.std.proofs.Common.{sym, ap, ◌∙◌}
use Rattle.std.specs.FinMap.{get, remove}
use Rattle.dt_tables.proofs.Kept.{get-kept, remove-kept, unequal}
use Rattle.dt_tables.proofs.numbered.Numbered.take.Goals as goal

pub returns-clause-found : goal.returns-clause-found
returns-clause-found g c = c.remove.ensures.value ∙ sym (get-kept c.self.inside.map c.args.n) ∙ ap (λ t. get t c.args.n) c.self.view_is

pub returns-clause-map : goal.returns-clause-map
returns-clause-map g c =
    remove-kept c.self.inside.map c.remove.new.self c.args.n c.remove.ensures.updates.1 (λ q apart. c.remove.ensures.updates.2 q (unequal c.args.n q apart))
    ∙ ap (λ m. remove m c.args.n) c.self.view_is
