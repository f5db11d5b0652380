use Rattle.std.proofs.Common.{ap, ◌∙◌}
use Rattle.std.specs.FinMap.{insert}
use Rattle.dt_tables.proofs.Kept.{put-kept, unequal}
use Rattle.dt_tables.proofs.numbered.Numbered.put.Goals as goal

pub returns-clause-ok : goal.returns-clause-ok
returns-clause-ok g c =
    let updates = c.in_ok-insert.ensures.updates in
    put-kept c.self.inside.map c.insert.new.self c.args.n c.args.x updates.1 (λ q apart. updates.2 q (unequal c.args.n q apart))
    ∙ ap (λ m. insert m c.args.n c.args.x) c.self.view_is
