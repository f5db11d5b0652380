use Rattle.std.proofs.Common.{sym, ap, subst, ◌∙◌}
use Rattle.std.specs.Prelude.{IsSome}
use Rattle.std.specs.FinMap.{get, insert}
use Rattle.dt_tables.proofs.Kept.{get-kept, put-kept}
use Rattle.dt_tables.proofs.numbered.Numbered.set.Goals as goal

pub replace-requires : goal.replace-requires
replace-requires g c = subst (λ found. IsSome found) (sym (ap (λ t. get t c.args.n) c.self.view_is) ∙ get-kept c.self.inside.map c.args.n) c.requires

pub returns : goal.returns
returns g c =
    put-kept c.self.inside.map c.replace.new.map c.args.n c.args.x c.replace.ensures.here c.replace.ensures.others
    ∙ ap (λ m. insert m c.args.n c.args.x) c.self.view_is
