use Rattle.std.proofs.Common.{sym, ap, subst, ◌∙◌}
use Rattle.std.specs.Prelude.{IsSome}
use Rattle.std.specs.FinMap.{get, insert}
use Rattle.dt_tables.proofs.Kept.{get-kept, put-kept}
use Rattle.dt_tables.proofs.numbered.Numbered.swap.Goals as goal

pub exchange-requires : goal.exchange-requires
exchange-requires g c = subst (λ found. IsSome found) (sym (ap (λ t. get t c.args.n) c.self.view_is) ∙ get-kept c.self.inside.map c.args.n) c.requires

pub returns-clause-found : goal.returns-clause-found
returns-clause-found g c = sym (sym (get-kept c.self.inside.map c.args.n) ∙ ap (λ t. get t c.args.n) c.self.view_is) ∙ c.exchange.ensures.found

pub returns-clause-map : goal.returns-clause-map
returns-clause-map g c =
    put-kept c.self.inside.map c.exchange.new.map c.args.n c.args.x c.exchange.ensures.here c.exchange.ensures.others
    ∙ ap (λ m. insert m c.args.n c.args.x) c.self.view_is
