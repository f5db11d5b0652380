use Rattle.std.proofs.Common.{◌≡◌, None, [], sym, ap, subst, ◌∙◌}
use Rattle.std.specs.Prelude.{IfSome, unwrap_or}
use Rattle.std.specs.FinMap.{get}
use Rattle.dt_fds.specs.Descriptions.{slot_at, lowest_free, table_at}
use Rattle.dt_fds.proofs.Slots.{free-slot_at}
use Rattle.dt_fds.proofs.descriptors.Descriptors.free.Goals as goal

pub returns-in-Some-clause-free : goal.returns-in-Some-clause-free
returns-in-Some-clause-free c =
    let same = c.first_free.ensures.value ∙ ap (λ found. lowest_free (unwrap_or found []) c.args.from) (c.in-Some.ensures ∙ c.get.ensures ∙ ap (get c.self.inside.tables) c.from.ensures) ∙ ap (λ f. lowest_free (table_at f c.args.pid) c.args.from) c.self.view_is in
    subst (λ found. IfSome found (λ fd. slot_at c.args.self.now c.args.pid fd ≡ None)) (sym same) (free-slot_at c.args.self.now c.args.pid c.args.from)
