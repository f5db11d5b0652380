use Rattle.std.proofs.Common.{◌==◌, ◌&&◌, not, sym, ap, ◌∙◌}
use Rattle.std.specs.List.{list_any}
use Rattle.dt_runlaws.specs.Shown.{lent_pids}
use Rattle.dt_runlaws.specs.Driver.{lent_of}
use Rattle.dt_runlaws.proofs.Points.{any-pid}
use Rattle.dt_runlaws.proofs.driver.Driver.may_lend.Goals as goal

pub returns-then-owes : goal.returns-then-owes
returns-then-owes c = λ w.
    let items = c.args.self.now.lent.items in
    let p = c.args.vpid in
    ap not (c.is_lent.ensures ∙ any-pid items p)
    ∙ ap (λ owes. owes && not (list_any (λ q. q == p) (lent_pids (lent_of items)))) (sym c.if-owes.true ∙ c.owes.ensures w)
