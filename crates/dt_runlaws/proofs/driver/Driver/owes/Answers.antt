use Rattle.std.proofs.Common.{◌==◌, ap, ◌∙◌}
use Rattle.std.specs.List.{list_any}
use Rattle.dt_runlaws.proofs.driver.Driver.owes.Goals as goal

pub returns : goal.returns
returns c = λ w. c.contains.ensures.value ∙ ap (λ ps. list_any (λ q. q == c.args.vpid) ps) (c.owing.ensures w)
