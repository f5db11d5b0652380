use Rattle.std.proofs.Common.{◌∙◌, ap, sym}
use Rattle.std.proofs.Math.Bool.{not-not}
use Rattle.std.specs.Prelude.{not}
use Rattle.dt_iocalls.proofs.entries.is_removed.Goals as goal

pub returns : goal.returns
returns c v stands is =
    sym (not-not c.is_none.result)
    ∙ ap not (sym c.is_none.ensures ∙ c.dot_dot.ensures.removed v stands is)
    ∙ not-not _
