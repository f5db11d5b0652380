use Rattle.std.proofs.Common.{ap, ◌∙◌}
use Rattle.std.specs.Prelude.{None, replicate}
use Rattle.std.specs.FinMap.{empty, insert}
use Rattle.dt_fds.specs.declared.desc.TheConstants.{DESCRIPTOR_LIMIT}
use Rattle.dt_fds.proofs.Counting.{counts-alike}
use Rattle.dt_fds.proofs.Starting.{counts-none}
use Rattle.dt_fds.proofs.descriptors.Descriptors.none.Goals as goal

pub invariant_of-result : goal.invariant_of-result
invariant_of-result c =
    counts-alike _ _ _ _ _ _ 1 c.new.ensures c.new-2.ensures
    (c.in_ok-put.ensures.ok ∙ ap (λ m. insert m c.from.result (replicate DESCRIPTOR_LIMIT None)) c.new-tables.ensures ∙ ap (λ p. insert empty p (replicate DESCRIPTOR_LIMIT None)) c.from.ensures)
    (counts-none c.args.pid)
