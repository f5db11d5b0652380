use Rattle.std.proofs.Common.{◌≡◌, None, refl, sym, ap, subst, ◌∙◌}
use Rattle.std.specs.Prelude.{replicate}
use Rattle.std.specs.FinMap.{get, insert}
use Rattle.dt_fds.specs.declared.desc.TheConstants.{DESCRIPTOR_LIMIT}
use Rattle.dt_fds.proofs.Counting.{counts-alike}
use Rattle.dt_fds.proofs.Starting.{counts-begun}
use Rattle.dt_fds.proofs.descriptors.Descriptors.begin.Goals as goal

pub invariant_of-self-2 : goal.invariant_of-self-2
invariant_of-self-2 c =
    counts-alike _ _ _ _ _ _ c.self.inside.next refl refl
    (c.in_ok-put.ensures.ok ∙ ap (λ p. insert c.self.inside.tables p (replicate DESCRIPTOR_LIMIT None)) c.from.ensures)
    (counts-begun _ c.self.inside.counts _ _ c.args.pid (subst (λ f. get f.tables c.args.pid ≡ None) (sym c.self.view_is) c.requires) c.self.invariant)
