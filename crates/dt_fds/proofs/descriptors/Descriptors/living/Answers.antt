use Rattle.std.proofs.Common.{◌≡◌, Some, sym, subst}
use Rattle.std.specs.Prelude.{IsSome}
use Rattle.std.specs.FinMap.{get}
use Rattle.dt_fds.specs.Descriptions.{slot_at}
use Rattle.dt_fds.proofs.Counting.{counts-living}
use Rattle.dt_fds.proofs.descriptors.Descriptors.living.Goals as goal

pub returns : goal.returns
unfolding slot_at
returns c =
    let at = sym c.self.view_is in
    subst (λ f. IsSome (get f.descs c.args.slot.number)) c.self.view_is
    (counts-living _ c.self.inside.counts _ c.self.inside.next c.args.pid c.args.fd c.args.slot c.self.invariant
    (subst (λ f. slot_at f c.args.pid c.args.fd ≡ Some c.args.slot) at c.requires.here))
