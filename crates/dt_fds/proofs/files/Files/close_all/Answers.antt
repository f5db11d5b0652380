use Rattle.std.proofs.Common.{arith, ◌≡◌, ap, ◌∙◌}
use Rattle.dt_fds.specs.declared.desc.TheConstants.{DESCRIPTOR_LIMIT}
use Rattle.dt_fds.specs.Holding.{without_descriptors_below}
use Rattle.dt_fds.specs.Backs.{at, holding_at}
use Rattle.dt_fds.proofs.Slots.{closed-next}
use Rattle.dt_fds.proofs.Backing.{KeepsOthers-then}
use Rattle.dt_fds.proofs.files.Files.close_all.Goals as goal

pub loop-fd-preserved : goal.loop-fd-preserved
loop-fd-preserved g c =
    let left = c.in_ok-free_slot.ensures in
    record {
      made = closed-next c.args.pid c.loop-fd.fd _ _ _ c.loop-fd.invariant.made left.made;
      backed = left.backed;
      others = KeepsOthers-then c.args.pid _ _ _ c.loop-fd.invariant.others left.others;
      rest = left.rest ∙ c.loop-fd.invariant.rest;
      later = omega (arith, c.loop-fd.invariant.later, left.cause.later);
    }

pub returns : goal.returns
returns g c =
    let all : c.loop-fd.fd ≡ DESCRIPTOR_LIMIT = omega (arith, c.loop-fd.auto.fd-end, c.loop-fd-test.false) in
    record {
      made = c.loop-fd.invariant.made ∙ ap (λ n. without_descriptors_below c.args.pid n (holding_at (at c.args.self.now c.args.tree.now (g.H.Host.view c.args.host.now)))) all;
      backed = c.loop-fd.invariant.backed;
      others = c.loop-fd.invariant.others;
      rest = c.loop-fd.invariant.rest;
      cause = record { later = c.loop-fd.invariant.later; rose = λ failed. cc };
    }
