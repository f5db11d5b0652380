use Rattle.std.proofs.Common.{ap, ◌∙◌}
use Rattle.dt_fds.specs.declared.desc.TheConstants.{DESCRIPTOR_LIMIT}
use Rattle.dt_fds.specs.Descriptions.{slot_at}
use Rattle.dt_fds.specs.Backs.{at, holding_at}
use Rattle.dt_fds.proofs.Slots.{slot-closed}
use Rattle.dt_fds.proofs.files.Files.drop_all.Goals as goal

pub forget-requires : goal.forget-requires
forget-requires g c = λ fd less.
    ap (λ h. slot_at h.files c.args.pid fd) c.in_ok-close_all.ensures.made
    ∙ slot-closed c.args.pid DESCRIPTOR_LIMIT (holding_at (at c.args.self.now c.args.tree.now (g.H.Host.view c.args.host.now))) fd less
