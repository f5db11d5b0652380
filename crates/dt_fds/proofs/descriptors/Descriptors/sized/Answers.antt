use Rattle.std.proofs.Common.{◌≡◌, length, sym, subst}
use Rattle.std.specs.Prelude.{IsSome}
use Rattle.std.specs.FinMap.{get}
use Rattle.dt_fds.specs.declared.desc.TheConstants.{DESCRIPTOR_LIMIT}
use Rattle.dt_fds.specs.Descriptions.{table_at}
use Rattle.dt_fds.proofs.Counting.{length_in}
use Rattle.dt_fds.proofs.descriptors.Descriptors.sized.Goals as goal

pub returns : goal.returns
returns c =
    subst (λ f. length (table_at f c.args.pid) ≡ DESCRIPTOR_LIMIT) c.self.view_is
    (length_in _ c.args.pid c.self.invariant.sized (subst (λ f. IsSome (get f.tables c.args.pid)) (sym c.self.view_is) c.requires))
