use Rattle.std.proofs.Common.{sym, subst}
use Rattle.dt_fds.specs.Backs.{KeepsNodes}
use Rattle.dt_fds.proofs.Backing.{KeepsNodes-with_slot}
use Rattle.dt_fds.proofs.descriptors.Descriptors.dup.Goals as goal

pub returns-in_ok-share-in-Some-free-clause-nodes : goal.returns-in_ok-share-in-Some-free-clause-nodes
returns-in_ok-share-in-Some-free-clause-nodes c =
    subst (KeepsNodes c.args.pid c.args.self.now) (sym c.in_ok-share-in-Some-free.ensures.files) (KeepsNodes-with_slot c.args.self.now c.args.pid c.in-Some-free.new _)
