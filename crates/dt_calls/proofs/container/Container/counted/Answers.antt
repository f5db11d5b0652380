use Rattle.std.proofs.Common.{subst}
use Rattle.dt_procs.specs.Table.{IsTable}
use Rattle.dt_calls.specs.InCode.{ContainerView}
use Rattle.dt_calls.proofs.Few.{few-places}
use Rattle.dt_calls.proofs.container.Container.counted.Goals as goal

pub returns : goal.returns
returns c = few-places c.args.self.now.places c.args.self.now.shared.tasks c.args.self.now.shared.pids (subst (λ (v : ContainerView). IsTable v.shared.pids) c.self.view_is c.next-next.ensures.sound) c.requires.paired c.requires.live
