use Rattle.dt_tests_host.proofs.Kept.{has_ends}
use Rattle.dt_tests_host.proofs.descriptors.scene.Scene.held.Goals as goal

pub held-requires : goal.held-requires
held-requires c = has_ends c.args.self.now.files c.args.self.now.tree c.args.self.now.host.view c.requires
