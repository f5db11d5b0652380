use Rattle.dt_fds.specs.Backs.{IsBacked, at}
use Rattle.dt_tests_host.proofs.descriptors.scene.Scene.close_each.Given as goal

abbrev pub invariant-loop-fd : goal.invariant-loop-fd
invariant-loop-fd l = IsBacked (at l.self.files l.self.tree l.self.host.view)
