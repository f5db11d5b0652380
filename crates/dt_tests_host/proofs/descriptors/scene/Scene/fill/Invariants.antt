use Rattle.dt_fds.specs.Backs.{IsBacked, at}
use Rattle.dt_tests_host.proofs.descriptors.scene.Scene.fill.Given as goal

abbrev pub invariant-loop-count : goal.invariant-loop-count
invariant-loop-count l = IsBacked (at l.self.files l.self.tree l.self.host.view)
