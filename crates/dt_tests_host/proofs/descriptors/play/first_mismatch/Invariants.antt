use Rattle.dt_fds.specs.Backs.{IsBacked, at}
use Rattle.dt_tests_host.proofs.descriptors.play.first_mismatch.Given as goal

abbrev pub invariant-loop-index : goal.invariant-loop-index
invariant-loop-index l = IsBacked (at l.scene.files l.scene.tree l.scene.host.view)
