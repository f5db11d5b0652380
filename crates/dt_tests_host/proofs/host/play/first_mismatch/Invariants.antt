use Rattle.dt_tests_host.specs.Subject.{IsOf}
use Rattle.dt_tests_host.proofs.host.play.first_mismatch.Given as goal

abbrev pub invariant-loop-index : goal.invariant-loop-index
invariant-loop-index l = IsOf l.scene.host.view l.scene.kind l.scene.number l.scene.most
