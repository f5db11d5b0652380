use Rattle.std.proofs.Common.{arith}
use Rattle.dt_tests_host.proofs.host.scene.Scene.at_pipe.Goals as goal

pub returns : goal.returns
returns c = record { pipe = c.in_ok-number.ensures.pipe; most = omega (arith, c.in_ok-number.ensures.empty) }
