use Rattle.dt_host.proofs.Changes.{IsFile-made}
use Rattle.dt_tests_host.proofs.host.scene.Scene.at_file.Goals as goal

pub returns : goal.returns
returns c = IsFile-made _ _ _ c.in_ok-number.ensures.legal
