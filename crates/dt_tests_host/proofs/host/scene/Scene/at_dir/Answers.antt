use Rattle.dt_host.proofs.Changes.{IsDir-new}
use Rattle.dt_tests_host.proofs.host.scene.Scene.at_dir.Goals as goal

pub returns : goal.returns
returns c = IsDir-new _ _ _ c.in_ok-number.ensures.legal
