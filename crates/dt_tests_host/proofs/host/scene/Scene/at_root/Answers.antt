use Rattle.dt_tests_host.proofs.Started.{IsDir-root}
use Rattle.dt_tests_host.proofs.host.scene.Scene.at_root.Goals as goal

pub returns : goal.returns
returns c = IsDir-root c.args.host.view c.root.new.self.view c.in_ok-number.number c.requires c.in_ok-number.ensures.stays c.in_ok-number.ensures.ok
