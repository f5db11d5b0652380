use Rattle.dt_tests_host.proofs.Started.{IsFile-cuts}
use Rattle.dt_tests_host.proofs.host.file.cut.Goals as goal

pub returns : goal.returns
returns c = IsFile-cuts c.cut.result c.args.host.now.view c.cut.new.self.view c.args.file c.args.length c.cut.ensures.legal c.requires
