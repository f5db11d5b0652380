use Rattle.dt_tests_host.proofs.Started.{IsFile-writes}
use Rattle.dt_tests_host.proofs.host.file.write.Goals as goal

pub returns : goal.returns
returns c = IsFile-writes c.write_whole.result c.args.host.now.view c.write_whole.new.host.view c.args.file 0 c.args.bytes.now c.write_whole.ensures.legal
