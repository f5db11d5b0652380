use Rattle.dt_host.proofs.Spots.{IsLive-IsFile}
use Rattle.dt_tests_host.proofs.host.file.raw_file.Goals as goal

pub raw-requires : goal.raw-requires
raw-requires c = IsLive-IsFile c.args.host.now.view.forest c.args.file c.requires
