use Rattle.dt_host.proofs.Spots.{IsLive-IsDir}
use Rattle.dt_tests_host.proofs.host.directory.raw_dir.Goals as goal

pub raw-requires : goal.raw-requires
raw-requires c = IsLive-IsDir c.args.host.now.view.forest c.args.dir c.requires
