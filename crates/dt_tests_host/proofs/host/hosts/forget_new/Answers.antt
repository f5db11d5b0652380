use Rattle.dt_tests_host.proofs.Started.{MayGo-file}
use Rattle.dt_tests_host.proofs.host.hosts.forget_new.Goals as goal

pub forget-requires : goal.forget-requires
forget-requires c = MayGo-file _ _ _ c.requires c.in_ok-file.ensures.legal
