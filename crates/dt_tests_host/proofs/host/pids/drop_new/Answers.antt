use Rattle.dt_tests_host.proofs.Started.{live-pid}
use Rattle.dt_tests_host.proofs.host.pids.drop_new.Goals as goal

pub drop_pid-requires : goal.drop_pid-requires
drop_pid-requires c = live-pid _ _ _ c.in_ok-pid.ensures.legal
