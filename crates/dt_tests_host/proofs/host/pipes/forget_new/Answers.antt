use Rattle.dt_tests_host.proofs.Piped.{MayGo-made}
use Rattle.dt_tests_host.proofs.host.pipes.forget_new.Goals as goal

pub forget-requires : goal.forget-requires
forget-requires c = MayGo-made _ _ _ c.in_ok-pipe.ensures.legal
