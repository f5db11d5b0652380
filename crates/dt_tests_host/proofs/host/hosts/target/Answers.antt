use Rattle.dt_host.proofs.Changes.{IsLink-new}
use Rattle.dt_tests_host.proofs.host.hosts.target.Goals as goal

pub target-requires : goal.target-requires
target-requires c = IsLink-new _ _ _ _ c.in_ok-link.ensures.legal
