use Rattle.dt_procs.proofs.Lowest.{lowest}
use Rattle.dt_procs.proofs.laws.wait_finds_the_lowest.Goals as goal

pub returns : goal.returns
returns c = lowest
