use Rattle.std.proofs.Common.{◌+◌, ◌*◌, length}
use Rattle.dt_rounds.proofs.crew.+sweeps.Given as goal

abbrev pub decreases-rest : goal.decreases-rest
decreases-rest g l = 2 * length l.others.now + 1

abbrev pub decreases-sweep_all : goal.decreases-sweep_all
decreases-sweep_all g l = 2 * length l.crew.now
