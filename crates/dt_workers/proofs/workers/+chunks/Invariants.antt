use Prim.Native.Nat.{◌+◌, ◌*◌}
use lib.ListN.{length}
use Rattle.dt_workers.proofs.workers.+chunks.Given as goal

abbrev pub decreases-run_chunks : goal.decreases-run_chunks
decreases-run_chunks g l = 3 * length l.slots.now

abbrev pub decreases-run_beside : goal.decreases-run_beside
decreases-run_beside g l = 3 * length l.others.now + 2

abbrev pub decreases-run_beside-rest : goal.decreases-run_beside-rest
decreases-run_beside-rest g l = 3 * length l.others.now + 1
