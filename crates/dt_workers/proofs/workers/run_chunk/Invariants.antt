use Rattle.dt_workers.proofs.Chunks.{HasRun}
use Rattle.dt_workers.proofs.workers.run_chunk.Given as goal

-- those so far stand after their segments, and the others stand as they did
abbrev pub invariant-loop-index : goal.invariant-loop-index
invariant-loop-index g l = HasRun l.fn.chunk l.chunk l.index
