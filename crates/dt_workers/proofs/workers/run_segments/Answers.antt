use Rattle.dt_workers.proofs.Kept.{slots-keep}
use Rattle.dt_workers.proofs.workers.run_segments.Goals as goal

-- segments leave machines well formed
pub returns-clause-sound : goal.returns-clause-sound
returns-clause-sound g c = slots-keep _ _ c.run_chunks.ensures
