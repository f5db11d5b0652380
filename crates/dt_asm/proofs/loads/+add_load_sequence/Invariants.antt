use Rattle.std.specs.Prelude.{unsigned_abs}
use Rattle.dt_asm.proofs.loads.+add_load_sequence.Given as goal

abbrev pub decreases-add_load_sequence : goal.decreases-add_load_sequence
decreases-add_load_sequence l = unsigned_abs l.number
