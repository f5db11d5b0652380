-- The rules of scenes, for the functions of this crate.
use Rattle.dt_callbase.proofs.Kept.{sound_kept, others_kept, serves_after, ends_after, reaches_same, reaches_caller}

pub ruleset kept = (sound_kept, others_kept)

pub ruleset after_asking = (serves_after, ends_after)

pub ruleset in_other_words = (reaches_same, reaches_caller)
