-- The lemmas on soundness and on what others hold, by the words that functions name.
use Rattle.dt_callbase.proofs.Kept.{sound_kept, others_kept, serves_after, ends_after, reaches_same}

pub ruleset kept = (sound_kept, others_kept)

pub ruleset after_asking = (serves_after, ends_after)

pub ruleset in_other_words = (reaches_same)
