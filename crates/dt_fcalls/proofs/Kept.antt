-- The lemmas on soundness and on what others hold, by the words that functions name.
use Rattle.dt_callbase.proofs.Kept.{sound_kept, others_kept, sound_held, others_held, backed_sound, serves_after, ends_after, reaches_next, reaches_same, reaches_caller}

pub ruleset kept = (sound_kept, others_kept)

pub ruleset holding_kept = (sound_held, others_held, backed_sound)

pub ruleset after_asking = (serves_after, ends_after)

pub ruleset in_other_words = (reaches_same, reaches_caller)

pub ruleset goes_on = (reaches_next)
