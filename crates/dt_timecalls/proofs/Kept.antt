-- The lemmas on what a call reaches, by the word that functions name.
use Rattle.dt_callbase.proofs.Kept.{reaches_same, reaches_caller}

pub ruleset in_other_words = (reaches_same, reaches_caller)
