-- Words that are taken one after another.
use Rattle.std.proofs.Common.{◌≡◌, ℕ, zero, suc, ◌+◌, [], ◌∷◌, ◌++◌, refl, ap, ◌∙◌, add-one}
use Rattle.dt_memhost.specs.Picks.{Picks, next_pick, next_words, after_words}

one_word_more : (n : ℕ) (p : Picks) → next_words (suc n) p ≡ next_words n p ++ (next_pick (after_words n p)).0 ∷ []
unfolding next_words after_words
one_word_more zero p = refl
one_word_more (suc n) p = ap (λ words. (next_pick p).0 ∷ words) (one_word_more n (next_pick p).1)

one_word_less : (n : ℕ) (p : Picks) → after_words (suc n) p ≡ (next_pick (after_words n p)).1
unfolding after_words
one_word_less zero p = refl
one_word_less (suc n) p = one_word_less n (next_pick p).1

-- the last of so many words, and what is left after it
pub next_words-push : (n : ℕ) (p : Picks) → next_words (n + 1) p ≡ next_words n p ++ (next_pick (after_words n p)).0 ∷ []
next_words-push n p = ap (λ m. next_words m p) (add-one n) ∙ one_word_more n p

pub after_words-push : (n : ℕ) (p : Picks) → after_words (n + 1) p ≡ (next_pick (after_words n p)).1
after_words-push n p = ap (λ m. after_words m p) (add-one n) ∙ one_word_less n p
