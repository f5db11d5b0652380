-- A sweep grows by one place.
use Rattle.std.proofs.Common.{◌≡◌, ◌∙◌, ℕ, suc, ◌+◌, ◌≤◌, Bool, true, false, List, [], ◌∷◌, ◌++◌, length, cond, eqb, ap, sym, refl, arith, append_assoc, append-nil, length-append}
use Rattle.dt_board.specs.Passes.{WorkerPassView}
use Rattle.dt_board.specs.Sweep.{tries_from, ones, IsVisit, IsSweep}

tries_at-more : (p : ℕ) (ws : List ℕ) (w : ℕ) → tries_from p (ws ++ w ∷ []) ≡ tries_from p ws ++ (p + length ws, w) ∷ []
tries_at-more p [] w = let e : p + 0 ≡ p = omega arith in rw e refl
tries_at-more p (x ∷ xs) w = let e : p + length (x ∷ xs) ≡ suc p + length xs = omega arith in rw e (ap (λ l. (p, x) ∷ l) (tries_at-more (suc p) xs w))

ones-more : (ws : List ℕ) (w : ℕ) → ones (ws ++ w ∷ []) ≡ ones ws + cond (eqb w 1) 1 0
ones-more [] w = omega arith
ones-more (x ∷ xs) w = omega (arith, ones-more xs w)

pub swept_none : (old : WorkerPassView) → IsSweep 0 old old 0
swept_none old = record { words = []; all = refl; after = λ i. record old { tries = sym (append-nil old.tries) i }; found = refl }

pub swept_more : (place place' : ℕ) (old mid new : WorkerPassView) (answer answer' : ℕ) (got : Bool) → IsSweep place old mid answer → IsVisit place mid new got → place' ≡ place + 1 → answer' ≡ answer + cond got 1 0 → IsSweep place' old new answer'
swept_more place place' old mid new answer answer' got s t e f = record {
  words = s.words ++ t.word ∷ [];
  all = omega (arith, length-append s.words (t.word ∷ []), s.all, e);
  after = t.after ∙ (ap (λ (m : WorkerPassView). record m { tries = m.tries ++ (place, t.word) ∷ [] }) s.after ∙ λ i. record old { tries = (append_assoc old.tries (tries_from 0 s.words) ((place, t.word) ∷ []) ∙ ap (λ l. old.tries ++ l) same) i });
  found = f ∙ ((λ i. s.found i + cond (t.found i) 1 0) ∙ sym (ones-more s.words t.word));
}
  where
    here : place ≡ 0 + length s.words
    here = omega (arith, s.all)

    same : tries_from 0 s.words ++ (place, t.word) ∷ [] ≡ tries_from 0 (s.words ++ t.word ∷ [])
    same = ap (λ p. tries_from 0 s.words ++ (p, t.word) ∷ []) here ∙ sym (tries_at-more 0 s.words t.word)

at_most : (b : Bool) (n m : ℕ) → n ≤ m → cond b 1 0 + n ≤ suc m
at_most true n m h = omega arith
at_most false n m h = omega arith

pub ones_le : (ws : List ℕ) → ones ws ≤ length ws
ones_le [] = omega arith
ones_le (x ∷ xs) = at_most (eqb x 1) (ones xs) (length xs) (ones_le xs)
