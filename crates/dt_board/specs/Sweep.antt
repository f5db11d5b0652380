-- A worker's sweep over the places.
use Rattle.std.specs.Prelude.{◌≡◌, ℕ, suc, ◌+◌, Bool, List, [], ◌∷◌, ◌++◌, length, cond, ◌==◌}
use Rattle.dt_board.specs.Board.{Try}
use Rattle.dt_board.specs.Passes.{WorkerPassView}

-- the tries that found these words, at the places from a given place on
abbrev pub tries_from : ℕ → List ℕ → List Try
tries_from place [] = []
tries_from place (word ∷ words) = (place, word) ∷ tries_from (suc place) words

-- how many of these words are 1
abbrev pub ones : List ℕ → ℕ
ones [] = 0
ones (word ∷ words) = cond (word == 1) 1 0 + ones words

-- after one place: one try is added at the end, nothing else of the pass changes, and `got` tells whether the try found 1
pub record IsVisit (place : ℕ) (old new : WorkerPassView) (got : Bool) : Type 0 where
  pub word : ℕ
  pub after : new ≡ record old { tries = old.tries ++ (place, word) ∷ [] }
  pub found : got ≡ (word == 1)

-- after so many places from 0 on: one try is added for each, in order, nothing else of the pass changes, and the answer
-- is how many of them found 1
pub record IsSweep (places : ℕ) (old new : WorkerPassView) (answer : ℕ) : Type 0 where
  pub words : List ℕ
  pub all : length words ≡ places
  pub after : new ≡ record old { tries = old.tries ++ tries_from 0 words }
  pub found : answer ≡ ones words
