-- What a claim and a take answer, and what they leave of the pass.
use Rattle.std.specs.Prelude.{◌≡◌, ◌≢◌, ℕ, true, false, [], ◌∷◌, ◌++◌, ◌⊎◌, slice_set, Some}
use Rattle.dt_board.specs.Job.{finished}
use Rattle.dt_board.specs.Passes.{EnginePassView, WorkerPassView}
use Rattle.dt_board.specs.declared.board.Claim.{Claim}
use Rattle.dt_board.specs.declared.board.Claim.TheVariants.{Got, Nothing}
use Rattle.dt_board.specs.declared.board.Taken.{Taken}
use Rattle.dt_board.specs.declared.board.Taken.TheVariants.{Stopped, NotYet}

-- where it found 1, a worker has an open job and has claimed the place; else the answer is the word that it found. One
-- try is added at the end
abbrev pub IsClaimResult : ℕ → WorkerPassView → Claim → WorkerPassView → Type 0
IsClaimResult place old (Got job) new =
    (finished job ≡ false)
    × (new ≡ record old { claimed = Some place; tries = old.tries ++ (place, 1) ∷ [] })
IsClaimResult place old (Nothing word) new =
    (word ≢ 1) × (new ≡ record old { tries = old.tries ++ (place, word) ∷ [] })

-- where it found 3, the engine has a finished job and the place is free; else the answer is the word that it found, 1
-- or 2. One try is added at the end
abbrev pub IsTakeResult : ℕ → EnginePassView → Taken → EnginePassView → Type 0
IsTakeResult place old (Stopped job) new =
    (finished job ≡ true)
    × (new ≡ record old { puts = slice_set old.puts place false; tries = old.tries ++ (place, 3) ∷ [] })
IsTakeResult place old (NotYet word) new =
    ((word ≡ 1) ⊎ (word ≡ 2)) × (new ≡ record old { tries = old.tries ++ (place, word) ∷ [] })
