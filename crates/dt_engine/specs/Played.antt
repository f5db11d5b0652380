-- Happenings in any order: as many of them as may happen, and what they lead to.
use Rattle.std.specs.Prelude.{◌≡◌, ℕ, zero, suc, ◌+◌, List, [], ◌∷◌, take, if◌then◌else◌}
use Rattle.dt_engine.specs.declared.happening.Happening.{Happening}
use Rattle.dt_engine.specs.declared.happening.Happening.TheVariants.{Ran, Admit}
use Rattle.dt_engine.specs.Playing.{Playing, playing_with_all_segments}
use Rattle.dt_engine.specs.Happenings.{Step, no_step, step_then, may_happen, step_of, step_of_turn}

-- how many have happened, and what they led to
pub record Played : Type 0 where
  pub count : ℕ
  pub step : Step

-- none has happened
abbrev pub none_played : Playing → Played
none_played e = record { count = 0; step = no_step e }

-- one has happened, and then others
abbrev pub played_then : Step → Played → Played
played_then first rest = record { count = rest.count + 1; step = step_then first rest.step }

-- the longest prefix that may happen
unfoldable pub played : Playing → List Happening → Played
played e [] = none_played e
played e (h ∷ hs) = if may_happen e h then (let s = step_of e h in played_then s (played s.next hs)) else none_played e

-- how many admissions stand in a list
abbrev pub admissions : List Happening → ℕ
admissions [] = 0
admissions (Ran p ∷ hs) = admissions hs
admissions (Admit ∷ hs) = suc (admissions hs)

-- so many turns, or as many as there are until a verdict
unfoldable pub turns : ℕ → Playing → Step
turns zero e = no_step e
turns (suc n) e = let s = step_of_turn e e.verdict in step_then s (turns n s.next)

-- what happened shows what as many turns show as there were admissions, and once all segments were run the run is as after
-- these turns
pub record ComesToTurns (e : Playing) (hs : List Happening) (d : Played) : Type 0 where
  pub run : (let t = turns (admissions (take d.count hs)) e in
      playing_with_all_segments d.step.next ≡ playing_with_all_segments t.next)
  pub events : (let t = turns (admissions (take d.count hs)) e in d.step.events ≡ t.events)

-- which segments were run when, between which turns, changes nothing else
abbrev pub PlayedTurns : Type 0
PlayedTurns = (e : Playing) (hs : List Happening) → ComesToTurns e hs (played e hs)
