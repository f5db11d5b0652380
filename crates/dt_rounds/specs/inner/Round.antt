-- Inner words: a round, in which machines are lent to a board, and turns are taken beside their segments.
use Rattle.std.specs.Prelude.{◌≡◌, ◌≢◌, ℕ, ◌+◌, ◌≤◌, ◌<◌, List, [], ◌∷◌, ◌++◌, length, map, Option, Some, None, true, ⊤}
use Rattle.std.specs.List.{AllByRecursion}
use Rattle.std.specs.FinMap.{get}
use Rattle.dt_host.specs.World.{World}
use Rattle.dt_rv64.specs.declared.machine.Machine.{Machine}
use Rattle.dt_rv64.specs.declared.segments.Seg.{Seg}
use Rattle.dt_rv64.specs.Segment.{segment_of}
use Rattle.dt_calls.specs.Sound.{IsSoundContainer}
use Rattle.dt_engine.specs.Work.{owing_work}
use Rattle.dt_engine.specs.Ahead.{Away, with_works, state_with_works}
use Rattle.dt_engine.specs.Happenings.{is_live}
use Rattle.dt_engine.specs.Lent.{playing_without_work}
use Rattle.dt_engine.specs.Playing.{Playing}
use Rattle.dt_engine.specs.InPlay.{EngineView, playing_of, works_of, with_places, IsFull, IsInPlay, steps_left}
use Rattle.dt_engine.specs.Onward.{IsAtRest, left_of, left_with, Goes}
use Rattle.dt_rounds.specs.declared.lent.Lent.{Lent}

-- the pids of machines that are away
abbrev pub lent_vpids : List Lent → List ℕ
lent_vpids lents = map (λ (lent : Lent). lent.vpid) lents

-- the works of which they are
abbrev pub lent_works : List Lent → Away
lent_works [] = []
lent_works (lent ∷ lents) = (lent.vpid, owing_work lent.copy) ∷ lent_works lents

-- a machine, and the segment that it has run from this one on
abbrev pub HasRun : Machine → Machine × Seg → Type 0
HasRun from came = let seg = came.1 in segment_of from ≡ record { count = seg.count; stop = seg.stop; machine = came.0 }

-- a pid is none of these
abbrev pub IsAbsent : ℕ → List ℕ → Type 0
IsAbsent p ps = AllByRecursion (λ q. q ≢ p) ps

-- pids of which each stands there once
abbrev pub IsOnce : List ℕ → Type 0
IsOnce [] = ⊤
IsOnce (p ∷ ps) = IsAbsent p ps × IsOnce ps

-- the works of these pids are not at home
abbrev pub AreAway : EngineView → List Lent → Type 0
AreAway e lents = AllByRecursion (λ p. get (works_of e) p ≡ None) (lent_vpids lents)

-- one machine more is lent, and nothing else changes
pub record Lends (vpid : ℕ) (e : EngineView) (lents : List Lent) (next : EngineView) (now : List Lent) : Type 0 where
  pub lent : Lent
  pub pid : lent.vpid ≡ vpid
  pub more : now ≡ lents ++ lent ∷ []
  pub work : get (works_of e) lent.vpid ≡ Some (owing_work lent.copy)
  pub run : (w : World) → playing_of next w ≡ playing_without_work lent.vpid (playing_of e w)
  pub rest : next ≡ with_places e next.state.container.places
  pub whole : IsInPlay next
  pub sound : (w : World) → IsSoundContainer e.state.container w → IsSoundContainer next.state.container w
  pub finished : next.finished ≡ e.finished

-- machines were lent: nothing else changed, and with them at home the works are as they were
pub record HasLent (first : EngineView) (lents : List Lent) (now : EngineView) : Type 0 where
  pub rest : now ≡ with_places first now.state.container.places
  pub works : with_works (lent_works lents) (works_of now) ≡ works_of first
  pub apart : AreAway now lents

-- what holds of a run in play whose machines were lent, each once. Unless a verdict stands these are machines of live
-- processes, and with them each live process has its work
pub record IsBeside (e : Playing) (lents : List Lent) : Type 0 where
  pub once : IsOnce (lent_vpids lents)
  pub apart : AllByRecursion (λ p. get e.state.works p ≡ None) (lent_vpids lents)
  pub given : AllByRecursion (λ p. p < e.state.next) (lent_vpids lents)
  pub live : e.verdict ≡ None → AllByRecursion (λ p. is_live p e.state ≡ true) (lent_vpids lents)
  pub full : e.verdict ≡ None → IsFull (state_with_works (lent_works lents) e.state)

-- what holds of an engine in a round
pub record IsLive (e : EngineView) (lents : List Lent) (w : World) : Type 0 where
  pub whole : IsInPlay e
  pub sound : IsSoundContainer e.state.container w
  pub beside : IsBeside (playing_of e w) lents

-- as much is left of a run, and each machine that came home has brought it nearer to its end
pub record KeepsRun (e : EngineView) (lents : List Lent) (next : EngineView) (now : List Lent) (w : World) : Type 0 where
  pub live : IsLive next now w
  pub left : left_with (playing_of next w) (lent_works now) ≡ left_with (playing_of e w) (lent_works lents)
  pub nearer : steps_left next.state.core + length lents ≤ steps_left e.state.core + length now
  pub verdict : next.verdict ≡ e.verdict

-- a run went on while machines may be away, and each machine that came home has brought it nearer to its end
pub record GoesOn (e : EngineView) (lents : List Lent) (w : World) (told : Option (List ℕ)) (next : EngineView) (now : List Lent) (v : World) (new : Option (List ℕ)) : Type 0 where
  pub goes : Goes (left_with (playing_of e w) (lent_works lents)) told (playing_of next v) (lent_works now) new
  pub live : IsLive next now v
  pub nearer : steps_left next.state.core + length lents ≤ steps_left e.state.core + length now

-- a run was taken on, nearer to its end
pub record TakesOn (e : EngineView) (w : World) (told : Option (List ℕ)) (next : EngineView) (now : World) (new : Option (List ℕ)) : Type 0 where
  pub goes : Goes (left_of (playing_of e w)) told (playing_of next now) [] new
  pub rest : IsAtRest next now
  pub nearer : next.verdict ≡ None → steps_left next.state.core < steps_left e.state.core
