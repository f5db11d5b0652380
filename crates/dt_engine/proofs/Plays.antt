-- Happenings in any order come to turns.
use Rattle.std.proofs.Common.{◌≡◌, ℕ, zero, suc, Bool, true, false, cond, List, [], ◌∷◌, ◌++◌, take, Option, Some, None, refl, sym, ap, subst, ◌∙◌, add-one}
use Rattle.dt_base.specs.declared.event.Verdict.{Verdict}
use Rattle.dt_engine.specs.declared.happening.Happening.{Happening}
use Rattle.dt_engine.specs.declared.happening.Happening.TheVariants.{Ran, Admit}
use Rattle.dt_engine.specs.Turn.{Turn}
use Rattle.dt_engine.specs.Ahead.{with_segment_of}
use Rattle.dt_engine.specs.Playing.{Playing, playing_after_turn, playing_with_all_segments}
use Rattle.dt_engine.specs.Happenings.{Step, step_of_turn, step_of, may_happen}
use Rattle.dt_engine.specs.Played.{Played, none_played, played_then, played, admissions, turns, ComesToTurns, PlayedTurns}
use Rattle.dt_engine.proofs.Aheads.{turn-same, ran-ahead}

-- steps that show the same, and after which the runs are the same once all segments were run
record Alike (s t : Step) : Type 0 where
  run : playing_with_all_segments s.next ≡ playing_with_all_segments t.next
  events : s.events ≡ t.events

turn-alike : (a b : Playing) (v : Option Verdict) → playing_with_all_segments a ≡ playing_with_all_segments b
    → Alike (step_of_turn a v) (step_of_turn b v)
turn-alike a b (Some v) is = record { run = is; events = refl }
turn-alike a b None is =
    let same = turn-same a.state b.state (ap (λ (e : Playing). e.state) is) in
    record { run = ap playing_after_turn same; events = ap (λ (t : Turn). t.events) same }

turns-alike : (n : ℕ) (a b : Playing) → playing_with_all_segments a ≡ playing_with_all_segments b → Alike (turns n a) (turns n b)
unfolding turns
turns-alike zero a b is = record { run = is; events = refl }
turns-alike (suc n) a b is =
    let first = subst (λ v. Alike (step_of_turn a a.verdict) (step_of_turn b v)) (ap (λ (e : Playing). e.verdict) is)
    (turn-alike a b a.verdict is) in
    let rest = turns-alike n _ _ first.run in
    record { run = rest.run; events = λ i. first.events i ++ rest.events i }

-- one has happened, and others after it
counted : (e : Playing) (h : Happening) (hs : List Happening) (d : Played)
    → Alike (let more = played_then (step_of e h) d in more.step) (turns (admissions (take (suc d.count) (h ∷ hs))) e)
    → ComesToTurns e (h ∷ hs) (played_then (step_of e h) d)
counted e h hs d alike =
    let a = subst (λ n. Alike (let more = played_then (step_of e h) d in more.step) (turns (admissions (take n (h ∷ hs))) e))
    (sym (add-one d.count)) alike in
    record { run = a.run; events = a.events }

then-turns : (e : Playing) (h : Happening) (hs : List Happening) (d : Played) → (let s = step_of e h in ComesToTurns s.next hs d)
    → ComesToTurns e (h ∷ hs) (played_then (step_of e h) d)
unfolding turns
then-turns e (Ran p) hs d is =
    let ran = record e { state = with_segment_of p e.state } in
    let alike = turns-alike (admissions (take d.count hs)) ran e
    (ap (λ s. record e { state = s }) (ran-ahead p e.state)) in
    counted e (Ran p) hs d (record { run = is.run ∙ alike.run; events = is.events ∙ alike.events })
then-turns e Admit hs d is =
    let s = step_of_turn e e.verdict in
    counted e Admit hs d (record { run = is.run; events = ap (λ events. s.events ++ events) is.events })

chosen-turns : (e : Playing) (h : Happening) (hs : List Happening) (d : Played) (b : Bool)
    → (let s = step_of e h in ComesToTurns s.next hs d)
    → ComesToTurns e (h ∷ hs) (cond b (played_then (step_of e h) d) (none_played e))
unfolding turns
chosen-turns e h hs d true is = then-turns e h hs d is
chosen-turns e h hs d false is = record { run = refl; events = refl }

pub played-turns : PlayedTurns
unfolding played turns
played-turns e [] = record { run = refl; events = refl }
played-turns e (h ∷ hs) =
    let s = step_of e h in chosen-turns e h hs (played s.next hs) (may_happen e h) (played-turns s.next hs)
