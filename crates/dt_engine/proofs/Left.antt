-- What is left of a run in play after each call.
use Rattle.std.proofs.Common.{◌≡◌, ℕ, Bool, true, false, cond, List, [], ◌∷◌, Option, Some, None, refl, sym, ap, ◌∙◌, arith, append-nil}
use Rattle.std.specs.Ordering.{nat_cmp}
use Rattle.std.specs.Cmp.{nat_cmp_total}
use Rattle.std.specs.FinMap.{find, get, insert, remove, same_map, nat_cmp-IsAntisymmetric}
use Rattle.dt_base.specs.declared.event.Verdict.{Verdict}
use Rattle.dt_tables.proofs.Maps.{at_insert, get-remove_other}
use Rattle.dt_engine.specs.declared.happening.Happening.{Happening}
use Rattle.dt_engine.specs.declared.happening.Happening.TheVariants.{Ran, Admit}
use Rattle.dt_engine.specs.Work.{Work, Works}
use Rattle.dt_engine.specs.Turn.{State, Turn, is_ended_verdict, turn}
use Rattle.dt_engine.specs.Run.{run_of_turns, run_after_turn, after_events}
use Rattle.dt_engine.specs.Ahead.{Away, IsAway, with_works, with_segment_of, with_all_segments, state_with_works}
use Rattle.dt_engine.specs.Playing.{Playing, rest_of}
use Rattle.dt_engine.specs.Happenings.{may_happen, step_of, step_of_turn}
use Rattle.dt_engine.specs.Played.{none_played, played_then, played}
use Rattle.dt_engine.specs.Left.{ReportByParts, HappeningsLeave, AdmissionLeaves, AwayStays, LendLeaves, ReturnLeaves}
use Rattle.dt_engine.proofs.Turns.{run-by-turns, after-after}
use Rattle.dt_engine.proofs.Aheads.{ran-ahead}
use Rattle.dt_engine.proofs.Aways.{over, get-put_all}
use Rattle.dt_engine.proofs.Returns.{return-runs}
use Rattle.dt_engine.proofs.Numbers.{turn-apart, turn-later}
use Rattle.dt_engine.proofs.Going.{left-alike, admission-goes, none-away}

pub report-by-parts : ReportByParts
report-by-parts version r = refl

pub admission-leaves : AdmissionLeaves
admission-leaves ws e away = admission-goes e ws away

-- a turn
after-left : (t : Turn) (v : Option Verdict) → run_after_turn t v run_of_turns ≡ after_events t.events (rest_of t.next v)
after-left t None = refl
after-left t (Some v) = ap (λ events. record { events = events; verdict = v; last = t.next.shared }) (sym (append-nil t.events))

turn-leaves : (e : Playing) (v : Option Verdict) → e.verdict ≡ v → (let s = step_of_turn e v in
    rest_of e.state e.verdict ≡ after_events s.events (rest_of s.next.state s.next.verdict))
turn-leaves e (Some v) is = refl
turn-leaves e None is = let t = turn e.state in ap (rest_of e.state) is ∙ run-by-turns e.state ∙ after-left t t.verdict

-- one that has happened
step-leaves : (e : Playing) (h : Happening) → (let s = step_of e h in
    rest_of e.state e.verdict ≡ after_events s.events (rest_of s.next.state s.next.verdict))
step-leaves e (Ran p) = left-alike e.state (with_segment_of p e.state) e.verdict (sym (ran-ahead p e.state))
step-leaves e Admit = turn-leaves e e.verdict refl

-- and others after it
one-leaves : (e : Playing) (h : Happening) (hs : List Happening) (b : Bool)
    → ((n : Playing) → let d = played n hs in
    rest_of n.state n.verdict ≡ after_events d.step.events (rest_of d.step.next.state d.step.next.verdict))
    → (let d = cond b (let s = step_of e h in played_then s (played s.next hs)) (none_played e) in
    rest_of e.state e.verdict ≡ after_events d.step.events (rest_of d.step.next.state d.step.next.verdict))
one-leaves e h hs true rest =
    let s = step_of e h in
    let d = played s.next hs in
    step-leaves e h
    ∙ ap (after_events s.events) (rest s.next)
    ∙ after-after s.events d.step.events (rest_of d.step.next.state d.step.next.verdict)
one-leaves e h hs false rest = refl

pub happenings-leave : HappeningsLeave
unfolding played
happenings-leave e [] = refl
happenings-leave e (h ∷ hs) = one-leaves e h hs (may_happen e h) (λ n. happenings-leave n hs)

-- what is away
stay-away : (b : Bool) (ws : Away) (s : State) → IsAway s ws → (let t = turn s in IsAway t.next (cond b [] ws))
stay-away true ws s away = let t = turn s in none-away t.next
stay-away false ws s away = record {
  given = λ q some. let less = away.given q some in let later = turn-later s in omega arith;
  apart = λ q some. turn-apart s q (away.apart q some) (away.given q some);
}

pub away-stays : AwayStays
away-stays ws s away = let t = turn s in stay-away (is_ended_verdict t.verdict) ws s away

-- what is lent
lent-works : (works : Works) (p : ℕ) (w : Work) (ws : Away) → get works p ≡ Some w → find nat_cmp p ws ≡ None
    → insert (with_works ws (remove works p)) p w ≡ with_works ws works
lent-works works p w ws is apart = same_map nat_cmp_total nat_cmp-IsAntisymmetric _ _ (λ q.
    at_insert nat_cmp_total nat_cmp-IsAntisymmetric (λ found. found ≡ get (with_works ws works) q) (with_works ws (remove works p)) p w q
    (λ e. sym (get-put_all ws works q
    ∙ ap (λ q. over (find nat_cmp q ws) (get works q)) e
    ∙ ap (λ found. over found (get works p)) apart
    ∙ is))
    (λ e. get-put_all ws (remove works p) q
    ∙ ap (over (find nat_cmp q ws)) (get-remove_other nat_cmp_total nat_cmp-IsAntisymmetric works p q e)
    ∙ sym (get-put_all ws works q)))

pub lend-leaves : LendLeaves
unfolding state_with_works
lend-leaves p m ws s is apart = ap (λ works. record s { works = works }) (lent-works s.works p _ ws is apart)

pub return-leaves : ReturnLeaves
return-leaves p m ws s v apart =
    left-alike _ _ v (ap with_all_segments (return-runs p m ws s apart) ∙ ran-ahead p _)
