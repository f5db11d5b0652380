-- Segments that ran ahead of their turns change no turn.
use Rattle.std.proofs.Common.{◌≡◌, ℕ, Bool, true, false, cond, Option, Some, None, refl, sym, ap, ◌∙◌}
use Rattle.std.specs.Prelude.{option_map}
use Rattle.std.specs.Cmp.{nat_cmp_total}
use Rattle.std.specs.FinMap.{empty, get, insert, remove, same_map, nat_cmp-IsAntisymmetric}
use Rattle.dt_tables.specs.Values.{map_values}
use Rattle.dt_tables.proofs.Maps.{put_back}
use Rattle.dt_tables.proofs.Valued.{get-map_values, map_values-insert, map_values-remove}
use Rattle.dt_rv64.specs.declared.machine.Machine.{Machine}
use Rattle.dt_calls.specs.Settle.{next_after, with_own}
use Rattle.dt_rv64.specs.declared.segments.Seg.{Seg}
use Rattle.dt_sched.specs.declared.process.Phase.{Phase}
use Rattle.dt_sched.specs.declared.process.Phase.TheVariants.{Owes, Ran, Waits}
use Rattle.dt_engine.specs.Work.{Work, Works, Prepared, owing_work, prepared_in, prepared_of, with_segment}
use Rattle.dt_engine.specs.Turn.{State, Act, act, turn_of_act, works_after_act, is_ended_verdict, with_child_work, stuck_turn, turn_of_work, turn_of_head, head_pid, turn}
use Rattle.dt_engine.specs.Ahead.{with_all_segments, turn_with_all_segments, with_segment_of, works_with_segment, TurnAhead, RanAhead}

prepared-again : (w : Work) (phase : Phase Seg) → w.phase ≡ phase → let d = prepared_in w phase in prepared_of d.work ≡ d
unfolding prepared_of
prepared-again w Owes is = refl
prepared-again w (Ran seg) is = ap (prepared_in w) is
prepared-again w Waits is = ap (prepared_in w) is

-- a process brings the same to its turn once its segment was run
pub prepared-with_segment : (w : Work) → prepared_of (with_segment w) ≡ prepared_of w
unfolding prepared_of with_segment
prepared-with_segment w = prepared-again w w.phase refl

-- a segment that was run isn't run again
pub with_segment-again : (w : Work) → with_segment (with_segment w) ≡ with_segment w
unfolding with_segment
with_segment-again w = ap (λ (d : Prepared). d.work) (prepared-with_segment w)

twice : (found : Option Work) → option_map with_segment (option_map with_segment found) ≡ option_map with_segment found
twice None = refl
twice (Some w) = ap Some (with_segment-again w)

get-ran : (works : Works) (q : ℕ) → get (map_values with_segment works) q ≡ option_map with_segment (get works q)
get-ran works q = get-map_values nat_cmp_total with_segment works q

map-insert : (works : Works) (p : ℕ) (w : Work)
    → map_values with_segment (insert works p w) ≡ insert (map_values with_segment works) p (with_segment w)
map-insert works p w = map_values-insert nat_cmp_total with_segment nat_cmp-IsAntisymmetric works p w

map-remove : (works : Works) (p : ℕ)
    → map_values with_segment (remove works p) ≡ remove (map_values with_segment works) p
map-remove works p = map_values-remove nat_cmp_total with_segment nat_cmp-IsAntisymmetric works p

map-again : (works : Works) → map_values with_segment (map_values with_segment works) ≡ map_values with_segment works
map-again works = same_map nat_cmp_total nat_cmp-IsAntisymmetric _ _ (λ q.
    get-ran (map_values with_segment works) q
    ∙ ap (option_map with_segment) (get-ran works q)
    ∙ twice (get works q)
    ∙ sym (get-ran works q))

-- running ahead twice is running ahead
pub ahead-again : (s : State) → with_all_segments (with_all_segments s) ≡ with_all_segments s
unfolding with_all_segments
ahead-again s = ap (λ works. record s { works = works }) (map-again s.works)

map-own : (works : Works) (p : ℕ) (own : Option Work)
    → map_values with_segment (with_own (map_values with_segment works) p own) ≡ map_values with_segment (with_own works p own)
map-own works p None =
    map-remove (map_values with_segment works) p
    ∙ ap (λ ws. remove ws p) (map-again works)
    ∙ sym (map-remove works p)
map-own works p (Some own) =
    map-insert (map_values with_segment works) p own
    ∙ ap (λ ws. insert ws p (with_segment own)) (map-again works)
    ∙ sym (map-insert works p own)

map-child : (a b : Works) (next : ℕ) (child : Option Machine) → map_values with_segment a ≡ map_values with_segment b
    → map_values with_segment (with_child_work a next child) ≡ map_values with_segment (with_child_work b next child)
map-child a b next None is = is
map-child a b next (Some m) is =
    map-insert a next (owing_work m)
    ∙ ap (λ ws. insert ws next (with_segment (owing_work m))) is
    ∙ sym (map-insert b next (owing_work m))

map-left : (b : Bool) (x y : Works) → map_values with_segment x ≡ map_values with_segment y
    → map_values with_segment (cond b empty x) ≡ map_values with_segment (cond b empty y)
map-left true x y is = refl
map-left false x y is = is

map-changed : (works : Works) (p next : ℕ) (a : Act)
    → map_values with_segment (works_after_act (map_values with_segment works) p next a)
    ≡ map_values with_segment (works_after_act works p next a)
unfolding works_after_act
map-changed works p next a = map-left (is_ended_verdict a.verdict) _ _ (map-child _ _ next a.child (map-own works p a.own))

acted-ahead : (s : State) (p : ℕ) (a : Act) → turn_with_all_segments (turn_of_act (with_all_segments s) p a) ≡ turn_with_all_segments (turn_of_act s p a)
unfolding with_all_segments
acted-ahead s p a =
    ap (λ works. record {
      next
          = record { shared = a.shared; works = works; schedule = a.schedule; next = next_after s.next a.child };
      events
          = a.events;
      verdict = a.verdict;
    })
    (map-changed s.works p s.next a)

taken-ahead : (s : State) (p : ℕ) (found : Option Work)
    → turn_with_all_segments (turn_of_work (with_all_segments s) p (option_map with_segment found)) ≡ turn_with_all_segments (turn_of_work s p found)
unfolding with_all_segments
taken-ahead s p None = ap stuck_turn (ahead-again s)
taken-ahead s p (Some w) =
    ap (λ d. turn_with_all_segments (turn_of_act (with_all_segments s) p (act s.shared s.schedule s.next p d))) (prepared-with_segment w)
    ∙ acted-ahead s p (act s.shared s.schedule s.next p (prepared_of w))

headed-ahead : (s : State) (head : Option ℕ) → turn_with_all_segments (turn_of_head (with_all_segments s) head) ≡ turn_with_all_segments (turn_of_head s head)
unfolding with_all_segments
headed-ahead s None = ap stuck_turn (ahead-again s)
headed-ahead s (Some p) = ap (λ found. turn_with_all_segments (turn_of_work (with_all_segments s) p found)) (get-ran s.works p) ∙ taken-ahead s p (get s.works p)

pub turn-ahead : TurnAhead
unfolding turn with_all_segments
turn-ahead s = headed-ahead s (head_pid s.schedule.order)

-- turns of states that are the same once all segments were run come to the same
pub turn-same : (a b : State) → with_all_segments a ≡ with_all_segments b → turn_with_all_segments (turn a) ≡ turn_with_all_segments (turn b)
turn-same a b is = sym (turn-ahead a) ∙ ap (λ s. turn_with_all_segments (turn s)) is ∙ turn-ahead b

map-ran : (works : Works) (p : ℕ) (found : Option Work) → get works p ≡ found
    → map_values with_segment (works_with_segment works p found) ≡ map_values with_segment works
map-ran works p None is = refl
map-ran works p (Some w) is =
    map-insert works p (with_segment w)
    ∙ ap (insert (map_values with_segment works) p) (with_segment-again w)
    ∙ sym (map-insert works p w)
    ∙ ap (map_values with_segment) (put_back nat_cmp_total nat_cmp-IsAntisymmetric works p w is)

pub ran-ahead : RanAhead
unfolding with_all_segments with_segment_of
ran-ahead p s = ap (λ works. record s { works = works }) (map-ran s.works p (get s.works p) refl)
