-- How each call carries on what was shown of a run.
use Rattle.std.proofs.Common.{◌≡◌, ◌≢◌, ℕ, zero, suc, ◌<◌, ◌&&◌, not, Bool, true, false, cond, List, [], ◌∷◌, ◌++◌, length, get_or, remove, Option, Some, None, refl, sym, ap, subst, ◌∙◌, arith, append-nil, append_assoc}
use Rattle.std.specs.Prelude.{slice_get, IsSome, IsTrue, is_none}
use Rattle.std.specs.List.{AllByRecursion, Contains}
use Rattle.std.proofs.lemmas.List.{map-append}
use Rattle.std.proofs.lemmas.List.Elements.{All-contains, All-from_recursion}
use Rattle.std.specs.Ordering.{nat_cmp}
use Rattle.std.specs.Cmp.{nat_cmp_total}
use Rattle.std.specs.FinMap.{find, get, insert, nat_cmp-IsAntisymmetric}
use Rattle.dt_base.specs.declared.event.Event.{Event}
use Rattle.dt_base.specs.declared.event.Verdict.{Verdict}
use Rattle.dt_tables.proofs.Maps.{at_insert, at_remove, get-insert_other}
use Rattle.dt_rv64.specs.declared.machine.Machine.{Machine}
use Rattle.dt_rv64.specs.Segment.{segment_of}
use Rattle.dt_sched.specs.Core.{is_owing}
use Rattle.dt_engine.specs.declared.happening.Happening.{Happening}
use Rattle.dt_engine.specs.declared.happening.Happening.TheVariants.{Ran, Admit}
use Rattle.dt_engine.specs.Work.{Work, Works, owing_work, work_after_segment}
use Rattle.dt_engine.specs.Turn.{State, Turn, head_pid, is_ended_verdict, turn}
use Rattle.dt_engine.specs.Run.{Run, after_events}
use Rattle.dt_engine.specs.Ahead.{Away, HasHead, with_works, works_with_segment, with_segment_of, state_with_works, turn_with_works}
use Rattle.dt_engine.specs.Playing.{Playing, rest_of, playing_after_turn}
use Rattle.dt_engine.specs.Admission.{admission, admission_by, awaited, is_ready_work}
use Rattle.dt_engine.specs.Happenings.{Step, may_happen, step_of, is_live, is_owing_work}
use Rattle.dt_engine.specs.Lent.{playing_without_work, state_without_work, state_with_work, playing_with_work}
use Rattle.dt_engine.specs.Played.{none_played, played_then, played}
use Rattle.dt_engine.specs.InPlay.{IsFull, owing_of}
use Rattle.dt_engine.proofs.Aheads.{ran-ahead}
use Rattle.dt_engine.proofs.Aways.{over, get-put_all, turn-away}
use Rattle.dt_engine.proofs.Going.{has-head, left-alike}
use Rattle.dt_engine.proofs.Happened.{next-step, a-step}
use Rattle.dt_engine.proofs.Kept.{all-weaker}
use Rattle.dt_engine.proofs.Left.{lend-leaves, return-leaves, admission-leaves}
use Rattle.dt_engine.proofs.Numbers.{turn-apart, turn-later}
use Rattle.dt_engine.proofs.Orders.{IsHeadOnce, TurnsOn, turn-on}
use Rattle.dt_engine.proofs.Turns.{after-after}
use Rattle.dt_runlaws.specs.Shown.{Lent, lent_pids, lent_works, IsLent, AreDistinct, HasDistinctOrder, AreLent, left_with_lent, Shows}
use Rattle.dt_runlaws.specs.Carried.{OwesAtHome, LendShows, LentIsAway, ReturnShows, AdmissionShows, HappeningsShow, NothingLent, VerdictShows}
use Rattle.dt_runlaws.proofs.Pids.{distinct-more, absent-rest, any-absent, all-among, all-filtered}
use Rattle.dt_runlaws.proofs.Lends.{unless-some, not-both, some-over, tied-other, none-absent, found-end, lent-more, distinct-removed, returned-none, found-less, lent-before, lent-at, state-alike}
use Rattle.dt_runlaws.proofs.Keeps.{Keeps, turn-keeps}

-- the order and the next pid are those of the state, whatever is away
ordered-with : (ws : Away) (s : State) → HasDistinctOrder s → HasDistinctOrder (state_with_works ws s)
unfolding state_with_works
ordered-with ws s h = record { once = h.once; given = h.given }

ordered-without : (ws : Away) (s : State) → HasDistinctOrder (state_with_works ws s) → HasDistinctOrder s
unfolding state_with_works
ordered-without ws s h = record { once = h.once; given = h.given }

-- with more works each live process has its work all the more
full-with : (ws : Away) (s : State) → IsFull s → IsFull (state_with_works ws s)
unfolding state_with_works
full-with ws s full =
    all-weaker (λ q. IsSome (get s.works q)) (λ q. IsSome (get (with_works ws s.works) q))
    (λ q some. subst IsSome (sym (get-put_all ws s.works q)) (some-over (find nat_cmp q ws) (get s.works q) some))
    s.schedule.order full

full-none : (s : State) → IsFull (state_with_works [] s) → IsFull s
unfolding state_with_works
full-none s full = full

full-cond : (b : Bool) (ws : Away) (s : State) → IsFull (state_with_works (cond b [] ws) s) → IsFull (state_with_works ws s)
full-cond true ws s full = full-with ws s (full-none s full)
full-cond false ws s full = full

pub nothing-lent : NothingLent
nothing-lent e h = full-none e.state h.full

-- one that owes is live, and its work isn't ready
abbrev unready : State → ℕ → Bool
unready s p = not (is_ready_work (get s.works p))

owing-is : (P : ℕ → Type 0) (s : State) (p : ℕ) → AllByRecursion P s.schedule.order → Contains (owing_of s) p
    → P p × (unready s p ≡ true)
owing-is P s p all is =
    All-contains (λ p. P p × (unready s p ≡ true)) (owing_of s) p
    (All-from_recursion (λ p. P p × (unready s p ≡ true)) (owing_of s) (all-filtered P (unready s) s.schedule.order all)) is

found-owes : (found : Option Work) → IsSome found → not (is_ready_work found) ≡ true → IsTrue (is_owing_work found)
found-owes None some unready = cc
found-owes (Some w) some unready = by_owing (is_owing w.phase) unready
  where
    by_owing : (b : Bool) → not (not b) ≡ true → b ≡ true
    by_owing true is = refl
    by_owing false is = cc

full-works : (ws : Away) (s : State) → IsFull (state_with_works ws s) → AllByRecursion (λ q. IsSome (get (with_works ws s.works) q)) s.schedule.order
unfolding state_with_works
full-works ws s full = full

some-under : (x y : Option Work) → x ≡ None → IsSome (over x y) → IsSome y
some-under None y none some = some
some-under (Some w) y none some = cc

pub owes-at-home : OwesAtHome
owes-at-home e lent p h is other =
    let ws = lent_works lent in
    let both = owing-is (λ q. IsSome (get (with_works ws e.state.works) q)) e.state p (full-works ws e.state h.full) is in
    let none = unless-some (find nat_cmp p ws) other in
    found-owes (get e.state.works p)
    (some-under (find nat_cmp p ws) (get e.state.works p) none (subst IsSome (get-put_all ws e.state.works p) both.0)) both.1

-- a machine is lent
module _ (e : Playing) (lent : Lent) (p : ℕ) (m : Machine) (h : AreLent e lent) (owes : Contains (owing_of e.state) p)
    (is : get e.state.works p ≡ Some (owing_work m)) where
  abbrev more : Lent
  more = lent ++ (p, m) ∷ []

  fresh : find nat_cmp p (lent_works lent) ≡ None
  fresh = unless-some (find nat_cmp p (lent_works lent)) (λ some. let none = h.away.apart p some in cc)

  lent-state : state_with_works (lent_works more) (state_without_work p e.state) ≡ state_with_works (lent_works lent) e.state
  lent-state =
      state-alike (lent_works more) ((p, owing_work m) ∷ lent_works lent) (state_without_work p e.state)
      (λ q. found-end lent p m q fresh)
      ∙ lend-leaves p m (lent_works lent) e.state is fresh

  lend-lent : AreLent (playing_without_work p e) more
  lend-lent = record {
    once = subst AreDistinct (sym (map-append (λ (l : ℕ × Machine). l.0) lent ((p, m) ∷ [])))
        (distinct-more (lent_pids lent) p h.once (none-absent lent p fresh));
    away = record {
      given = λ q some. lent-more (λ q. q < e.state.next) lent p m q fresh some
          (let both = owing-is (λ q. q < e.state.next) e.state p h.ordered.given owes in both.0) (h.away.given q);
      apart = λ q some. at_remove nat_cmp_total nat_cmp-IsAntisymmetric (λ found. found ≡ None) e.state.works p q (λ _. refl)
          (λ other. lent-more (λ q. q ≢ p → get e.state.works q ≡ None) lent p m q fresh some (λ same. absurd (same refl))
          (λ was _. h.away.apart q was) other);
    };
    live = λ none q some. lent-more (λ q. is_live q e.state ≡ true) lent p m q fresh some
        (let both = owing-is (λ q. is_live q e.state ≡ true) e.state p (all-among e.state.schedule.order) owes in both.0)
        (h.live none q);
    full = subst IsFull (sym lent-state) h.full;
    ordered = record { once = h.ordered.once; given = h.ordered.given };
  }

pub lend-shows : LendShows
lend-shows all shown e lent p m h owes is = record {
  whole = h.whole ∙ ap (λ s. after_events shown (rest_of s e.verdict)) (sym (lent-state e lent p m h.machines owes is));
  machines = lend-lent e lent p m h.machines owes is;
}

-- a machine that is lent isn't at home
-- a machine at an index of those that are lent
entry-found : (xs : Lent) (k : ℕ) (l : ℕ × Machine) → slice_get xs k ≡ Some l → (k < length xs) × (get_or xs k l ≡ l)
entry-found [] k l is = cc
entry-found (x ∷ xs) zero l is = (omega arith, cc)
entry-found (x ∷ xs) (suc k) l is = let rest = entry-found xs k l is in (let within = rest.0 in omega arith, rest.1)

lent-away-at : (e : Playing) (lent : Lent) (k : ℕ) (d : ℕ × Machine) → AreLent e lent → k < length lent
    → (let l = get_or lent k d in get e.state.works l.0 ≡ None)
lent-away-at e lent k d h within = let l = get_or lent k d in h.away.apart l.0 (lent-at lent k d within h.once)

pub lent-is-away : LentIsAway
lent-is-away e lent k p m h is =
    let at = entry-found lent k (p, m) is in
    subst (λ (x : ℕ × Machine). get e.state.works x.0 ≡ None) at.1 (lent-away-at e lent k (p, m) h at.0)

-- a machine comes back
module _ (e : Playing) (lent : Lent) (k : ℕ) (d : ℕ × Machine) (h : AreLent e lent) (within : k < length lent) where
  abbrev from : ℕ × Machine
  from = get_or lent k d

  abbrev others : Lent
  others = remove lent k

  gone : find nat_cmp from.0 (lent_works others) ≡ None
  gone = returned-none lent k d within h.once

  still : (q : ℕ) → IsLent q others → IsLent q lent
  still q some = lent-before lent k d q within h.once some

  other-than : (q : ℕ) → IsLent q others → q ≢ from.0
  other-than q some same = not-both (find nat_cmp q (lent_works others)) some (ap (λ q. find nat_cmp q (lent_works others)) same ∙ gone)

  -- any other process's work is found as before
  found-other : (q : ℕ) → q ≢ from.0 → find nat_cmp q (lent_works lent) ≡ find nat_cmp q (lent_works others)
  found-other q apart =
      found-less lent k d q within h.once
      ∙ ap (λ b. cond b (Some (owing_work from.1)) (find nat_cmp q (lent_works others))) (tied-other q from.0 apart)

  there-still : (q : ℕ) → q ≢ from.0 → IsSome (get (with_works (lent_works lent) e.state.works) q)
      → IsSome (over (find nat_cmp q (lent_works others)) (get e.state.works q))
  there-still q apart some =
      subst (λ found. IsSome (over found (get e.state.works q))) (found-other q apart)
      (subst IsSome (get-put_all (lent_works lent) e.state.works q) some)

  -- to a process that lives
  module _ (w : Work) where
    abbrev back : State
    back = state_with_work from.0 w e.state

    back-there : (q : ℕ) → IsSome (get (with_works (lent_works lent) e.state.works) q)
        → IsSome (get (with_works (lent_works others) (insert e.state.works from.0 w)) q)
    back-there q some =
        subst IsSome (sym (get-put_all (lent_works others) (insert e.state.works from.0 w) q))
        (at_insert nat_cmp_total nat_cmp-IsAntisymmetric (λ found. IsSome (over (find nat_cmp q (lent_works others)) found))
        e.state.works from.0 w q
        (λ _. some-over (find nat_cmp q (lent_works others)) (Some w) refl)
        (λ apart. there-still q apart some))

    back-full : IsFull (state_with_works (lent_works others) back)
    unfolding state_with_works
    back-full =
        all-weaker (λ q. IsSome (get (with_works (lent_works lent) e.state.works) q))
        (λ q. IsSome (get (with_works (lent_works others) (insert e.state.works from.0 w)) q))
        back-there e.state.schedule.order h.full

    back-lent : AreLent (record e { state = back }) others
    back-lent = record {
      once = distinct-removed lent k h.once;
      away = record {
        given = λ q some. h.away.given q (still q some);
        apart = λ q some. get-insert_other nat_cmp_total nat_cmp-IsAntisymmetric e.state.works from.0 w q (other-than q some)
            ∙ h.away.apart q (still q some);
      };
      live = λ none q some. h.live none q (still q some);
      full = back-full;
      ordered = record { once = h.ordered.once; given = h.ordered.given };
    }

  back-left : (v : Option Verdict)
      → rest_of (state_with_works (lent_works lent) e.state) v
      ≡ rest_of (state_with_works (lent_works others) (state_with_work from.0 (work_after_segment (segment_of from.1)) e.state)) v
  back-left v =
      ap (λ s. rest_of s v)
      (state-alike (lent_works lent) ((from.0, owing_work from.1) ∷ lent_works others) e.state
      (λ q. found-less lent k d q within h.once))
      ∙ sym (return-leaves from.0 from.1 (lent_works others) e.state v gone)

  -- to one that has ended
  dead-full : is_live from.0 e.state ≡ false → IsFull (state_with_works (lent_works others) e.state)
  unfolding state_with_works
  dead-full dead =
      both-facts e.state.schedule.order (any-absent from.0 e.state.schedule.order dead) h.full
    where
      both-facts : (xs : List ℕ) → AllByRecursion (λ q. q ≢ from.0) xs
          → AllByRecursion (λ q. IsSome (get (with_works (lent_works lent) e.state.works) q)) xs
          → AllByRecursion (λ q. IsSome (get (with_works (lent_works others) e.state.works) q)) xs
      both-facts [] apart full = tt
      both-facts (x ∷ xs) apart full = (
        subst IsSome (sym (get-put_all (lent_works others) e.state.works x)) (there-still x apart.0 full.0),
        both-facts xs apart.1 full.1,
      )

  dead-lent : is_live from.0 e.state ≡ false → AreLent e others
  dead-lent dead = record {
    once = distinct-removed lent k h.once;
    away = record { given = λ q some. h.away.given q (still q some); apart = λ q some. h.away.apart q (still q some) };
    live = λ none q some. h.live none q (still q some);
    full = dead-full dead;
    ordered = h.ordered;
  }

  -- a verdict stands then
  dead-left : is_live from.0 e.state ≡ false → (v : Option Verdict) → e.verdict ≡ v
      → rest_of (state_with_works (lent_works lent) e.state) v ≡ rest_of (state_with_works (lent_works others) e.state) v
  unfolding state_with_works
  dead-left dead None none =
      let live = h.live none from.0 (lent-at lent k d within h.once) in let bad = sym live ∙ dead in cc
  dead-left dead (Some v) stands = refl

return-by : (all : Run) (shown : List Event) (e : Playing) (lent : Lent) (k : ℕ) (d : ℕ × Machine) → Shows all shown e lent
    → k < length lent → (live : Bool) → (let l = get_or lent k d in is_live l.0 e.state ≡ live)
    → (let l = get_or lent k d in let w = work_after_segment (segment_of l.1) in
    Shows all shown (cond live (record e { state = state_with_work l.0 w e.state }) e) (remove lent k))
return-by all shown e lent k d h within true live =
    let l = get_or lent k d in
    record {
      whole = h.whole ∙ ap (after_events shown) (back-left e lent k d h.machines within e.verdict);
      machines = back-lent e lent k d h.machines within (work_after_segment (segment_of l.1));
    }
return-by all shown e lent k d h within false dead = record {
  whole = h.whole ∙ ap (after_events shown) (dead-left e lent k d h.machines within dead e.verdict refl);
  machines = dead-lent e lent k d h.machines within dead;
}

pub return-shows : ReturnShows
return-shows all shown e lent k p m h is =
    let at = entry-found lent k (p, m) is in
    let l = get_or lent k (p, m) in
    subst (λ (x : ℕ × Machine). Shows all shown (playing_with_work x.0 (work_after_segment (segment_of x.1)) e) (remove lent k)) at.1
    (return-by all shown e lent k (p, m) h at.0 (is_live l.0 e.state) refl)

-- a turn beside what is lent
head-once : (order : List ℕ) → AreDistinct order → IsHeadOnce order
head-once [] once = tt
head-once (p ∷ ps) once = absent-rest p ps once.0

-- the head's work is at home, so that it is none of those that are lent
head-other : (s : State) (q : ℕ) → HasHead s → get s.works q ≡ None → head_pid s.schedule.order ≢ Some q
head-other s q has none = λ is. let some = has q is in cc

-- unless it ends the run a turn sees only that works are away
away-next : (ws : Away) (s : State) (v : Option Verdict) (t : Turn) → t.verdict ≡ v → v ≡ None
    → (let n = turn_with_works ws t in n.next ≡ state_with_works ws t.next)
away-next ws s v t is none = ap (λ v. state_with_works (cond (is_ended_verdict v) [] ws) t.next) (is ∙ none)

module _ (e : Playing) (lent : Lent) (h : AreLent e lent) (has : HasHead e.state) (running : e.verdict ≡ None) where
  abbrev ws : Away
  ws = lent_works lent

  abbrev t : Turn
  t = turn e.state

  whole-turn : turn (state_with_works ws e.state) ≡ turn_with_works ws t
  whole-turn = turn-away ws e.state has h.away

  keeps : Keeps (let t = turn_with_works ws t in t.next)
  keeps = subst (λ (t : Turn). Keeps t.next) whole-turn
      (turn-keeps (state_with_works ws e.state) (ordered-with ws e.state h.ordered) h.full)

  ordered-next : HasDistinctOrder t.next
  ordered-next = ordered-without (cond (is_ended_verdict t.verdict) [] ws) t.next keeps.ordered

  order-once : IsHeadOnce (let s = state_with_works ws e.state in s.schedule.order)
  unfolding state_with_works
  order-once = head-once e.state.schedule.order h.ordered.once

  goes-on : t.verdict ≡ None → TurnsOn (state_with_works ws e.state) (state_with_works ws t.next)
  goes-on none =
      subst (TurnsOn (state_with_works ws e.state))
      (ap (λ (t : Turn). t.next) whole-turn ∙ away-next ws e.state t.verdict t refl none)
      (turn-on (state_with_works ws e.state) order-once h.full (ap (λ (t : Turn). t.verdict) whole-turn ∙ none))

  live-then : (n : State) → TurnsOn (state_with_works ws e.state) (state_with_works ws n) → (q : ℕ)
      → get e.state.works q ≡ None → is_live q e.state ≡ true → is_live q n ≡ true
  unfolding state_with_works
  live-then n on q apart live = on.live q (head-other e.state q has apart) live

  turn-lent : AreLent (playing_after_turn t) lent
  turn-lent = record {
    once = h.once;
    away = record {
      given = λ q some. let less = h.away.given q some in let later = turn-later e.state in omega arith;
      apart = λ q some. turn-apart e.state q (h.away.apart q some) (h.away.given q some);
    };
    live = λ none q some. live-then t.next (goes-on none) q (h.away.apart q some) (h.live running q some);
    full = full-cond (is_ended_verdict t.verdict) ws t.next keeps.full;
    ordered = ordered-next;
  }

-- an admission
admitted-by : (e : Playing) (lent : Lent) (v : Option Verdict) (late : Option ℕ) → e.verdict ≡ v → awaited e.state ≡ late
    → AreLent e lent → (let a = admission_by e v late in AreLent a.next lent)
admitted-by e lent (Some v) late is who h = h
admitted-by e lent None (Some p) is who h = h
admitted-by e lent None None is who h = turn-lent e lent h (has-head e.state (head_pid e.state.schedule.order) refl who) is

admission-lent : (e : Playing) (lent : Lent) → AreLent e lent → (let a = admission e in AreLent a.next lent)
unfolding admission
admission-lent e lent h = admitted-by e lent e.verdict (awaited e.state) refl refl h

pub admission-shows : AdmissionShows
admission-shows all shown e lent h =
    let a = admission e in
    record {
      whole = h.whole ∙ ap (after_events shown) (admission-leaves (lent_works lent) e h.machines.away)
          ∙ after-after shown a.events (left_with_lent a.next lent);
      machines = admission-lent e lent h.machines;
    }

-- a segment of a process
segment-there : (works : Works) (p : ℕ) (found : Option Work) (q : ℕ) → IsSome (get works q)
    → IsSome (get (works_with_segment works p found) q)
segment-there works p None q was = was
segment-there works p (Some w) q was =
    at_insert nat_cmp_total nat_cmp-IsAntisymmetric (λ found. IsSome found) works p _ q (λ _. refl) (λ _. was)

ran-lent : (e : Playing) (p : ℕ) → AreLent e [] → AreLent (record e { state = with_segment_of p e.state }) []
unfolding state_with_works with_segment_of
ran-lent e p h = record {
  once = tt;
  away = record { given = λ q some. cc; apart = λ q some. cc };
  live = λ none q some. cc;
  full = all-weaker (λ q. IsSome (get e.state.works q)) (λ q. IsSome (get (works_with_segment e.state.works p (get e.state.works p)) q))
      (segment-there e.state.works p (get e.state.works p)) e.state.schedule.order h.full;
  ordered = record { once = h.ordered.once; given = h.ordered.given };
}

ran-left : (e : Playing) (p : ℕ) (v : Option Verdict)
    → rest_of (state_with_works [] e.state) v ≡ rest_of (state_with_works [] (with_segment_of p e.state)) v
unfolding state_with_works
ran-left e p v = left-alike e.state (with_segment_of p e.state) v (sym (ran-ahead p e.state))

none-may : (v : Option Verdict) (b : Bool) → (is_none v && b) ≡ true → v ≡ None
none-may None b may = refl
none-may (Some v) b may = cc

step-shows : (all : Run) (shown : List Event) (e : Playing) (h : Happening) → may_happen e h ≡ true → Shows all shown e []
    → (let s = step_of e h in Shows all (shown ++ s.events) s.next [])
step-shows all shown e (Ran p) may so =
    subst (λ events. Shows all events (record e { state = with_segment_of p e.state }) []) (sym (append-nil shown))
    (record { whole = so.whole ∙ ap (after_events shown) (ran-left e p e.verdict); machines = ran-lent e p so.machines })
step-shows all shown e Admit may so =
    let running = none-may e.verdict (is_none (awaited e.state)) may in
    subst (λ (s : Step). Shows all (shown ++ s.events) s.next []) (sym (next-step e running) ∙ a-step e Admit may)
    (admission-shows all shown e [] so)

-- and others after it
happened-by : (all : Run) (shown : List Event) (e : Playing) (h : Happening) (hs : List Happening) (b : Bool) → may_happen e h ≡ b
    → Shows all shown e []
    → ((now : List Event) (n : Playing) → Shows all now n [] → let d = played n hs in Shows all (now ++ d.step.events) d.step.next [])
    → (let d = cond b (let s = step_of e h in played_then s (played s.next hs)) (none_played e) in
    Shows all (shown ++ d.step.events) d.step.next [])
happened-by all shown e h hs true may so rest =
    let s = step_of e h in
    let d = played s.next hs in
    subst (λ events. Shows all events d.step.next []) (append_assoc shown s.events d.step.events)
    (rest (shown ++ s.events) s.next (step-shows all shown e h may so))
happened-by all shown e h hs false may so rest = subst (λ events. Shows all events e []) (sym (append-nil shown)) so

pub happenings-show : HappeningsShow
unfolding played
happenings-show all shown e [] so = subst (λ events. Shows all events e []) (sym (append-nil shown)) so
happenings-show all shown e (h ∷ hs) so =
    happened-by all shown e h hs (may_happen e h) refl so (λ now n so. happenings-show all now n hs so)

-- where a verdict stands nothing is left
pub verdict-shows : VerdictShows
unfolding state_with_works
verdict-shows all shown e lent v h stands =
    h.whole
    ∙ ap (λ v. after_events shown (rest_of (state_with_works (lent_works lent) e.state) v)) stands
    ∙ ap (λ events. record { events = events; verdict = v; last = e.state.shared }) (append-nil shown)
