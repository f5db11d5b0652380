-- A machine that comes home with its segment run, and the end of a round.
use Rattle.std.proofs.Common.{◌≡◌, ◌≢◌, ℕ, ◌<◌, Bool, true, false, cond, List, [], ◌∷◌, length, get_or, remove, Option, Some, None, refl, sym, ap, subst, ◌∙◌, arith}
use Rattle.std.specs.Prelude.{IsSome}
use Rattle.std.specs.List.{AllByRecursion}
use Rattle.std.specs.Cmp.{nat_cmp_total}
use Rattle.std.specs.FinMap.{get, insert, nat_cmp-IsAntisymmetric}
use Rattle.std.proofs.lemmas.List.{length-map, get_or-map}
use Rattle.std.proofs.lemmas.List.Edits.{length-remove}
use Rattle.dt_base.specs.declared.event.Verdict.{Verdict}
use Rattle.dt_calls.specs.Sound.{IsSoundContainer}
use Rattle.dt_host.specs.World.{World}
use Rattle.dt_rv64.specs.declared.machine.Machine.{Machine}
use Rattle.dt_rv64.specs.declared.segments.Seg.{Seg}
use Rattle.dt_rv64.specs.Segment.{segment_of}
use Rattle.dt_tables.proofs.Maps.{at_insert, get-insert_other}
use Rattle.dt_rounds.specs.declared.lent.Lent.{Lent}
use Rattle.dt_engine.specs.Work.{Work, Works, owing_work, work_after_segment, with_segment}
use Rattle.dt_engine.specs.Turn.{State}
use Rattle.dt_engine.specs.Run.{Run, after_events}
use Rattle.dt_engine.specs.Ahead.{Away, with_works, works_with_segment, with_segment_of, with_all_segments, state_with_works}
use Rattle.dt_engine.specs.Happenings.{is_live}
use Rattle.dt_engine.specs.Playing.{Playing, rest_of}
use Rattle.dt_engine.specs.Lent.{returned_work, state_with_work, playing_with_work}
use Rattle.dt_engine.specs.InPlay.{EngineView, playing_of, works_of, IsFull, IsInPlay, steps_left}
use Rattle.dt_engine.specs.Onward.{IsAtRest, left_with, Goes}
use Rattle.dt_rounds.specs.inner.Round.{lent_vpids, lent_works, HasRun, IsAbsent, IsOnce, AreAway, IsBeside, IsLive, KeepsRun}
use Rattle.dt_engine.proofs.Aheads.{ran-ahead}
use Rattle.dt_engine.proofs.Engines.{with-work-live}
use Rattle.dt_engine.proofs.Going.{left-alike}
use Rattle.dt_engine.proofs.Kept.{all-weaker}
use Rattle.dt_engine.proofs.Queueing.{all-both}
use Rattle.dt_engine.proofs.Returns.{ran-owing}
use Rattle.dt_rounds.proofs.Rounds.{works-brought, work-lent, all-at, absent-removed, map-removed, all-removed, once-removed}

-- each live process has its work still once a segment was run
segment-there : (works : Works) (p : ℕ) (found : Option Work) (q : ℕ) → IsSome (get works q) → IsSome (get (works_with_segment works p found) q)
segment-there works p None q was = was
segment-there works p (Some w) q was =
    at_insert nat_cmp_total nat_cmp-IsAntisymmetric (λ found. IsSome found) works p (with_segment w) q (λ _. refl) (λ _. was)

segment-full : (s : State) (p : ℕ) → IsFull s → IsFull (with_segment_of p s)
unfolding with_segment_of
segment-full s p full = all-weaker (λ q. IsSome (get s.works q)) (λ q. IsSome (get (works_with_segment s.works p (get s.works p)) q))
    (segment-there s.works p (get s.works p)) s.schedule.order full

-- a run of which as much is left
pub goes-left : (all : Run) (start told : Option (List ℕ)) (e next : Playing) (ws now : Away) → left_with next now ≡ left_with e ws
    → Goes all start e ws told → Goes all start next now told
goes-left all start told e next ws now same h =
    record { shown = h.shown; whole = h.whole ∙ ap (after_events h.shown) (sym same); wrote = h.wrote }

-- the machine at an index comes home
module _ (e : Playing) (lents : List Lent) (k : ℕ) (d : Lent) (h : IsBeside e lents) (running : e.verdict ≡ None) (within : k < length lents) where
  -- it as it was lent
  abbrev from : Lent
  from = get_or lents k d

  abbrev others : List Lent
  others = remove lents k

  within-vpids : k < length (lent_vpids lents)
  within-vpids = let count = length-map lents (λ (one : Lent). one.vpid) in omega (arith, count, within)

  from-at : get_or (lent_vpids lents) k 0 ≡ from.vpid
  from-at = get_or-map (λ (one : Lent). one.vpid) lents k d 0 within

  at-vpid : (P : ℕ → Type 0) → AllByRecursion P (lent_vpids lents) → P from.vpid
  at-vpid P all = subst P from-at (all-at P (lent_vpids lents) k 0 within-vpids all)

  pub from-apart : get e.state.works from.vpid ≡ None
  from-apart = at-vpid (λ p. get e.state.works p ≡ None) h.apart

  pub from-live : is_live from.vpid e.state ≡ true
  from-live = at-vpid (λ p. is_live p e.state ≡ true) (h.live running)

  others-vpids : (P : ℕ → Type 0) → AllByRecursion P (lent_vpids lents) → AllByRecursion P (lent_vpids others)
  others-vpids P all =
      subst (AllByRecursion P) (sym (map-removed (λ (one : Lent). one.vpid) lents k)) (all-removed P (lent_vpids lents) k all)

  others-absent : IsAbsent from.vpid (lent_vpids others)
  others-absent =
      subst (IsAbsent from.vpid) (sym (map-removed (λ (one : Lent). one.vpid) lents k))
      (subst (λ p. IsAbsent p (remove (lent_vpids lents) k)) from-at (absent-removed (lent_vpids lents) k 0 within-vpids h.once))

  module _ (m : Machine) (seg : Seg) (run : segment_of from.copy ≡ record { count = seg.count; stop = seg.stop; machine = m }) where
    abbrev work : Work
    work = returned_work m seg

    abbrev back : Playing
    back = record e { state = state_with_work from.vpid work e.state }

    with-segment : with_segment (owing_work from.copy) ≡ work
    with-segment = ran-owing from.copy ∙ ap work_after_segment run

    -- with those that are away it is a segment of its process
    back-state : state_with_works (lent_works others) back.state ≡ with_segment_of from.vpid (state_with_works (lent_works lents) e.state)
    unfolding state_with_works with_segment_of
    back-state =
        let works = with_works (lent_works lents) e.state.works in
        ap (λ works. record e.state { works = works })
        (works-brought lents k d e.state.works work within h.once
        ∙ ap (insert works from.vpid) (sym with-segment)
        ∙ ap (works_with_segment works from.vpid) (sym (work-lent lents k d e.state.works within h.once)))

    left-same : left_with back (lent_works others) ≡ left_with e (lent_works lents)
    left-same = left-alike (state_with_works (lent_works others) back.state) (state_with_works (lent_works lents) e.state) e.verdict
        (ap with_all_segments back-state ∙ ran-ahead from.vpid (state_with_works (lent_works lents) e.state))

    back-beside : IsBeside back others
    back-beside = record {
      once = subst IsOnce (sym (map-removed (λ (one : Lent). one.vpid) lents k)) (once-removed (lent_vpids lents) k h.once);
      apart = all-both (λ p. get e.state.works p ≡ None) (λ p. p ≢ from.vpid) (λ p. get (insert e.state.works from.vpid work) p ≡ None)
          (λ p none other. get-insert_other nat_cmp_total nat_cmp-IsAntisymmetric e.state.works from.vpid work p other ∙ none)
          (lent_vpids others) (others-vpids (λ p. get e.state.works p ≡ None) h.apart) others-absent;
      given = others-vpids (λ p. p < e.state.next) h.given;
      live = λ none. others-vpids (λ p. is_live p e.state ≡ true) (h.live none);
      full = λ none. subst IsFull (sym back-state) (segment-full (state_with_works (lent_works lents) e.state) from.vpid (h.full none));
    }

    back-is : (next : Playing) → next ≡ playing_with_work from.vpid work e → back ≡ next
    back-is next is = with-work-live from.vpid work e from-live ∙ sym is

    pub beside-back : (next : Playing) → next ≡ playing_with_work from.vpid work e → IsBeside next others
    beside-back next is = subst (λ e. IsBeside e others) (back-is next is) back-beside

    pub left-back : (next : Playing) → next ≡ playing_with_work from.vpid work e
        → left_with next (lent_works others) ≡ left_with e (lent_works lents)
    left-back next is = subst (λ next. left_with next (lent_works others) ≡ left_with e (lent_works lents)) (back-is next is) left-same

-- once all have come home
empty-is : {X : Type 0} → (xs : List X) → length xs ≡ 0 → xs ≡ []
empty-is [] is = refl
empty-is (x ∷ xs) is = absurd (omega arith)

home-full : (s : State) → IsFull (state_with_works [] s) → IsFull s
unfolding state_with_works
home-full s full = full

pub rest-home : (e : EngineView) (w : World) → IsLive e [] w → IsAtRest e w
rest-home e w live = record {
  whole = live.whole;
  sound = live.sound;
  full = λ none. let p = playing_of e w in home-full p.state (live.beside.full none);
}

-- where a verdict stands nothing is left that machines matter to
left-over : (e : Playing) (ws : Away) (v : Option Verdict) → IsSome v
    → rest_of (state_with_works [] e.state) v ≡ rest_of (state_with_works ws e.state) v
unfolding state_with_works
left-over e ws None some = cc
left-over e ws (Some v) some = refl

pub goes-over : (all : Run) (start told : Option (List ℕ)) (e : Playing) (ws : Away) → IsSome e.verdict
    → Goes all start e ws told → Goes all start e [] told
goes-over all start told e ws some = goes-left all start told e e ws [] (left-over e ws e.verdict some)

-- a verdict that stands isn't none
pub stands-not : {P : Type 0} → (v : Option Verdict) → IsSome v → v ≡ None → P
stands-not None some none = absurd cc
stands-not (Some v) some none = absurd cc

-- what comes back brings no verdict
kept-by : (b : Bool) (p : ℕ) (w : Work) (e : Playing)
    → (let n = cond b (record e { state = state_with_work p w e.state }) e in n.verdict ≡ e.verdict)
kept-by true p w e = refl
kept-by false p w e = refl

pub verdict-stays : (next e : Playing) (p : ℕ) (w : Work) → next ≡ playing_with_work p w e → next.verdict ≡ e.verdict
verdict-stays next e p w is = ap (λ (e : Playing). e.verdict) is ∙ kept-by (is_live p e.state) p w e

-- nothing has come home
pub keeps-same : (e : EngineView) (lents : List Lent) (w : World) → IsLive e lents w → KeepsRun e lents e lents w
keeps-same e lents w live = record { live = live; left = refl; nearer = omega arith; verdict = refl }

-- one machine after the other
pub keeps-then : (a b c : EngineView) (xs ys zs : List Lent) (w : World) → KeepsRun a xs b ys w → KeepsRun b ys c zs w → KeepsRun a xs c zs w
keeps-then a b c xs ys zs w h k = record {
  live = k.live;
  left = k.left ∙ h.left;
  nearer = omega (arith, h.nearer, k.nearer);
  verdict = k.verdict ∙ h.verdict;
}

-- a machine that has run its segment comes home
module _ (e : EngineView) (lents : List Lent) (k : ℕ) (lent : Lent) (taken : lent ≡ get_or lents k lent) (within : k < length lents)
    (running : e.verdict ≡ None) where
  -- its work was not at home
  pub away-at : AreAway e lents → get (works_of e) lent.vpid ≡ None
  away-at away =
      let count = length-map lents (λ (one : Lent). one.vpid) in
      ap (λ (one : Lent). get (works_of e) one.vpid) taken
      ∙ subst (λ p. get (works_of e) p ≡ None) (get_or-map (λ (one : Lent). one.vpid) lents k lent 0 within)
      (all-at (λ p. get (works_of e) p ≡ None) (lent_vpids lents) k 0 (omega (arith, count, within)) away)

  module _ (m : Machine) (seg : Seg) (run : HasRun lent.copy (m, seg)) (next : EngineView) (now : List Lent) (rest : now ≡ remove lents k)
      (is : (w : World) → playing_of next w ≡ playing_with_work lent.vpid (returned_work m seg) (playing_of e w))
      (nearer : (w : World) → (let p = playing_of e w in is_live lent.vpid p.state ≡ true)
      → steps_left next.state.core < steps_left e.state.core)
      (whole : IsInPlay next)
      (sound : (w : World) → IsSoundContainer e.state.container w → IsSoundContainer next.state.container w) where
    pub comes-home : (w : World) → IsLive e lents w → KeepsRun e lents next now w
    comes-home w live =
        let p = playing_of e w in
        let from = get_or lents k lent in
        let ran : segment_of from.copy ≡ record { count = seg.count; stop = seg.stop; machine = m }
        = subst (λ (one : Lent). HasRun one.copy (m, seg)) taken run in
        let becomes : playing_of next w ≡ playing_with_work from.vpid (returned_work m seg) p
        = is w ∙ ap (λ (one : Lent). playing_with_work one.vpid (returned_work m seg) p) taken in
        let lives = ap (λ (one : Lent). is_live one.vpid p.state) taken ∙ from-live p lents k lent live.beside running within in
        let less = nearer w lives in
        let fewer = length-remove lents k within in
        let count = ap (λ (xs : List Lent). length xs) rest in
        record {
          live = record {
            whole = whole;
            sound = sound w live.sound;
            beside = subst (IsBeside (playing_of next w)) (sym rest)
                (beside-back p lents k lent live.beside running within m seg ran (playing_of next w) becomes);
          };
          left = ap (λ lents. left_with (playing_of next w) (lent_works lents)) rest
              ∙ left-back p lents k lent live.beside running within m seg ran (playing_of next w) becomes;
          nearer = omega (arith, less, fewer, count, within);
          verdict = verdict-stays (playing_of next w) p from.vpid (returned_work m seg) becomes;
        }
