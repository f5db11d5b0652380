-- The machines of those that owe a segment are lent one after the other; with them at home the run is as it was.
use Rattle.std.proofs.Common.{◌≡◌, ℕ, ◌+◌, ◌<◌, true, List, [], ◌∷◌, ◌++◌, length, get_or, take, arith, Some, None, refl, sym, ap, subst, ◌∙◌}
use Rattle.std.specs.Prelude.{IsTrue}
use Rattle.std.specs.Cmp.{nat_cmp_total}
use Rattle.std.specs.FinMap.{empty, get, remove, nat_cmp-IsAntisymmetric}
use Rattle.std.specs.FinSet as set
use Rattle.std.specs.List.{AllByRecursion}
use Rattle.std.proofs.lemmas.List.{map-append, take_more}
use Rattle.std.proofs.lemmas.List.Elements.{Contains-get_or}
use Rattle.dt_host.specs.World.{World}
use Rattle.dt_tables.proofs.Maps.{at_remove, get-remove_same}
use Rattle.dt_sched.specs.Core.{is_distinct, is_owing, owing_vpids}
use Rattle.dt_calls.specs.InCode.{machines_at_home}
use Rattle.dt_rounds.specs.declared.lent.Lent.{Lent}
use Rattle.dt_engine.specs.declared.state.State.{State as StateInCode}
use Rattle.dt_engine.specs.Work.{owing_work}
use Rattle.dt_engine.specs.Ahead.{with_works, state_with_works}
use Rattle.dt_engine.specs.Happenings.{is_owing_work, is_live}
use Rattle.dt_engine.specs.Playing.{Playing, rest_of}
use Rattle.dt_engine.specs.Lent.{playing_without_work}
use Rattle.dt_engine.specs.InPlay.{EngineView, playing_of, works_of, with_places, IsFull}
use Rattle.dt_engine.specs.inner.InCode.{noted_stop, phase_in, works_in, state_of}
use Rattle.dt_engine.specs.inner.Good.{IsGood}
use Rattle.dt_engine.specs.Onward.{left_of, left_with}
use Rattle.dt_rounds.specs.inner.Round.{lent_vpids, lent_works, IsAbsent, IsOnce, HasLent, IsBeside}
use Rattle.dt_engine.proofs.Works.{get-works_in}
use Rattle.dt_engine.proofs.Arriving.{IsOwed, owed, all-owed}
use Rattle.dt_engine.proofs.Kept.{all-weaker}
use Rattle.dt_engine.proofs.Queueing.{good-full, queued-live, owing-stop, owing-by}
use Rattle.dt_rounds.proofs.Rounds.{owing-once, absent-first, work-apart, works-lent, all-more}

-- no machine was lent yet
pub none-lent : (first : EngineView) → HasLent first [] first
none-lent first = record { rest = refl; works = refl; apart = tt }

-- a process that owes, with its machine at home
owing-work : (s : StateInCode) (p : ℕ) → IsOwed s.core.queue (machines_at_home s.container.places) s.stops s.container.shared.pids.next p
    → IsTrue (is_owing_work (get (works_in (machines_at_home s.container.places) (phase_in s.core.queue s.stops)) p))
owing-work s p h =
    let machines = machines_at_home s.container.places in
    let phases = phase_in s.core.queue s.stops in
    ap is_owing_work (get-works_in machines phases p)
    ∙ owing-by (phases p) (get machines p) h.home
    ∙ owing-stop _ (noted_stop (get s.stops p))
    ∙ ap is_owing h.owes

-- one that is lent after others
module _ (first now : EngineView) (lents : List Lent) (k : ℕ) (has : HasLent first lents now) (good : IsGood first.state)
    (once : IsTrue (is_distinct first.state.core.queue)) (within : k < length (owing_vpids first.state.core.queue))
    (are : lent_vpids lents ≡ take k (owing_vpids first.state.core.queue)) where
  abbrev next : ℕ
  next = get_or (owing_vpids first.state.core.queue) k 0

  pub may-lend : IsTrue (is_owing_work (get (works_of now) next))
  may-lend =
      let apart = absent-first (owing_vpids first.state.core.queue) k 0 within (owing-once first.state.core.queue once) in
      subst (λ found. IsTrue (is_owing_work found))
      (ap (λ works. get works next) (sym has.works)
      ∙ work-apart lents (works_of now) next (subst (IsAbsent next) (sym are) apart))
      (owing-work first.state next
      (owed first.state next good once (Contains-get_or (owing_vpids first.state.core.queue) k 0 within)))

  module _ (one : Lent) (is : one.vpid ≡ next) (work : get (works_of now) one.vpid ≡ Some (owing_work one.copy)) where
    pub vpids-more : lent_vpids (lents ++ one ∷ []) ≡ take (k + 1) (owing_vpids first.state.core.queue)
    vpids-more =
        map-append (λ (one : Lent). one.vpid) lents (one ∷ [])
        ∙ ap (λ ps. ps ++ one.vpid ∷ []) are
        ∙ ap (λ p. take k (owing_vpids first.state.core.queue) ++ p ∷ []) is
        ∙ sym (take_more (owing_vpids first.state.core.queue) k 0 within)

    apart-still : (p : ℕ) → get (works_of now) p ≡ None → get (remove (works_of now) one.vpid) p ≡ None
    apart-still p none = at_remove nat_cmp_total nat_cmp-IsAntisymmetric (λ found. found ≡ None) (works_of now) one.vpid p (λ _. refl) (λ _. none)

    pub lent-more : (new : EngineView) → ((w : World) → playing_of new w ≡ playing_without_work one.vpid (playing_of now w))
        → new ≡ with_places now new.state.container.places → HasLent first (lents ++ one ∷ []) new
    lent-more new run rest =
        let nowhere : World = record { forest = record { nodes = empty; root = 0 }; pipes = empty; pids = set.empty } in
        let works : works_of new ≡ remove (works_of now) one.vpid = ap (λ (e : Playing). e.state.works) (run nowhere) in
        record {
          rest = rest ∙ ap (λ (e : EngineView). with_places e new.state.container.places) has.rest;
          works = ap (with_works (lent_works (lents ++ one ∷ []))) works ∙ works-lent lents one (works_of now) work ∙ has.works;
          apart = subst (AllByRecursion (λ p. get (works_of new) p ≡ None)) (sym (map-append (λ (one : Lent). one.vpid) lents (one ∷ [])))
              (subst (λ works. AllByRecursion (λ p. get works p ≡ None) (lent_vpids lents ++ one.vpid ∷ [])) (sym works)
              (all-more (λ p. get (remove (works_of now) one.vpid) p ≡ None) (lent_vpids lents) one.vpid
              (all-weaker (λ p. get (works_of now) p ≡ None) (λ p. get (remove (works_of now) one.vpid) p ≡ None)
              apart-still (lent_vpids lents) has.apart)
              (get-remove_same nat_cmp_total nat_cmp-IsAntisymmetric (works_of now) one.vpid)));
        }

-- once all were lent
module _ (first now : EngineView) (w : World) (lents : List Lent) (has : HasLent first lents now) where
  lent-state : state_with_works (lent_works lents) (state_of now.state w) ≡ state_of first.state w
  unfolding state_with_works
  lent-state =
      ap (λ (e : EngineView). record (state_of e.state w) { works = with_works (lent_works lents) (works_of now) }) has.rest
      ∙ ap (λ works. record (state_of first.state w) { works = works }) has.works

  -- as much is left of the run as before
  pub lent-left : left_with (playing_of now w) (lent_works lents) ≡ left_of (playing_of first w)
  lent-left =
      ap (λ s. rest_of s now.verdict) lent-state
      ∙ ap (rest_of (state_of first.state w)) (ap (λ (e : EngineView). e.verdict) has.rest)

  pub lent-beside : IsGood first.state → IsTrue (is_distinct first.state.core.queue)
      → lent_vpids lents ≡ owing_vpids first.state.core.queue → IsBeside (playing_of now w) lents
  lent-beside good once are =
      let queue = first.state.core.queue in
      let machines = machines_at_home first.state.container.places in
      let given = first.state.container.shared.pids.next in
      let owe = all-owed machines first.state.stops given queue once good.placed in
      record {
        once = subst IsOnce (sym are) (owing-once queue once);
        apart = has.apart;
        given = subst (AllByRecursion (λ p. p < now.state.container.shared.pids.next)) (sym are)
            (subst (λ (e : EngineView). AllByRecursion (λ p. p < e.state.container.shared.pids.next) (owing_vpids queue)) (sym has.rest)
            (all-weaker (IsOwed queue machines first.state.stops given) (λ p. p < given) (λ p h. h.given) (owing_vpids queue) owe));
        live = λ _. subst (AllByRecursion (λ p. is_live p (state_of now.state w) ≡ true)) (sym are)
            (subst (λ (e : EngineView). AllByRecursion (λ p. is_live p (state_of e.state w) ≡ true) (owing_vpids queue)) (sym has.rest)
            (all-weaker (IsOwed queue machines first.state.stops given) (λ p. is_live p (state_of first.state w) ≡ true)
            (λ p h. sym (queued-live p queue) ∙ h.queued) (owing_vpids queue) owe));
        full = λ _. subst IsFull (sym lent-state) (good-full first.state w good);
      }
