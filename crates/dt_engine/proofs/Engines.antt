-- What the engine's calls make of a run in play.
use Rattle.std.proofs.Common.{◌≡◌, ◌≢◌, ℕ, ◌≤◌, ◌==◌, Bool, true, false, cond, List, [], ◌∷◌, map, Option, Some, None, refl, sym, ap, subst, ◌∙◌, arith, ⊎_elim}
use Rattle.std.specs.Prelude.{◌||◌, is_some, IsSome, IsTrue, option_map}
use Rattle.std.proofs.lemmas.Bool.Decides.{nat_tests}
use Rattle.std.specs.List.{AllByRecursion, list_any}
use Rattle.std.specs.Cmp.{nat_cmp_total}
use Rattle.std.specs.FinMap.{get, insert, nat_cmp-IsAntisymmetric}
use Rattle.dt_base.specs.declared.event.Verdict.{Verdict}
use Rattle.dt_host.specs.World.{World}
use Rattle.dt_tables.proofs.Maps.{at_insert, get-remove_other}
use Rattle.dt_rv64.specs.declared.machine.Machine.{Machine}
use Rattle.dt_rv64.specs.declared.segments.Seg.{Seg}
use Rattle.dt_rv64.specs.declared.segments.Stop.{Stop}
use Rattle.dt_sched.specs.declared.process.Process.{Process}
use Rattle.dt_sched.specs.declared.process.Phase.{Phase}
use Rattle.dt_sched.specs.declared.process.Phase.TheVariants.{Owes, Ran, Waits}
use Rattle.dt_sched.specs.declared.settled.Head.TheVariants.{NotArrived, Ready, Over}
use Rattle.dt_sched.specs.Core.{IsCore, head, is_distinct, is_owing, is_queued, owing_vpids, process_after_arrival}
use Rattle.dt_procs.specs.declared.member.TheConstants.{PROCESS_LIMIT}
use Rattle.dt_calls.specs.Container.{Machines}
use Rattle.dt_calls.specs.InCode.{ContainerView, shared_of, machines_at_home}
use Rattle.dt_calls.specs.Sound.{IsSoundContainer}
use Rattle.dt_calls.proofs.Homes.{home-away, home-given}
use Rattle.dt_engine.specs.declared.state.State.{State as StateInCode}
use Rattle.dt_engine.specs.declared.happening.Admitted.TheVariants as admitted
use Rattle.dt_engine.specs.Work.{Work, owing_work}
use Rattle.dt_engine.specs.Turn.{turn}
use Rattle.dt_engine.specs.Playing.{Playing}
use Rattle.dt_engine.specs.Admission.{admission, admission_by, admission_of_turn, no_admission, awaited, is_idle}
use Rattle.dt_engine.specs.Happenings.{is_owing_work, is_live}
use Rattle.dt_engine.specs.Lent.{state_without_work, state_with_work, playing_with_work, returned_work}
use Rattle.dt_engine.specs.InPlay.{EngineView, playing_of, IsKeptProcess, IsKeptIn, IsKept, IsInPlay}
use Rattle.dt_engine.specs.inner.InCode.{phase_at, noted_stop, with_stop, phase_in, work_in, works_in, state_of}
use Rattle.dt_engine.specs.inner.Arriving.{with_arrival}
use Rattle.dt_engine.proofs.Works.{get-works_in, works_in-insert, works_in-remove}
use Rattle.dt_engine.proofs.Queued.{over-head, pids-arrived}
use Rattle.dt_engine.proofs.Standings.{phase-absent}
use Rattle.dt_engine.proofs.Placed.{once-apart}
use Rattle.dt_engine.proofs.Arriving.{arrived-only, arrived-own, home-there, noted-there, place-was, keys-same}
use Rattle.dt_engine.proofs.Came.{spent-turn}
use Rattle.dt_engine.proofs.Queueing.{awaited-late, awaited-ready, awaited-spent, all-both, live-away}

-- an admission where a verdict stands
pub admission-over : (e : EngineView) (w : World) (v : Verdict) → e.verdict ≡ Some v
    → admission (playing_of e w) ≡ no_admission (playing_of e w) (admitted.Over v)
unfolding admission
admission-over e w v is = ap (λ v. admission_by (playing_of e w) v (awaited (state_of e.state w))) is

-- where none stands, by who is awaited
admission-by : (e : EngineView) (w : World) (late : Option ℕ) → e.verdict ≡ None → awaited (state_of e.state w) ≡ late
    → admission (playing_of e w) ≡ admission_by (playing_of e w) None late
unfolding admission
admission-by e w late none is =
    ap (λ v. admission_by (playing_of e w) v (awaited (state_of e.state w))) none
    ∙ ap (admission_by (playing_of e w) None) is

pub admission-late : (e : EngineView) (w : World) (p : ℕ) → IsInPlay e → e.verdict ≡ None → head e.state.core ≡ NotArrived p
    → admission (playing_of e w) ≡ no_admission (playing_of e w) (admitted.NotArrived p)
admission-late e w p whole none late = admission-by e w (Some p) none (awaited-late e.state w p whole.kept late)

pub admission-ready : (e : EngineView) (w : World) (p : ℕ) → IsInPlay e → e.verdict ≡ None → head e.state.core ≡ Ready p
    → admission (playing_of e w) ≡ admission_of_turn (turn (state_of e.state w))
admission-ready e w p whole none ready = admission-by e w None none (awaited-ready e.state w p whole.kept ready)

-- there is something to do then
pub not-idle : (e : EngineView) (w : World) (p : ℕ) → IsInPlay e → e.verdict ≡ None → head e.state.core ≡ Ready p
    → IsTrue (is_idle (playing_of e w)) → ⊥
not-idle e w p whole none ready idle =
    let late = awaited-ready e.state w p whole.kept ready in
    let off : is_idle (playing_of e w) ≡ false = ap (λ v. is_some v || is_some (awaited (state_of e.state w))) none ∙ ap is_some late in
    let bad = sym off ∙ idle in
    cc

-- nobody is awaited where the budget doesn't pay for the head's turn
pub awaited-over : (e : EngineView) (w : World) (v : Verdict) → IsInPlay e → e.verdict ≡ None → IsCore e.state.core
    → head e.state.core ≡ Over v → awaited (state_of e.state w) ≡ None
awaited-over e w v whole none sound over =
    ⊎_elim
    (λ (stands : e.state.core.verdict ≡ Some v). let running = whole.running none in cc)
    (λ h. awaited-spent e.state w whole.kept h.1.1)
    (over-head e.state.core v sound over)

-- where the budget doesn't pay for the head's turn
pub admission-spent : (e : EngineView) (w : World) (v : Verdict) → IsInPlay e → e.verdict ≡ None → IsCore e.state.core
    → head e.state.core ≡ Over v
    → admission (playing_of e w)
    ≡ record { answer = admitted.Over v; next = record { state = state_of e.state w; verdict = Some v }; events = [] }
admission-spent e w v whole none sound over =
    ⊎_elim
    (λ (stands : e.state.core.verdict ≡ Some v). let running = whole.running none in cc)
    (λ h. admission-by e w None none (awaited-spent e.state w whole.kept h.1.1)
    ∙ ap admission_of_turn (spent-turn e.state w whole.kept sound h.1.1)
    ∙ ap (λ v. record { answer = admitted.Over v; next = record { state = state_of e.state w; verdict = Some v }; events = [] })
    (sym h.1.0))
    (over-head e.state.core v sound over)

-- a place that is filled or emptied
pub sound-placed : (c : ContainerView) (w : World) (p : ℕ) (v : Option Machine) → IsSome (get c.places p) → IsSoundContainer c w
    → IsSoundContainer (record c { places = insert c.places p v }) w
sound-placed c w p v there sound = record {
  shared = sound.shared;
  paired = λ q some. sound.paired q (place-was c.places p v q there some);
  few = subst (λ n. n ≤ PROCESS_LIMIT) (sym (keys-same c.places p v there)) sound.few;
}

-- a process whose work owes
owing-found : (phase : Phase Seg) (found : Option Machine) → IsTrue (is_owing_work (option_map (work_in phase) found))
    → IsSome found × IsTrue (is_owing phase)
owing-found phase None owes = cc
owing-found phase (Some m) owes = (refl, owes)

owes-so : (phase : Phase ℕ) (stop : Stop) → IsTrue (is_owing (with_stop phase stop)) → phase ≡ Owes
owes-so Owes stop owes = refl
owes-so (Ran count) stop owes = cc
owes-so Waits stop owes = cc

-- those of a queue that don't owe are others than one that owes
abbrev AreOthers : ℕ → List Process → Type 0
AreOthers p xs = AllByRecursion (λ (x : Process). is_owing x.phase ≡ false → x.vpid ≢ p) xs

others-by : (p : ℕ) (x : Process) (xs : List Process) (here : Bool) → (x.vpid == p) ≡ here → cond here x.phase (phase_at p xs) ≡ Owes
    → is_queued x.vpid xs ≡ false → (phase_at p xs ≡ Owes → AreOthers p xs) → AreOthers p (x ∷ xs)
others-by p x xs true is owes apart rest =
    let e : x.vpid ≡ p = grind (arith, nat_tests) in (
      λ arrived. let no : is_owing x.phase ≡ true = ap is_owing owes in cc,
      rest (subst (λ n. phase_at n xs ≡ Owes) e (phase-absent x.vpid xs apart)),
    )
others-by p x xs false is owes apart rest = (λ _. grind (arith, nat_tests), rest owes)

apart-owing : (p : ℕ) (queue : List Process) → IsTrue (is_distinct queue) → phase_at p queue ≡ Owes → AreOthers p queue
apart-owing p [] once owes = tt
apart-owing p (x ∷ xs) once owes =
    let tests = once-apart (is_queued x.vpid xs) (is_distinct xs) once in
    others-by p x xs (x.vpid == p) refl owes tests.0 (λ left. apart-owing p xs tests.1 left)

-- a machine is lent
module _ (s : StateInCode) (p : ℕ)
    (owing : IsTrue (is_owing_work (get (works_in (machines_at_home s.container.places) (phase_in s.core.queue s.stops)) p))) where
  abbrev machines : Machines
  machines = machines_at_home s.container.places

  abbrev phases : ℕ → Phase Seg
  phases = phase_in s.core.queue s.stops

  found : IsSome (get machines p) × IsTrue (is_owing (phases p))
  found = owing-found (phases p) (get machines p) (subst (λ x. IsTrue (is_owing_work x)) (get-works_in machines phases p) owing)

  pub lent-home : IsSome (get machines p)
  lent-home = found.0

  owes : phase_at p s.core.queue ≡ Owes
  owes = owes-so (phase_at p s.core.queue) (noted_stop (get s.stops p)) found.1

  pub lent-work : (m : Machine) → get machines p ≡ Some m → get (works_in machines phases) p ≡ Some (owing_work m)
  lent-work m is =
      get-works_in machines phases p ∙ ap (option_map (work_in (phases p))) is
      ∙ ap (λ phase. Some (work_in (with_stop phase (noted_stop (get s.stops p))) m)) owes

  -- the state without it
  abbrev pub lent : StateInCode
  lent = record s { container = record s.container { places = insert s.container.places p None } }

  pub lent-run : (w : World) → state_of lent w ≡ state_without_work p (state_of s w)
  lent-run w = ap (λ works. record (state_of s w) { works = works })
      (ap (λ ms. works_in ms phases) (home-away s.container.places p) ∙ works_in-remove machines phases phases p (λ q apart. refl))

  lent-process : (x : Process) → (is_owing x.phase ≡ false → x.vpid ≢ p) → IsKeptIn s x → IsKeptIn lent x
  lent-process x apart h = record {
    place = at_insert nat_cmp_total nat_cmp-IsAntisymmetric (λ found. IsSome found) s.container.places p None x.vpid (λ _. refl) (λ _. h.place);
    home = λ arrived. subst (λ ms. IsSome (get ms x.vpid)) (sym (home-away s.container.places p))
        (subst IsSome (sym (get-remove_other nat_cmp_total nat_cmp-IsAntisymmetric machines p x.vpid (apart arrived))) (h.home arrived));
    noted = h.noted;
    given = h.given;
  }

  pub lent-kept : IsKept s → IsTrue (is_distinct s.core.queue) → IsKept lent
  lent-kept kept once = record {
    kept = all-both (λ (x : Process). is_owing x.phase ≡ false → x.vpid ≢ p) (IsKeptIn s) (IsKeptIn lent)
        lent-process s.core.queue (apart-owing p s.core.queue once owes) kept.kept;
  }

-- a machine comes back
module _ (s : StateInCode) (p : ℕ) (m : Machine) (seg : Seg) where
  abbrev back : StateInCode
  back = with_arrival s p m seg

  pub back-run : (w : World) → is_queued p s.core.queue ≡ true → state_of back w ≡ state_with_work p (returned_work m seg) (state_of s w)
  back-run w there =
      let machines = machines_at_home s.container.places in
      let before = phase_in s.core.queue s.stops in
      let after = phase_in (map (process_after_arrival p seg.count) s.core.queue) (insert s.stops p seg.stop) in
      let works = ap (λ ms. works_in ms after) (home-given s.container.places p m)
      ∙ works_in-insert machines before after p m (arrived-only s.core.queue s.stops p seg)
      ∙ ap (λ phase. insert (works_in machines before) p (work_in phase m)) (arrived-own s.core.queue s.stops p seg there) in
      let order = pids-arrived p seg.count s.core.queue in
      λ i. record {
        shared = shared_of s.container.shared w;
        works = works i;
        schedule = record { order = order i; blocked = s.core.blocked; left = s.core.left };
        next = s.container.shared.pids.next;
      }

  back-process : (here : Bool) (x : Process) → (x.vpid == p) ≡ here → IsKeptIn s x
      → IsKeptProcess (insert s.container.places p (Some m)) (insert s.stops p seg.stop) s.container.shared.pids.next
      (cond here (record x { phase = Ran seg.count }) x)
  back-process true x is h = record {
    place = at_insert nat_cmp_total nat_cmp-IsAntisymmetric (λ found. IsSome found) s.container.places p (Some m) x.vpid (λ _. refl) (λ _. h.place);
    home = λ _. subst (λ ms. IsSome (get ms x.vpid)) (sym (home-given s.container.places p m))
        (at_insert nat_cmp_total nat_cmp-IsAntisymmetric (λ found. IsSome found) (machines_at_home s.container.places) p m x.vpid (λ _. refl)
        (λ apart. absurd (grind (arith, nat_tests))));
    noted = noted-there s.stops p seg.stop x.vpid h.noted;
    given = h.given;
  }
  back-process false x is h = record {
    place = at_insert nat_cmp_total nat_cmp-IsAntisymmetric (λ found. IsSome found) s.container.places p (Some m) x.vpid (λ _. refl) (λ _. h.place);
    home = λ arrived. subst (λ ms. IsSome (get ms x.vpid)) (sym (home-given s.container.places p m))
        (home-there (machines_at_home s.container.places) p m x.vpid (h.home arrived));
    noted = noted-there s.stops p seg.stop x.vpid h.noted;
    given = h.given;
  }

  back-processes : (xs : List Process) → AllByRecursion (IsKeptIn s) xs
      → AllByRecursion (IsKeptIn back) (map (process_after_arrival p seg.count) xs)
  back-processes [] all = tt
  back-processes (x ∷ xs) all = (back-process (x.vpid == p) x refl all.0, back-processes xs all.1)

  pub back-kept : IsKept s → IsKept back
  back-kept kept = record { kept = back-processes s.core.queue kept.kept }

-- a machine that isn't at home
none-before : (phase : Phase Seg) (found : Option Machine) → option_map (work_in phase) found ≡ None → found ≡ None
none-before phase None is = refl
none-before phase (Some m) is = cc

-- whether a process lives whose machine isn't at home
pub away-lives : (s : StateInCode) (w : World) (p : ℕ) → IsKept s
    → get (works_in (machines_at_home s.container.places) (phase_in s.core.queue s.stops)) p ≡ None
    → is_live p (state_of s w) ≡ list_any (λ q. q == p) (owing_vpids s.core.queue)
away-lives s w p kept away =
    let machines = machines_at_home s.container.places in
    let phases = phase_in s.core.queue s.stops in
    live-away s p s.core.queue
    (none-before (phases p) (get machines p) (sym (get-works_in machines phases p) ∙ away)) kept.kept

-- what comes back to a run in play
pub with-work-live : (p : ℕ) (work : Work) (e : Playing) → is_live p e.state ≡ true
    → record e { state = state_with_work p work e.state } ≡ playing_with_work p work e
with-work-live p work e live = ap (λ b. cond b (record e { state = state_with_work p work e.state }) e) (sym live)

pub with-work-dead : (p : ℕ) (work : Work) (e : Playing) → is_live p e.state ≡ false → e ≡ playing_with_work p work e
with-work-dead p work e dead = ap (λ b. cond b (record e { state = state_with_work p work e.state }) e) (sym dead)
