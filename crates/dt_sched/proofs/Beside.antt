-- An arrival of another process beside the head's turn.
use Rattle.std.proofs.Common.{ℕ, ◌≡◌, ◌≢◌, ◌-◌, ◌==◌, Bool, true, false, cond, List, [], ◌∷◌, ◌++◌, map, refl, sym, ap, ◌∙◌, arith}
use Rattle.std.proofs.lemmas.Bool.Decides.{nat_tests}
use Rattle.std.proofs.lemmas.List.{map-append}
use Rattle.dt_sched.specs.declared.process.Process.{Process}
use Rattle.dt_sched.specs.declared.process.Phase.TheVariants.{Waits as PhaseWaits}
use Rattle.dt_sched.specs.declared.settled.Settled.{Settled}
use Rattle.dt_sched.specs.declared.settled.Settled.TheVariants.{Again, Child, LastChild, Waits as Blocked, Moved, Gone, Stopped}
use Rattle.dt_sched.specs.Core.{CoreView, process_after_arrival, core_after_arrival, cost_of, owing_process, processes_after_turn, core_after_turn_of, core_after_turn}
use Rattle.dt_sched.specs.Laws.{HasNoChild}
use Rattle.dt_sched.specs.Order.{blocked_after, verdict_after}

module _ (vpid cost : ℕ) where
  abbrev at : Process → Process
  at = process_after_arrival vpid cost

  at-other : (x : Process) → x.vpid ≢ vpid → at x ≡ x
  at-other x apart = grind (arith, nat_tests)

  one-behind : (rest : List Process) (x : Process) → x.vpid ≢ vpid → map at (rest ++ x ∷ []) ≡ map at rest ++ x ∷ []
  one-behind rest x apart = map-append at rest (x ∷ []) ∙ ap (λ y. map at rest ++ y ∷ []) (at-other x apart)

  two-behind : (rest : List Process) (x y : Process) → x.vpid ≢ vpid → y.vpid ≢ vpid → map at (rest ++ x ∷ y ∷ []) ≡ map at rest ++ x ∷ y ∷ []
  two-behind rest x y apart child =
      map-append at rest (x ∷ y ∷ []) ∙ ap (λ z. map at rest ++ z ∷ at y ∷ []) (at-other x apart)
      ∙ ap (λ z. map at rest ++ x ∷ z ∷ []) (at-other y child)

  ended : (b : Bool) (xs ys : List Process) → map at xs ≡ ys → map at (cond b [] xs) ≡ cond b [] ys
  ended true xs ys is = refl
  ended false xs ys is = is

  queue-beside : (p : Process) (rest : List Process) (turn : Settled) → p.vpid ≢ vpid → HasNoChild vpid turn
      → map at (processes_after_turn p rest turn) ≡ processes_after_turn p (map at rest) turn
  queue-beside p rest Again apart none = one-behind rest (owing_process p.vpid) apart
  queue-beside p rest (Child child) apart none = two-behind rest (owing_process p.vpid) (owing_process child) apart none
  queue-beside p rest (LastChild child) apart none = ended (p.vpid == 1) _ _ (one-behind rest (owing_process child) none)
  queue-beside p rest Blocked apart none = one-behind rest (record p { phase = PhaseWaits }) apart
  queue-beside p rest Moved apart none = one-behind rest (record p { phase = PhaseWaits }) apart
  queue-beside p rest Gone apart none = ended (p.vpid == 1) rest (map at rest) refl
  queue-beside p rest (Stopped number) apart none = ap (λ x. x ∷ map at rest) (at-other p apart)

  settled-beside : (core : CoreView) (p : Process) (ps : List Process) (turn : Settled) → p.vpid ≢ vpid → HasNoChild vpid turn
      → core_after_arrival vpid cost (core_after_turn_of core (p ∷ ps) turn) ≡ core_after_turn_of (core_after_arrival vpid cost core) (map at (p ∷ ps)) turn
  settled-beside core p ps turn apart none =
      let queue = queue-beside p ps turn apart none in
      (λ i. record {
        queue = queue i;
        blocked = blocked_after core.blocked turn;
        left = core.left - cost_of p.phase;
        verdict = verdict_after p.vpid turn;
      })
      ∙ ap (λ x. core_after_turn_of (core_after_arrival vpid cost core) (x ∷ map at ps) turn) (sym (at-other p apart))

pub arrival-beside : (core : CoreView) (p : Process) (ps : List Process) (vpid cost : ℕ) (turn : Settled) → core.queue ≡ p ∷ ps
    → p.vpid ≢ vpid → HasNoChild vpid turn
    → core_after_arrival vpid cost (core_after_turn core turn) ≡ core_after_turn (core_after_arrival vpid cost core) turn
arrival-beside core p ps vpid cost turn queue apart none =
    ap (λ q. core_after_arrival vpid cost (core_after_turn_of core q turn)) queue
    ∙ settled-beside vpid cost core p ps turn apart none
    ∙ ap (λ q. core_after_turn_of (core_after_arrival vpid cost core) (map (process_after_arrival vpid cost) q) turn) (sym queue)
