-- The works after a turn.
use Rattle.std.proofs.Common.{◌≡◌, ◌≢◌, ℕ, ◌==◌, Bool, true, false, cond, List, Option, Some, None, refl, sym, ap, subst, ◌∙◌, arith}
use Rattle.std.proofs.lemmas.Bool.Decides.{nat_tests}
use Rattle.std.specs.FinMap.{empty, get, insert}
use Rattle.dt_rv64.specs.declared.machine.Machine.{Machine}
use Rattle.dt_rv64.specs.declared.segments.Seg.{Seg}
use Rattle.dt_sched.specs.declared.process.Process.{Process}
use Rattle.dt_sched.specs.declared.process.Phase.{Phase}
use Rattle.dt_sched.specs.declared.process.Phase.TheVariants.{Owes}
use Rattle.dt_sched.specs.Core.{is_queued, phase_after_turn}
use Rattle.dt_calls.specs.declared.container.Served.{Served}
use Rattle.dt_calls.specs.declared.container.Served.TheVariants.{Done, Child, LastChild, Blocked, Progress, Ended, Unsupported}
use Rattle.dt_calls.specs.Container.{Machines}
use Rattle.dt_calls.specs.Settle as calls
use Rattle.dt_calls.specs.Settle.{ProcessTurn, machines_after_turn, with_own}
use Rattle.dt_calls.proofs.Fits.{FitsOwn, FitsChild, Fits}
use Rattle.dt_engine.specs.Work.{Work, Works, owing_work}
use Rattle.dt_engine.specs.Turn.{with_child_work, own_work_after, settled_of}
use Rattle.dt_engine.specs.inner.InCode.{Stops, noted_stop, with_stop, work_in, works_in}
use Rattle.dt_engine.proofs.Works.{Only, works_in-insert, works_in-remove, works_in-empty}
use Rattle.dt_engine.proofs.Standings.{before, after, IsNoChild, GoesOn, IsNext, stays, own-phase, next-owes}

-- by the machines then it made no child, or one of the next pid, and the process goes on or has ended
no-child : (next q : ℕ) (served : Served) (child : Option Machine) → FitsChild next served child → q ≢ next → IsNoChild q served
no-child next q Done child fits apart = tt
no-child next q (Child vpid) child fits apart = λ e. apart (e ∙ fits.is_next)
no-child next q (LastChild vpid) child fits apart = λ e. apart (e ∙ fits.is_next)
no-child next q Blocked child fits apart = tt
no-child next q Progress child fits apart = tt
no-child next q Ended child fits apart = tt
no-child next q (Unsupported number) child fits apart = tt

-- a turn without a child's machine made no child
pub childless : (next q : ℕ) (served : Served) → FitsChild next served None → IsNoChild q served
childless next q Done fits = tt
childless next q (Child vpid) fits = let born = fits.machine in cc
childless next q (LastChild vpid) fits = let born = fits.machine in cc
childless next q Blocked fits = tt
childless next q Progress fits = tt
childless next q Ended fits = tt
childless next q (Unsupported number) fits = tt

-- a child has the next pid
pub fits-next : (next : ℕ) (served : Served) (child : Option Machine) → FitsChild next served child → IsNext next served
fits-next next Done child fits = tt
fits-next next (Child vpid) child fits = fits.is_next
fits-next next (LastChild vpid) child fits = fits.is_next
fits-next next Blocked child fits = tt
fits-next next Progress child fits = tt
fits-next next Ended child fits = tt
fits-next next (Unsupported number) child fits = tt

pub goes-on : (served : Served) (m : Machine) → FitsOwn served (Some m) → GoesOn served
goes-on Done m fits = tt
goes-on (Child vpid) m fits = tt
goes-on (LastChild vpid) m fits = cc
goes-on Blocked m fits = tt
goes-on Progress m fits = tt
goes-on Ended m fits = cc
goes-on (Unsupported number) m fits = tt

left-works : (b : Bool) (works : Works) (machines : Machines) (phases : ℕ → Phase Seg)
    → (b ≡ false → works ≡ works_in machines phases)
    → cond b empty works ≡ works_in (cond b empty machines) phases
left-works true works machines phases is = sym (works_in-empty phases)
left-works false works machines phases is = is refl

own-works : (machines : Machines) (old new : ℕ → Phase Seg) (p : ℕ) (w : Work) (t : _) (own : Option Machine) → Only p old new
    → ((m : Machine) → own ≡ Some m → new p ≡ phase_after_turn w.phase t)
    → with_own (works_in machines old) p (own_work_after w t own) ≡ works_in (calls.with_own machines p own) new
own-works machines old new p w t None only is = sym (works_in-remove machines old new p only)
own-works machines old new p w t (Some m) only is =
    ap (λ phase. insert (works_in machines old) p (work_in phase m)) (sym (is m refl))
    ∙ sym (works_in-insert machines old new p m only)

-- where processes stand if one of them has moved on
abbrev changed : ℕ → (ℕ → Phase Seg) → (ℕ → Phase Seg) → ℕ → Phase Seg
changed p old new q = cond (q == p) (new q) (old q)

changed-here : (p q : ℕ) (old new : ℕ → Phase Seg) (b : Bool) → (q == p) ≡ b → (b ≡ false → new q ≡ old q)
    → new q ≡ cond b (new q) (old q)
changed-here p q old new true is same = refl
changed-here p q old new false is same = same refl

-- the work of a process whose turn it was
abbrev pub the_work : Stops → Process → Machine → Work
the_work stops x m = record { machine = m; phase = with_stop x.phase (noted_stop (get stops x.vpid)) }

-- the works after a turn of a process, unless all have ended
abbrev pub works_with : Works → ℕ → ℕ → Work → ProcessTurn → Works
works_with works next p w r = with_child_work (with_own works p (own_work_after w (settled_of r.served) r.own)) next r.child

module _ (machines : Machines) (stops : Stops) (next : ℕ) (x : Process) (rest : List Process) (w : Work) (r : ProcessTurn)
    (fits : Fits next r) (once : is_queued x.vpid rest ≡ false) (new_pid : is_queued next rest ≡ false)
    (apart : next ≢ x.vpid) (phase : w.phase ≡ with_stop x.phase (noted_stop (get stops x.vpid))) where
  own-now : (m : Machine) → r.own ≡ Some m
      → after stops x rest r.served x.vpid ≡ phase_after_turn w.phase (settled_of r.served)
  own-now m is =
      own-phase stops x rest r.served once (goes-on r.served m (subst (FitsOwn r.served) is fits.own))
      (no-child next x.vpid r.served r.child fits.child (λ e. apart (sym e)))
      ∙ ap (λ phase. phase_after_turn phase (settled_of r.served)) (sym phase)

  -- without a child
  alone : calls.is_end_of_all x.vpid r.served ≡ false → ((q : ℕ) → IsNoChild q r.served)
      → with_own (works_in machines (before stops x rest)) x.vpid (own_work_after w (settled_of r.served) r.own)
      ≡ works_in (calls.with_own machines x.vpid r.own) (after stops x rest r.served)
  alone on none = own-works machines (before stops x rest) (after stops x rest r.served) x.vpid w (settled_of r.served) r.own
      (λ q far. stays stops x rest r.served q far (none q) on) own-now

  -- with a child, before its work comes in
  parent : calls.is_end_of_all x.vpid r.served ≡ false
      → with_own (works_in machines (before stops x rest)) x.vpid (own_work_after w (settled_of r.served) r.own)
      ≡ works_in (calls.with_own machines x.vpid r.own)
      (changed x.vpid (before stops x rest) (after stops x rest r.served))
  parent on = own-works machines (before stops x rest)
      (changed x.vpid (before stops x rest) (after stops x rest r.served)) x.vpid w (settled_of r.served) r.own
      (λ q far. grind (arith, nat_tests))
      (λ m is. grind (arith, nat_tests) ∙ own-now m is)

  child-only : calls.is_end_of_all x.vpid r.served ≡ false
      → Only next (changed x.vpid (before stops x rest) (after stops x rest r.served)) (after stops x rest r.served)
  child-only on q far = changed-here x.vpid q (before stops x rest) (after stops x rest r.served) (q == x.vpid) refl
      (λ is. stays stops x rest r.served q (λ e. absurd (grind (arith, nat_tests)))
      (no-child next q r.served r.child fits.child far) on)

  -- a child owes
  next-stands : calls.is_end_of_all x.vpid r.served ≡ false → after stops x rest r.served next ≡ Owes
  next-stands on = next-owes stops x rest r.served next (fits-next next r.served r.child fits.child) new_pid apart on

  by-child : (child : Option Machine) → r.child ≡ child → calls.is_end_of_all x.vpid r.served ≡ false
      → with_child_work (with_own (works_in machines (before stops x rest)) x.vpid
      (own_work_after w (settled_of r.served) r.own)) next child
      ≡ works_in (calls.with_child_machine (calls.with_own machines x.vpid r.own) next child) (after stops x rest r.served)
  by-child None is on = alone on (λ q. childless next q r.served (subst (FitsChild next r.served) is fits.child))
  by-child (Some m) is on =
      ap (λ works. insert works next (owing_work m)) (parent on)
      ∙ ap (λ phase. insert (works_in (calls.with_own machines x.vpid r.own)
      (changed x.vpid (before stops x rest) (after stops x rest r.served))) next (work_in phase m)) (sym (next-stands on))
      ∙ sym (works_in-insert (calls.with_own machines x.vpid r.own)
      (changed x.vpid (before stops x rest) (after stops x rest r.served)) (after stops x rest r.served) next m (child-only on))

  -- the works after a turn are the machines then, each with where its process stands then
  pub works-after : cond (calls.is_end_of_all x.vpid r.served) empty (works_with (works_in machines (before stops x rest)) next x.vpid w r)
      ≡ works_in (machines_after_turn machines next x.vpid r) (after stops x rest r.served)
  works-after = left-works (calls.is_end_of_all x.vpid r.served) _
      (calls.with_child_machine (calls.with_own machines x.vpid r.own) next r.child) (after stops x rest r.served)
      (by-child r.child refl)
