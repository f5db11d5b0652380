-- The status of a run that was completed, and those that it is not.
use Rattle.std.proofs.Common.{◌≡◌, ℕ, Bool, true, false, cond, List, Option, Some, None, Result, Ok, Err, eqb, refl, sym, ap, subst, ◌∙◌}
use Rattle.std.proofs.lemmas.Bool.Decides.{nat_tests}
use Rattle.std.proofs.Common.{arith}
use Rattle.std.specs.Prelude.{IsTrue, IsOk, IfSome, IsSomeAnd}
use Rattle.dt_base.specs.declared.event.End.{End}
use Rattle.dt_base.specs.declared.event.End.TheVariants.{Code, Signal}
use Rattle.dt_host.specs.World.{World}
use Rattle.dt_base.specs.declared.limits.TheConstants.{FIRST_PID}
use Rattle.dt_procs.specs.Members.{end_of}
use Rattle.dt_export.specs.declared.refusal.ExportRefusal.{ExportRefusal}
use Rattle.dt_engine.specs.Run.{status_by, status_of_run}
use Rattle.dt_run.specs.Outcome.{ExportTo, Outcome, one_run, some_steps, status_with_index, status_with_export, status_of_steps, status_of_outcome}
use Rattle.dt_run.specs.Exports.{IsRefusedLate}
use Rattle.dt_engine.specs.Completed.{Written, Finishes}
use Rattle.dt_run.specs.Statuses.{is_status, is_run_status, precedes_run, precedes_export, fails_run}

code_status : (b : Bool) → IsTrue (is_run_status (cond b 0 1))
code_status true = refl
code_status false = refl

pub status_by-end : (end : Option End) → IsTrue (is_run_status (status_by end))
status_by-end None = refl
status_by-end (Some (Code code)) = code_status (eqb code 0)
status_by-end (Some (Signal signal)) = refl

-- the status of a run is 0, 1 or 10
pub finishes-status : (written : Written) (status : ℕ) (old new : Option (List ℕ)) (w : World) → Finishes written status old new w → IsTrue (is_run_status status)
finishes-status written status old new w c = subst (λ s. IsTrue (is_run_status s)) (sym c.status) (status_by-end (end_of written.run.last.members FIRST_PID))

-- where an export is asked for and is not refused, the status is the run's
pub put-status : (written : Written) (export : Option ExportTo) → IfSome export (λ to. IsOk to.index) → status_of_outcome (one_run written export) ≡ status_of_run written.run
put-status written export accepted = by_export (status_of_run written.run) export accepted
  where
    by_index : (status : ℕ) (index : Result (List ℕ) ExportRefusal) → IsOk index → status_with_index status index ≡ status
    by_index status (Ok text) ok = refl
    by_index status (Err refusal) ok = absurd (cc)

    by_export : (status : ℕ) (export : Option ExportTo) → IfSome export (λ export. IsOk export.index) → status_with_export status export ≡ status
    by_export status None accepted = refl
    by_export status (Some export) accepted = by_index status export.index accepted

-- where it is refused, the status is 8
pub late-status : (outcome : Outcome) (refusal : ExportRefusal) (old new : Option (List ℕ)) → IsRefusedLate refusal old new outcome → status_of_outcome outcome ≡ 8
late-status (one_run written export) refusal old new late = by_export (status_of_run written.run) export late.is
  where
    by_export : (status : ℕ) (export : Option ExportTo) → IsSomeAnd export (λ export. export.index ≡ Err refusal) → status_with_export status export ≡ 8
    by_export status None is = absurd is
    by_export status (Some export) is = ap (status_with_index status) is
late-status (some_steps steps) refusal old new late = ap status_of_steps late.is

pub ends_with : (status : ℕ) → IsTrue (is_run_status status) → IsTrue (is_status status)
ends_with status ran = grind (arith, nat_tests, ran)

pub not_failed : (status : ℕ) → IsTrue (is_run_status status) → IsTrue (fails_run status) → ⊥
not_failed status ran late = grind (arith, nat_tests, ran, late)

pub not_before : (status : ℕ) → IsTrue (is_run_status status) → IsTrue (precedes_run status) → ⊥
not_before status ran early = grind (arith, nat_tests, ran, early)

pub not_export : (status : ℕ) → IsTrue (is_run_status status) → IsTrue (precedes_export status) → ⊥
not_export status ran early = grind (arith, nat_tests, ran, early)

-- another status is none of these
pub never : (status other : ℕ) → IsTrue (is_run_status status) → is_run_status other ≡ false → status ≡ other → ⊥
never status other ran not is = let bad : true ≡ false = sym ran ∙ ap is_run_status is ∙ not in cc
