-- Which line the error stream gets.
use Rattle.std.proofs.Common.{◌≡◌, ◌≢◌, ℕ, List, [], Option, refl, sym, ap, subst, ◌∙◌, inl, inr, arith}
use Rattle.std.proofs.lemmas.Bool.{cases_eq}
use Rattle.std.proofs.lemmas.Bool.Decides.{nat_tests}
use Rattle.std.specs.Prelude.{IsTrue}
use Rattle.dt_host.specs.Store.{StoreFiles}
use Rattle.dt_host.proofs.Growth.{added-nil, adds_none}
use Rattle.dt_run.specs.declared.failure.Failure.{Failure}
use Rattle.dt_run.specs.declared.failure.Failure.TheVariants.{Usage, Image, Export, Store, Host, Output, NoMemory}
use Rattle.dt_run.specs.Failure.{failure_status, failure_line}
use Rattle.dt_run.specs.Statuses.{is_run_status, status_line, AddsLine, AddsRefusal, AddsExportRefusal}
use Rattle.dt_run.specs.inner.Fails.{HasFailureCause}
use Rattle.dt_run.proofs.Failing.{Answers, own_status, image, export}

status_line-failure : (f : Failure) → failure_status f ≢ 3 → failure_status f ≢ 8 → failure_status f ≢ 7 → status_line (failure_status f) ≡ failure_line f
status_line-failure Usage no_image no_export other = refl
status_line-failure (Image refusal) no_image no_export other = absurd (no_image refl)
status_line-failure (Export refusal) no_image no_export other = absurd (no_export refl)
status_line-failure Store no_image no_export other = refl
status_line-failure Host no_image no_export other = refl
status_line-failure Output no_image no_export other = refl
status_line-failure NoMemory no_image no_export other = absurd (other refl)

-- the line of a failure is the line of the status that was answered
pub own_line : (f : Failure) (status : ℕ) (old new : Option (List ℕ)) (before now : ℕ) → Answers f status → status ≢ 3 → status ≢ 8 → status ≢ 7 → AddsLine (failure_line f) old new before now → AddsLine (status_line status) old new before now
own_line f status old new before now by no_image no_export other line =
    let own = own_status f status by other in
    let same = ap status_line own ∙ status_line-failure f (λ three. no_image (own ∙ three)) (λ eight. no_export (own ∙ eight)) (λ seven. other (own ∙ seven)) in
    subst (λ found. AddsLine found old new before now) (sym same) line

-- at 3 it is the line of the refusal
pub refusal_line : (f : Failure) (status : ℕ) (told : Option StoreFiles) (words : List (List ℕ)) (out out_now old new : Option (List ℕ)) (before now : ℕ) → Answers f status → HasFailureCause f told words out out_now → status ≡ 3 → AddsLine (failure_line f) old new before now → AddsRefusal told words old new before now
refusal_line f status told words out out_now old new before now by fails three line =
    let r = image status told words out out_now f by fails three in
    record { refusal = r.refusal; refused = r.refused; line = subst (λ found. AddsLine (failure_line found) old new before now) r.is line }

-- at 8 it is the line of the export's refusal
pub export_line : (f : Failure) (status : ℕ) (told : Option StoreFiles) (words : List (List ℕ)) (out out_now old new : Option (List ℕ)) (before now : ℕ) → Answers f status → HasFailureCause f told words out out_now → status ≡ 8 → AddsLine (failure_line f) old new before now → AddsExportRefusal told words out out_now old new before now
export_line f status told words out out_now old new before now by fails eight line =
    let r = export status told words out out_now f by fails eight in
    record { refusal = r.refusal; refused = r.refused; line = subst (λ found. AddsLine (failure_line found) old new before now) r.is line }

-- a run that was completed has no line
pub run_line : (status : ℕ) → IsTrue (is_run_status status) → status_line status ≡ []
run_line status is =
    elim (cases_eq status 0) [
      | inl e ↦ rw e
      | inr not_0 ↦ elim (cases_eq status 1) [
        | inl e ↦ rw e
        | inr not_1 ↦ elim (cases_eq status 10) [ inl e ↦ rw e | inr not_10 ↦ absurd (grind (arith, nat_tests)) ]
      ]
    ]

pub no_line : (status : ℕ) (err : Option (List ℕ)) (count : ℕ) → IsTrue (is_run_status status) → AddsLine (status_line status) err err count count
no_line status err count is =
    subst (λ line. AddsLine line err err count count) (sym (run_line status is))
    (record { part = adds_none err []; whole = inl (sym (added-nil err)) })

-- nor is its status that of an export's refusal
pub no_export_refusal : (status : ℕ) → IsTrue (is_run_status status) → status ≡ 8 → ⊥
no_export_refusal status is eight = let bad : IsTrue (is_run_status 8) = subst (λ s. IsTrue (is_run_status s)) eight is in cc

-- nor is its status a refusal's
pub no_refusal : (status : ℕ) → IsTrue (is_run_status status) → status ≡ 3 → ⊥
no_refusal status is three = let bad : IsTrue (is_run_status 3) = subst (λ s. IsTrue (is_run_status s)) three is in cc
