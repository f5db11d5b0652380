-- What words came to: a run that was completed, or steps.
use Rattle.std.proofs.Common.{◌≡◌, ℕ, ◌+◌, ◌==◌, Bool, true, false, cond, List, [], ◌∷◌, Option, Some, None, Result, Ok, Err, refl, sym, ap, subst, ◌∙◌}
use Rattle.std.specs.Prelude.{IsTrue, IsOk, IfSome, IsSomeAnd, option_map, option_and_then}
use Rattle.std.specs.FinMap.{empty, nat_cmp-IsAntisymmetric}
use Rattle.std.specs.Cmp.{nat_cmp_total}
use Rattle.std.specs.Ordering.{nat_cmp}
use Rattle.dt_base.specs.Image.{ImageParts}
use Rattle.dt_base.specs.declared.image.What.TheVariants.{Dir}
use Rattle.dt_base.specs.declared.limits.TheConstants.{FIRST_PID}
use Rattle.dt_base.specs.Command.{Words}
use Rattle.dt_host.specs.Sink.{added}
use Rattle.dt_host.specs.Store.{StoreFiles}
use Rattle.dt_host.specs.World.{World, dir, node_at, empty_forest}
use Rattle.dt_tables.proofs.Maps.{get-insert_same}
use Rattle.dt_tree.proofs.Starting.{no_entries}
use Rattle.dt_image.specs.Paths.{node_from, node_from_root}
use Rattle.dt_export.specs.declared.refusal.ExportRefusal.{ExportRefusal}
use Rattle.dt_options.specs.Options.{Form, run_form, export_form, demo_form, steps_form}
use Rattle.dt_procs.specs.Members.{end_of}
use Rattle.dt_engine.specs.declared.status.TheConstants.{ENDED_ZERO}
use Rattle.dt_tree.specs.ImageTree.{what_of}
use Rattle.dt_engine.specs.HoldsTree.{HoldSame, shown_at}
use Rattle.dt_engine.specs.Run.{Run, status_of_run}
use Rattle.dt_steps.specs.Steps.{input_of, run_of_step, image_after, no_step, steps_from}
use Rattle.dt_run.specs.declared.failure.Failure.TheVariants.{Export}
use Rattle.dt_run.specs.Failure.{failure_line}
use Rattle.dt_run.specs.Written.{demonstrated}
use Rattle.dt_run.specs.Outcome.{ExportTo, Outcome, one_run, some_steps, text_of, status_of_steps, status_of_outcome, IsCompleted}
use Rattle.dt_run.specs.SomeRun.{SomeRun}
use Rattle.dt_run.specs.Wanted.{reported_on, outcome_on}
use Rattle.dt_run.specs.Exports.{HasPut, HasNoExport, IsRefusedLate}
use Rattle.dt_run.specs.Statuses.{is_run_status}
use Rattle.dt_run.proofs.Ran.{status_by-end, finishes-status, put-status}

-- ---- exports

-- the line of an export that is refused; none where it is not
abbrev pub index_line : Result (List ℕ) ExportRefusal → List ℕ
index_line (Ok text) = []
index_line (Err refusal) = failure_line (Export refusal)

abbrev pub export_line_of : Option ExportTo → List ℕ
export_line_of None = []
export_line_of (Some export) = index_line export.index

pub put-line : (export : Option ExportTo) → IfSome export (λ export. IsOk export.index) → export_line_of export ≡ []
put-line None accepted = refl
put-line (Some export) accepted = by_index export.index accepted
  where
    by_index : (index : Result (List ℕ) ExportRefusal) → IsOk index → index_line index ≡ []
    by_index (Ok text) ok = refl
    by_index (Err refusal) ok = absurd (cc)

pub late-line : (export : Option ExportTo) (refusal : ExportRefusal) → IsSomeAnd export (λ export. export.index ≡ Err refusal) → export_line_of export ≡ failure_line (Export refusal)
late-line None refusal is = absurd is
late-line (Some export) refusal is = ap index_line is

-- an export that was put is not refused
pub put-late : (export : Option ExportTo) (refusal : ExportRefusal) → IfSome export (λ export. IsOk export.index) → IsSomeAnd export (λ export. export.index ≡ Err refusal) → ⊥
put-late None refusal accepted is = is
put-late (Some export) refusal accepted is = by_index export.index accepted is
  where
    by_index : (index : Result (List ℕ) ExportRefusal) → IsOk index → index ≡ Err refusal → ⊥
    by_index (Ok text) ok is = cc
    by_index (Err other) ok is = cc

-- ---- the status

-- steps end with the status of a run
pub steps-status : (seed budget number : ℕ) (from : Result ImageParts ExportRefusal) (commands : List Words) (status : ℕ)
    → (let steps = steps_from seed budget number from commands in steps.answer) ≡ Ok status → IsTrue (is_run_status status)
unfolding steps_from
steps-status seed budget number from [] status is =
    let zero : ENDED_ZERO ≡ status = cc in
    subst (λ s. IsTrue (is_run_status s)) zero refl
steps-status seed budget number (Err refusal) (command ∷ rest) status is = absurd (cc)
steps-status seed budget number (Ok image) (command ∷ rest) status is =
    let run = run_of_step (input_of seed budget image command) in
    by_status run (steps-status seed budget (number + 1) (image_after run) rest status) (status_of_run run == ENDED_ZERO) is
  where
    by_status : (run : Run) → ((let steps = steps_from seed budget (number + 1) (image_after run) rest in steps.answer) ≡ Ok status → IsTrue (is_run_status status)) → (ends : Bool)
        → (let steps = cond ends (steps_from seed budget (number + 1) (image_after run) rest) (no_step (Ok (status_of_run run))) in steps.answer) ≡ Ok status → IsTrue (is_run_status status)
    by_status run on true is = on is
    by_status run on false is =
        let same : status_of_run run ≡ status = cc in
        subst (λ s. IsTrue (is_run_status s)) same (status_by-end (end_of run.last.members FIRST_PID))

-- what a form asks for ends with the status of a run
pub form-status : (form : Form) (found : ImageParts × List ℕ) (commands : List Words) (status : ℕ) (old new : Option (List ℕ)) (w : World)
    → IsCompleted (outcome_on form found commands) status old new w → IsTrue (is_run_status status)
form-status (run_form request) found commands status old new w done = finishes-status (reported_on request found) status old new w done
form-status (export_form request) found commands status old new w done = finishes-status (reported_on request.run found) status old new w done
form-status (demo_form request) found commands status old new w done = finishes-status (demonstrated request.number) status old new w done
form-status (steps_form request) found commands status old new w done = steps-status request.seed request.budget 1 (Ok found.0) commands status done.status

-- and so does what is asked for on some image
pub status-of : (told now : Option StoreFiles) (words : List (List ℕ)) (status : ℕ) (old new : Option (List ℕ)) (w : World) → SomeRun told words (λ outcome. IsCompleted outcome status old new w × HasPut outcome told now) → IsTrue (is_run_status status)
status-of told now words status old new w run = form-status run.form (run.image, run.input) run.commands status old new w run.holds.0

module _ (status : ℕ) (old new : Option (List ℕ)) (w : World) where
  -- all that is written was added
  pub completed-report : (outcome : Outcome) → IsCompleted outcome status old new w → new ≡ added old (text_of outcome)
  completed-report (one_run written export) done = done.report
  completed-report (some_steps steps) done = done.report

  -- the status is that of what was wanted, where an export is asked for and was put
  pub completed-status : (outcome : Outcome) (told now : Option StoreFiles) → IsCompleted outcome status old new w → HasPut outcome told now → status ≡ status_of_outcome outcome
  completed-status (one_run written export) told now done put = done.status ∙ sym (put-status written export put.accepted)
  completed-status (some_steps steps) told now done put = sym (ap status_of_steps done.status)

  -- it was not refused
  pub completed-late : (outcome : Outcome) (told now : Option StoreFiles) (refusal : ExportRefusal) (p q : Option (List ℕ)) → IsCompleted outcome status old new w → HasPut outcome told now
      → IsRefusedLate refusal p q outcome → ⊥
  completed-late (one_run written export) told now refusal p q done put late = put-late export refusal put.accepted late.is
  completed-late (some_steps steps) told now refusal p q done put late =
      let bad : ◌≡◌ {A = Result ℕ ExportRefusal} (Ok status) (Err refusal) = sym done.status ∙ late.is in cc

-- two answers to the same have one status
pub completed-same : (outcome : Outcome) (status other : ℕ) (old new p q : Option (List ℕ)) (v w : World) → IsCompleted outcome status old new v → IsCompleted outcome other p q w → status ≡ other
completed-same (one_run written export) status other old new p q v w one two = one.status ∙ sym two.status
completed-same (some_steps steps) status other old new p q v w one two =
    let same : ◌≡◌ {A = Result ℕ ExportRefusal} (Ok status) (Ok other) = sym one.status ∙ two.status in cc

-- ---- what the hosts hold

-- nothing but the root is led to where there are no entries
none-below : (root : ℕ) (name : List ℕ) (names : List (List ℕ)) → node_from_root (empty_forest root) (name ∷ names) ≡ None
unfolding node_from
none-below root name names = ap (option_and_then (λ m. node_from (empty_forest root) m names)) (no_entries root root name)

root-shown : (root : ℕ) → shown_at (empty_forest root) [] ≡ Some Dir
unfolding node_from
root-shown root = ap (option_map what_of) (get-insert_same nat_cmp_total nat_cmp-IsAntisymmetric (empty {R = nat_cmp}) root (dir empty))

below-shown : (root : ℕ) (name : List ℕ) (names : List (List ℕ)) → shown_at (empty_forest root) (name ∷ names) ≡ None
below-shown root name names = ap (λ n. option_map what_of (option_and_then (node_at (empty_forest root)) n)) (none-below root name names)

empty-shown : (r s : ℕ) (names : List (List ℕ)) → shown_at (empty_forest r) names ≡ shown_at (empty_forest s) names
empty-shown r s [] = root-shown r ∙ sym (root-shown s)
empty-shown r s (name ∷ names) = below-shown r name names ∙ sym (below-shown s name names)

empty-together : (r s : ℕ) (a b : List (List ℕ)) → node_from_root (empty_forest r) a ≡ node_from_root (empty_forest r) b → node_from_root (empty_forest s) a ≡ node_from_root (empty_forest s) b
unfolding node_from
empty-together r s [] [] same = refl
empty-together r s [] (name ∷ names) same = absurd (let bad : Some r ≡ None = same ∙ none-below r name names in cc)
empty-together r s (name ∷ names) [] same = absurd (let bad : Some r ≡ None = sym same ∙ none-below r name names in cc)
empty-together r s (name ∷ names) (other ∷ others) same = none-below s name names ∙ sym (none-below s other others)

empty-same : (r s : ℕ) → HoldSame (empty_forest r) (empty_forest s)
empty-same r s = record { shown = empty-shown r s; together = empty-together r s; apart = empty-together s r }

pub completed-trees : (outcome : Outcome) (status other : ℕ) (old new p q : Option (List ℕ)) (v w : World) → IsCompleted outcome status old new v → IsCompleted outcome other p q w → HoldSame v.forest w.forest
completed-trees (one_run written export) status other old new p q v w one two = record {
  shown = λ names. one.tree.shown names ∙ sym (two.tree.shown names);
  together = λ x y is. two.tree.apart x y (one.tree.together x y is);
  apart = λ x y is. one.tree.apart x y (two.tree.together x y is);
}
completed-trees (some_steps steps) status other old new p q v w one two =
    subst (λ x. HoldSame x w.forest) (sym (ap (λ (z : World). z.forest) one.empty))
    (subst (λ x. HoldSame (empty_forest v.forest.root) x) (sym (ap (λ (z : World). z.forest) two.empty)) (empty-same v.forest.root w.forest.root))

-- ---- the line

abbrev pub steps_line : Result ℕ ExportRefusal → List ℕ
steps_line (Ok status) = []
steps_line (Err refusal) = failure_line (Export refusal)

-- the line that tells why an export or steps are refused; none where they are not
abbrev pub outcome_line : Outcome → List ℕ
outcome_line (one_run written export) = export_line_of export
outcome_line (some_steps steps) = steps_line steps.answer

pub completed-line : (outcome : Outcome) (told now : Option StoreFiles) (status : ℕ) (old new : Option (List ℕ)) (w : World) → IsCompleted outcome status old new w → HasPut outcome told now → outcome_line outcome ≡ []
completed-line (one_run written export) told now status old new w done put = put-line export put.accepted
completed-line (some_steps steps) told now status old new w done put = ap steps_line done.status

pub refused-line : (outcome : Outcome) (refusal : ExportRefusal) → HasNoExport refusal outcome → outcome_line outcome ≡ failure_line (Export refusal)
refused-line (one_run written export) refusal is = late-line export refusal is
refused-line (some_steps steps) refusal is = ap steps_line is
