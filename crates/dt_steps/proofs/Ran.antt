-- A step that was run, and what is written of it.
use Rattle.std.proofs.Common.{arith, ◌≡◌, ℕ, ◌+◌, List, ◌++◌, length, length-append, take, true, false, Bool, Option, Some, None, sym, ap, subst, ◌∙◌, append_assoc}
use Rattle.std.proofs.Math.Seq.{take-append-add}
use Rattle.std.proofs.lemmas.List.{take-append-le}
use Rattle.std.proofs.lemmas.Option.{same_Some}
use Rattle.dt_host.proofs.Growth.{added-added}
use Rattle.std.specs.Prelude.{codes, Result, Ok, Err, if◌then◌else◌}
use Rattle.std.specs.Fmt.{decimal}
use Rattle.dt_base.specs.Image.{ImageParts}
use Rattle.dt_export.specs.declared.refusal.ExportRefusal.{ExportRefusal}
use Rattle.dt_export.specs.declared.refusal.ExportRefusal.TheVariants as refusal
use Rattle.dt_export.specs.ExportedImage.{image_of_tree, unless_refused, has_long_path, has_too_many_paths, exported_image}
use Rattle.dt_image.specs.Paths.{paths_of}
use Rattle.dt_tree.specs.FileTree.{FileTree}
use Rattle.dt_host.specs.Sink.{added, AddsPart}
use Rattle.dt_engine.specs.Run.{run_of, report_of}
use Rattle.dt_steps.specs.declared.input.StepInput.{StepInput}
use Rattle.dt_steps.specs.Steps.{run_of_step}
use Rattle.dt_steps.specs.inner.Left.{IsOfPaths}

-- the report that was gathered
pub gathered : (i : StepInput) (old new : List ℕ) → Some new ≡ added (Some old) (report_of i.image.version (run_of i.image i.command i.seed i.budget))
    → new ≡ old ++ report_of i.image.version (run_of_step i)
unfolding run_of_step
gathered i old new e = same_Some new (old ++ report_of i.image.version (run_of i.image i.command i.seed i.budget)) e

same_refusal : (a b : ExportRefusal) → ◌≡◌ {A = Result ImageParts ExportRefusal} (Err a) (Err b) → a ≡ b
same_refusal a b e = cc

-- a tree is refused by its paths
pub of-paths : (t : FileTree) (r : ExportRefusal) → image_of_tree t ≡ Err r → IsOfPaths r
unfolding image_of_tree
of-paths t r e = by_tests (has_long_path (paths_of t.shape)) (has_too_many_paths (paths_of t.shape)) e
  where
    by_tests : (long many : Bool) → unless_refused (if long then Some refusal.LongPath else (if many then Some refusal.TooMany else None)) (Ok (exported_image t)) ≡ Err r → IsOfPaths r
    by_tests true many e = subst IsOfPaths (same_refusal refusal.LongPath r e) tt
    by_tests false true e = subst IsOfPaths (same_refusal refusal.TooMany r e) tt
    by_tests false false e = absurd (let x : ◌≡◌ {A = Result ImageParts ExportRefusal} (Ok (exported_image t)) (Err r) = e in cc)

-- the parts of what is written of a step
pub joined : (number : ℕ) (line report : List ℕ) → line ≡ codes "step " ++ (decimal number ++ codes "\n")
    → line ++ report ≡ codes "step " ++ (decimal number ++ (codes "\n" ++ report))
joined number line report is =
    ap (λ xs. xs ++ report) is ∙ append_assoc (codes "step ") (decimal number ++ codes "\n") report
    ∙ ap (λ xs. codes "step " ++ xs) (append_assoc (decimal number) (codes "\n") report)

pub in-line : (old new : Option (List ℕ)) (line report : List ℕ) → AddsPart old new line → AddsPart old new (line ++ report)
in-line old new line report p = record {
  count = p.count;
  within = omega (arith, p.within, length-append line report);
  prefix = p.prefix ∙ ap (added old) (sym (take-append-le p.count line report p.within));
}

pub after-line : (old mid new : Option (List ℕ)) (line report : List ℕ) → mid ≡ added old line → AddsPart mid new report
    → AddsPart old new (line ++ report)
after-line old mid new line report is p = record {
  count = length line + p.count;
  within = omega (arith, p.within, length-append line report);
  prefix = p.prefix ∙ ap (λ told. added told (take p.count report)) is ∙ added-added old _ _
      ∙ ap (added old) (sym (take-append-add line report p.count));
}
