-- Inner words: why steps that a file lists came to no status.
use Rattle.std.specs.Prelude.{◌≡◌, ℕ, List, Option, Err}
use Rattle.dt_host.specs.Sink.{added, AddsPart}
use Rattle.dt_export.specs.declared.refusal.ExportRefusal.{ExportRefusal}
use Rattle.dt_steps.specs.Steps.{Steps}
use Rattle.dt_run.specs.declared.failure.Failure.{Failure}
use Rattle.dt_run.specs.declared.failure.Failure.TheVariants.{Usage, Image, Export, Store, Host, Output, NoMemory}

-- between two steps the tree has no image, and what was written until then was added
pub record RefusesSteps (refusal : ExportRefusal) (steps : Steps) (old new : Option (List ℕ)) : Type 0 where
  pub answer : steps.answer ≡ Err refusal
  pub report : new ≡ added old steps.output

-- the tree has no image, or the host, the output or memory failed
abbrev pub FailsSteps : Failure → Steps → Option (List ℕ) → Option (List ℕ) → Type 0
FailsSteps Usage steps old new = ⊥
FailsSteps (Image refusal) steps old new = ⊥
FailsSteps (Export refusal) steps old new = RefusesSteps refusal steps old new
FailsSteps Store steps old new = ⊥
FailsSteps Host steps old new = AddsPart old new steps.output
FailsSteps Output steps old new = AddsPart old new steps.output
FailsSteps NoMemory steps old new = AddsPart old new steps.output
