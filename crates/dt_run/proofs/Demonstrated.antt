-- A demonstration, by the run that was gathered.
use Rattle.std.proofs.Common.{◌≡◌, ℕ, List, [], Some, ap, ◌∙◌, arith}
use Rattle.std.specs.Prelude.{unwrap_or}
use Rattle.dt_base.specs.Image.{ImageParts}
use Rattle.dt_base.specs.declared.profile.TheConstants.{FIRST_VERSION}
use Rattle.dt_base.specs.Command.{Words}
use Rattle.dt_asm.specs.Demo.{demo_image, demo_command}
use Rattle.dt_host.specs.Cause.{HasCause}
use Rattle.dt_host.specs.World.{World}
use Rattle.dt_run.specs.declared.demo.TheConstants.{DEMO_BUDGET}
use Rattle.dt_engine.specs.Run.{Run, run_of, status_of_run, report_of}
use Rattle.dt_run.specs.Written.{demo_run, summary}
use Rattle.dt_engine.specs.Completed.{Completes}

-- the run of what was made for a number is the demonstration's
pub demo_run-made : (image : ImageParts) (command : Words) (number : ℕ) → image ≡ demo_image number → command ≡ demo_command → run_of image command number DEMO_BUDGET ≡ demo_run number
unfolding demo_run
demo_run-made image command number made given = (λ i. run_of (made i) (given i) number DEMO_BUDGET)

-- what was gathered of a run from nothing on is its report
gathered-is : (run : Run) (status : ℕ) (gathered : List ℕ) (w : World) → Completes FIRST_VERSION run status (Some []) (Some gathered) w → gathered ≡ report_of FIRST_VERSION run
gathered-is run status gathered w ran = ap (λ told. unwrap_or told []) ran.report

-- the summary of what was gathered is the demonstration's
pub summary-is : (number status : ℕ) (gathered text : List ℕ) (w : World) → Completes FIRST_VERSION (demo_run number) status (Some []) (Some gathered) w → text ≡ summary number status gathered → text ≡ summary number (status_of_run (demo_run number)) (report_of FIRST_VERSION (demo_run number))
summary-is number status gathered text w ran is =
    is ∙ (λ i. summary number (ran.status i) (gathered-is (demo_run number) status gathered w ran i))

-- a sink that counts no faults has none
pub never_failed : (failed : Type 0) → HasCause 0 0 failed → failed → ⊥
never_failed failed cause is = let bad = cause.rose is in omega arith
