use Rattle.std.proofs.Common.{ℕ, Some, ap, subst}
use Rattle.dt_engine.specs.Run.{Run, run_of}
use Rattle.dt_run.specs.declared.demo.TheConstants.{DEMO_BUDGET}
use Rattle.dt_base.specs.Image.{ImageParts}
use Rattle.dt_base.specs.declared.profile.TheConstants.{FIRST_VERSION}
use Rattle.dt_engine.specs.Completed.{reported, Finishes}
use Rattle.dt_run.proofs.Demonstrated.{demo_run-made}
use Rattle.dt_run.proofs.demo.gather.Goals as goal

-- the run of the image and the command that were made is the demonstration's
pub returns-in-Ok-clause-completed : goal.returns-in-Ok-clause-completed
returns-in-Ok-clause-completed g c =
    let finishes : ℕ → Run → Type 0 = λ version run. Finishes (reported version run) c.in-Ok.status (Some c.args.report.now) (Some c.run_container-ran.new.out) (g.H.Host.view c.run_container-ran.new.host) in
    subst (finishes FIRST_VERSION) (demo_run-made _ _ c.args.options.now.number c.in_ok-image.ensures.image c.in_ok-image.ensures.command)
    (subst (λ version. finishes version (run_of c.in_ok-image.image c.in_ok-image.command c.args.options.now.number DEMO_BUDGET)) (ap (λ (image : ImageParts). image.version) c.in_ok-image.ensures.image) c.in-Ok.ensures.completed)
