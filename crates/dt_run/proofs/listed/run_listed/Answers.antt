use Rattle.dt_run.proofs.Wanting.{on_err, fails_steps_of}
use Rattle.dt_run.proofs.listed.run_listed.Goals as goal

pub returns-in_err-status-clause-failed : goal.returns-in_err-status-clause-failed
returns-in_err-status-clause-failed g c =
    on_err _ _ _ c.from_residual-in_err-status.ensures.1 (fails_steps_of _ _ _ _ _ _ c.in_err-status.ensures.answers c.run_steps.ensures.part)
