use Rattle.dt_steps.proofs.Ran.{gathered}
use Rattle.dt_steps.proofs.step.gather.Goals as goal

pub returns-in-Ok-clause-report : goal.returns-in-Ok-clause-report
returns-in-Ok-clause-report g c = gathered c.args.input.now _ _ (let done = c.in-Ok.ensures.completed in done.report)
