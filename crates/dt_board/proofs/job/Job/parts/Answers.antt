use Rattle.std.proofs.Common.{◌∙◌, ap, sym, subst}
use Rattle.dt_rv64.specs.Valid.{IsMachine}
use Rattle.dt_board.specs.Job.{finished}
use Rattle.dt_board.proofs.Jobs.{job-keeps}
use Rattle.dt_board.proofs.job.Job.parts.Goals as goal

pub returns-clause-sound : goal.returns-clause-sound
returns-clause-sound c is =
    let was_run = ap finished c.self.view_is ∙ c.requires.finished in
    job-keeps _ _ _ c.self.invariant was_run (subst IsMachine (sym (ap (λ v. v.start) c.self.view_is)) is)
