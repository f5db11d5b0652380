use Rattle.std.proofs.lemmas.Result.{IfOk-weaker}
use Rattle.dt_rv64.proofs.First.{exec-back, kept-back}
use Rattle.dt_rv64.proofs.Kept.{step-sound}
use Rattle.dt_rv64.proofs.Stays.{stopped-stays}
use Rattle.dt_rv64.proofs.machine.Machine.step.Goals as goal

-- the number kept for register 0 changes nothing
pub returns-clause-stepped : goal.returns-clause-stepped
returns-clause-stepped c = IfOk-weaker c.step_hinted-step.result _ _ (λ step is. exec-back c.args.self.now _ step is) c.step_hinted-step.ensures.stepped

pub returns-clause-stays : goal.returns-clause-stays
returns-clause-stays c = IfOk-weaker c.step_hinted-step.result _ _ (λ step is. stopped-stays _ _ step is) (returns-clause-stepped c)

pub returns-clause-kept : goal.returns-clause-kept
returns-clause-kept c = kept-back c.args.self.now _ c.step_hinted-step.result c.step_hinted-step.ensures.kept

pub returns-clause-sound : goal.returns-clause-sound
returns-clause-sound c = step-sound _ _ c.step_hinted-step.result (returns-clause-stepped c) (returns-clause-kept c)
