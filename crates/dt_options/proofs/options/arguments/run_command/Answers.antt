use Rattle.std.proofs.Common.{ap}
use Rattle.clap.specs.Words.{App}
use Rattle.dt_options.proofs.Commands.{added, stays_local, if_ok}
use Rattle.dt_options.proofs.options.arguments.run_command.Goals as goal

pub returns-clause-shape : goal.returns-clause-shape
returns-clause-shape c = if_ok c.arg-6.result
    (λ new adds. ap (λ (app : App). app.top)
    (added adds c.text_arg.ensures.local c.text_arg.ensures.rule
    (added c.in_ok-arg-5.ensures c.number_arg-2.ensures.local c.number_arg-2.ensures.rule
    (added c.in_ok-arg-4.ensures c.workers_arg.ensures.local c.workers_arg.ensures.rule
    (added c.in_ok-arg-3.ensures c.budget_arg.ensures.local c.budget_arg.ensures.rule
    (added c.in_ok-arg-2.ensures c.number_arg.ensures.local c.number_arg.ensures.rule
    (added c.in_ok-arg.ensures c.operand_arg.ensures.local c.operand_arg.ensures.rule c.new.ensures.app)))))))
    c.arg-6.ensures

pub returns-clause-local : goal.returns-clause-local
returns-clause-local c = if_ok c.arg-6.result
    (λ new adds. stays_local adds c.text_arg.ensures.local
    (stays_local c.in_ok-arg-5.ensures c.number_arg-2.ensures.local
    (stays_local c.in_ok-arg-4.ensures c.workers_arg.ensures.local
    (stays_local c.in_ok-arg-3.ensures c.budget_arg.ensures.local
    (stays_local c.in_ok-arg-2.ensures c.number_arg.ensures.local
    (stays_local c.in_ok-arg.ensures c.operand_arg.ensures.local c.new.ensures.local))))))
    c.arg-6.ensures
