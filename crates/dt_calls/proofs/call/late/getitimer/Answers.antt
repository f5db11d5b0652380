use Rattle.std.proofs.Common.{refl}
use Rattle.dt_calls.specs.InCode.{shared_of}
use Rattle.dt_calls.specs.LateCalls.{getitimer_call}
use Rattle.dt_calls.proofs.Called.{called-served, called-kept}
use Rattle.dt_calls.proofs.Tasks.{changes-task}
use Rattle.dt_calls.proofs.call.late.getitimer.Goals as goal

pub returns-clause-kept : goal.returns-clause-kept
returns-clause-kept c =
    called-kept c.give_answer.result
    (changes-task c.args.shared.now c.tell_timer.new.tasks c.args.vpid _ c.requires c.in_ok-answer.ensures.tasks refl refl)

pub returns-clause-served : goal.returns-clause-served
unfolding getitimer_call
returns-clause-served c = λ w.
    let tasks = c.tell_timer.new.tasks in
    called-served _ (shared_of c.args.shared.now w) c.args.vpid c.args.machine.now c.tell_timer.new.machine c.give_answer.new.machine _ tasks c.in_ok-answer.answer c.give_answer.result c.in_ok-answer.ensures
    (c.give_answer.ensures.served (shared_of (record c.args.shared.now { tasks = tasks }) w))
