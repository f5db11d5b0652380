use Rattle.dt_late.specs.Poll.{events_found, ppoll_of}
use Rattle.dt_calls.specs.Container.{task_in}
use Rattle.dt_calls.specs.FileCalls.{arguments}
use Rattle.dt_calls.specs.InCode.{shared_of}
use Rattle.dt_calls.specs.LateCalls.{ppoll_call}
use Rattle.dt_calls.proofs.Called.{polled-served, called-kept, changes-polled}
use Rattle.dt_calls.proofs.call.late.ppoll.Goals as goal

pub returns-clause-kept : goal.returns-clause-kept
returns-clause-kept c =
    let shared = c.args.shared.now in
    let m = c.args.machine.now in
    called-kept c.give_answer.result
    (changes-polled shared c.try_poll.new.tasks c.args.vpid c.requires.lives (λ w sound.
    let r = ppoll_of (events_found c.args.vpid shared.fs.files w.pipes) shared.fs.clock (task_in shared.tasks c.args.vpid).polling m.space (arguments m) in
    let at = c.in_ok-answer.ensures w.pipes sound.piped in (r.polling, at.tasks)))

pub returns-clause-served : goal.returns-clause-served
unfolding ppoll_call
returns-clause-served c = λ w sound.
    let tasks = c.try_poll.new.tasks in
    polled-served _ (shared_of c.args.shared.now w) c.args.vpid c.args.machine.now c.try_poll.new.machine c.give_answer.new.machine tasks c.in_ok-answer.answer c.give_answer.result (c.in_ok-answer.ensures w.pipes sound.piped)
    (c.give_answer.ensures.served (shared_of (record c.args.shared.now { tasks = tasks }) w))
