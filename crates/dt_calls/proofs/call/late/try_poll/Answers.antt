use Rattle.std.proofs.Common.{◌≡◌, Some, sym, ap, subst, ◌∙◌}
use Rattle.std.specs.Prelude.{unwrap_or, IfOk}
use Rattle.std.specs.Option.{option_copied_mut}
use Rattle.std.specs.FinMap.{get}
use Rattle.dt_late.specs.Poll.{PollResult, poll_result, events_found, ppoll_of}
use Rattle.dt_calls.specs.Container.{blank_task, task_in}
use Rattle.dt_calls.specs.FileCalls.{arguments}
use Rattle.dt_calls.proofs.Called.{polled-at}
use Rattle.dt_calls.proofs.call.late.try_poll.Goals as goal

pub returns : goal.returns
returns c = λ pipes piped.
    let p = c.args.vpid in
    let tasks = c.args.tasks.now in
    let own = c.in-Some.task.now in
    let there : get tasks p ≡ Some own = ap (get tasks) (sym c.from.ensures) ∙ sym c.get_mut.ensures.value ∙ ap option_copied_mut c.in-Some.is in
    let own_is : task_in tasks p ≡ own = ap (λ found. unwrap_or found (blank_task p)) there in
    let f = c.args.fs.now in
    let m = c.args.machine.now in
    let found = events_found p f.files pipes in
    let is : ppoll_of found f.clock own.polling m.space c.arguments-args.result ≡ ppoll_of found f.clock (task_in tasks p).polling m.space (arguments m) =
    λ i. ppoll_of found f.clock (let t = sym own_is i in t.polling) m.space (c.arguments-args.ensures i) in
    polled-at _ p c.from.result tasks own m c.ppoll.new.space c.ppoll.new.polling c.ppoll.result own_is c.from.ensures
    (subst (λ (r : PollResult). IfOk c.ppoll.result (λ answer. r ≡ poll_result c.ppoll.new.space c.ppoll.new.polling answer)) is (c.ppoll.ensures.called pipes piped))
