use Rattle.std.proofs.Common.{◌≡◌, Some, sym, ap, subst, ◌∙◌}
use Rattle.std.specs.Prelude.{unwrap_or}
use Rattle.std.specs.Option.{option_copied_mut}
use Rattle.std.specs.FinMap.{get, insert}
use Rattle.dt_callbase.specs.Sound.{Sound, HasRowReply, stage}
use Rattle.dt_calls.specs.declared.task.Task.{Task}
use Rattle.dt_calls.specs.Container.{blank_task, task_in}
use Rattle.dt_calls.specs.FileCalls.{arguments, row_of}
use Rattle.dt_calls.proofs.Tasks.{task-put}
use Rattle.dt_calls.proofs.call.files.serve_row_at.Goals as goal

pub serve_row-requires : goal.serve_row-requires
serve_row-requires g c =
    let p = c.args.vpid in
    let there : get c.args.tasks.now p ≡ Some c.in-Some.task.now = ap (get c.args.tasks.now) (sym c.from.ensures) ∙ sym c.get_mut.ensures.value ∙ ap option_copied_mut c.in-Some.is in
    subst (λ found. Sound (stage c.args.fs.now (g.H.Host.view c.args.host.now) (unwrap_or found (blank_task p)).caller c.args.machine.now.space)) there c.requires.sound

pub returns-clause-row : goal.returns-clause-row
returns-clause-row g c =
    let p = c.args.vpid in
    let tasks = c.args.tasks.now in
    let own = c.in-Some.task.now in
    let there : get tasks p ≡ Some own = ap (get tasks) (sym c.from.ensures) ∙ sym c.get_mut.ensures.value ∙ ap option_copied_mut c.in-Some.is in
    let own_is : task_in tasks p ≡ own = ap (λ found. unwrap_or found (blank_task p)) there in
    let new : Task = record own { caller = c.serve_row.new.caller } in
    let new_is : task_in (insert tasks c.from.result new) p ≡ new = ap (λ n. task_in (insert tasks n new) p) c.from.ensures ∙ task-put tasks p new in
    let w = g.H.Host.view c.args.host.now in
    let v = g.H.Host.view c.serve_row.new.host in
    let before = g.H.Host.count c.args.host.now in
    let later = g.H.Host.count c.serve_row.new.host in
    let m = c.args.machine.now in
    let pages = c.serve_row.new.space in
    let fs = c.serve_row.new.fs in
    let k = c.args.number in
    subst (λ (x : Task). HasRowReply (row_of k) (arguments m) (stage c.args.fs.now w x.caller m.space) (stage fs v (task_in (insert tasks c.from.result new) p).caller pages) c.serve_row.result before later) (sym own_is)
    (subst (λ (x : Task). HasRowReply (row_of k) (arguments m) (stage c.args.fs.now w own.caller m.space) (stage fs v x.caller pages) c.serve_row.result before later) (sym new_is)
    (subst (λ args. HasRowReply (row_of k) args (stage c.args.fs.now w own.caller m.space) (stage fs v c.serve_row.new.caller pages) c.serve_row.result before later) c.arguments-args.ensures c.serve_row.ensures))

pub returns-clause-task : goal.returns-clause-task
returns-clause-task g c =
    let p = c.args.vpid in
    let tasks = c.args.tasks.now in
    let own = c.in-Some.task.now in
    let there : get tasks p ≡ Some own = ap (get tasks) (sym c.from.ensures) ∙ sym c.get_mut.ensures.value ∙ ap option_copied_mut c.in-Some.is in
    let own_is : task_in tasks p ≡ own = ap (λ found. unwrap_or found (blank_task p)) there in
    let new : Task = record own { caller = c.serve_row.new.caller } in
    let new_is : task_in (insert tasks c.from.result new) p ≡ new = ap (λ n. task_in (insert tasks n new) p) c.from.ensures ∙ task-put tasks p new in
    ap (λ n. insert tasks n new) c.from.ensures ∙ (λ i. insert tasks p (record (sym own_is i) { caller = (sym new_is i).caller }))
