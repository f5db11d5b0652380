use Rattle.std.proofs.Common.{rules, ◌≡◌, sym, ap, subst, ◌∙◌}
use Rattle.std.specs.Prelude.{IsSome}
use Rattle.std.specs.FinMap.{get, insert}
use Rattle.dt_callbase.specs.Sound.{Sound, KeepsOthers, stage, scene}
use Rattle.dt_calls.specs.declared.shared.Shared.{Shared}
use Rattle.dt_calls.specs.declared.task.Task.{Task}
use Rattle.dt_calls.specs.Container.{Tasks, task_in}
use Rattle.dt_calls.specs.Effect.{effect_of_answer}
use Rattle.dt_calls.specs.FileCalls.{effect_of_row, task_after_answer, file_call}
use Rattle.dt_calls.specs.InCode.{shared_of}
use Rattle.dt_calls.specs.Sound.{KeepsSound, LeavesSound}
use Rattle.dt_calls.proofs.Held.{sound-scene, leaves, keeps-called}
use Rattle.dt_calls.proofs.Tasks.{task-put, task-here, put-twice}
use Rattle.dt_calls.proofs.call.files.call.Goals as goal

pub serve_row_at-requires-clause-sound : goal.serve_row_at-requires-clause-sound
serve_row_at-requires-clause-sound g c = sound-scene c.args.shared.now c.args.vpid (g.H.Host.view c.args.host.now) c.requires.sound c.requires.lives c.args.machine.now.space

pub answer_task-requires : goal.answer_task-requires
answer_task-requires g c =
    subst (λ (x : Tasks). IsSome (get x c.args.vpid)) (sym c.serve_row_at.ensures.task) (task-here c.args.shared.now.tasks c.args.vpid _)

pub returns : goal.returns
unfolding file_call
returns g c =
    let shared = c.args.shared.now in
    let p = c.args.vpid in
    let m = c.args.machine.now in
    let world = g.H.Host.view c.args.host.now in
    let v = g.H.Host.view c.serve_row_at.new.host in
    let fs = c.serve_row_at.new.fs in
    let served = c.serve_row_at.new.tasks in
    let mid = c.serve_row_at.new.machine in
    let answer = c.in_ok-answer.answer in
    let row = c.in_ok-answer.ensures.row in
    let own = task_in shared.tasks p in
    let called : Task = record own { caller = (task_in served p).caller } in
    let task = task_after_answer answer called in
    let tasks : c.answer_task.new.tasks ≡ insert shared.tasks p task =
    c.answer_task.ensures
    ∙ ap (λ (x : Tasks). insert x p (task_after_answer answer (task_in x p))) c.serve_row_at.ensures.task
    ∙ ap (λ (t : Task). insert (insert shared.tasks p called) p (task_after_answer answer t)) (task-put shared.tasks p called)
    ∙ put-twice shared.tasks p called task in
    let sound : Sound (stage fs v task.caller mid.space) = record {
      stands = row.sound.stands;
      is_dir = row.sound.is_dir;
      all_in = row.sound.all_in;
      enough = row.sound.enough;
      piped = row.sound.piped;
    } in
    let others : KeepsOthers (scene (stage shared.fs world own.caller m.space)) (scene (stage fs v task.caller mid.space)) = record {
      vpid = row.others.vpid;
      tables = row.others.tables;
      holds = row.others.holds;
      files = row.others.files;
      dirs = row.others.dirs;
      devices = row.others.devices;
    } in
    let kept = keeps-called shared p world c.requires.sound c.requires.lives fs task v m.space mid.space sound others row.rest in
    let e = c.in_ok-give_answer.field-0 in
    let new : Shared = record shared { fs = fs; tasks = c.answer_task.new.tasks } in
    record {
      served = ap (effect_of_row (shared_of shared world) p m c.args.number) row.served
          ∙ ap (λ (x : Tasks). effect_of_answer (shared_of (record shared { fs = fs; tasks = x }) v) (record m { space = mid.space }) c.args.number answer) (sym tasks)
          ∙ ap (λ k. effect_of_answer (shared_of new v) k c.args.number answer) (sym c.serve_row_at.ensures.rest)
          ∙ c.in_ok-give_answer.ensures.served (shared_of new v);
      kept = subst (λ made. LeavesSound p e.served made shared new v) (sym c.in_ok-give_answer.ensures.child)
          (leaves p e.served shared new v (subst (λ (x : Tasks). KeepsSound shared (record shared { fs = fs; tasks = x }) v) (sym tasks) kept));
      cause = search rules;
    }
