use Rattle.std.proofs.Common.{rules, ◌≡◌, ◌∙◌, sym, ap, subst, refl, None}
use Rattle.std.specs.FinMap.{insert}
use Rattle.dt_fds.specs.Holding.{Holding}
use Rattle.dt_calls.specs.declared.container.Served.TheVariants.{Done}
use Rattle.dt_calls.specs.declared.shared.Shared.{Shared}
use Rattle.dt_calls.specs.Container.{Tasks, task_in, with_task}
use Rattle.dt_calls.specs.Execve.{shared_with_holding, task_after_exec}
use Rattle.dt_calls.specs.InCode.{shared_of}
use Rattle.dt_calls.specs.Sound.{KeepsSound, LeavesSound}
use Rattle.dt_calls.proofs.Done.{effect-is}
use Rattle.dt_calls.proofs.Held.{leaves, keeps-closed}
use Rattle.dt_calls.proofs.call.execve.replace_program.Goals as goal

pub returns : goal.returns
returns g c =
    let shared = c.args.shared.now in
    let p = c.args.vpid in
    let m = c.args.program.machine in
    let world = g.H.Host.view c.args.host.now in
    let after = g.H.Host.view c.close_exec.new.host in
    let task = task_after_exec c.args.program.break_start (task_in shared.tasks p) in
    let left : Shared = record shared { fs = record shared.fs { tree = c.close_exec.new.tree; files = c.close_exec.new.self } } in
    let new : Shared = record left { tasks = c.exec_task.new.tasks } in
    let tasks : c.exec_task.new.tasks ≡ insert shared.tasks p task = c.exec_task.ensures in
    let kept = keeps-closed shared p world c.requires.sound c.requires.lives c.close_exec.new.self c.close_exec.new.tree task after refl c.in_ok-close_exec.ensures.backed c.in_ok-close_exec.ensures.others c.close_exec.ensures.rest in
    record {
      served = effect-is _ (shared_of new after) m m None Done c.quiet.result
          (ap (λ (h : Holding). with_task (shared_with_holding (shared_of shared world) h) p task) (sym c.in_ok-close_exec.ensures.made)
          ∙ ap (λ (x : Tasks). shared_of (record left { tasks = x }) after) (sym tasks)) refl c.quiet.ensures.child c.quiet.ensures.events c.quiet.ensures.served;
      kept = subst (λ made. LeavesSound p c.quiet.result.served made shared new after) (sym c.quiet.ensures.child)
          (leaves p c.quiet.result.served shared new after (subst (λ (x : Tasks). KeepsSound shared (record left { tasks = x }) after) (sym tasks) kept));
      cause = search rules;
    }
