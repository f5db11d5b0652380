use Rattle.std.proofs.Common.{None, refl, sym, ◌∙◌}
use Rattle.dt_rv64.specs.Effects.{machine_after_answer}
use Rattle.dt_calls.specs.declared.container.Served.TheVariants.{Done}
use Rattle.dt_calls.specs.Effect.{done_effect}
use Rattle.dt_calls.specs.InCode.{shared_of}
use Rattle.dt_calls.specs.MemoryCalls.{brk_call}
use Rattle.dt_calls.proofs.Done.{effect-is}
use Rattle.dt_calls.proofs.Tasks.{changes-task}
use Rattle.dt_calls.proofs.call.memory.brk.Goals as goal

pub returns-clause-kept : goal.returns-clause-kept
returns-clause-kept c = changes-task c.args.shared.now c.move_break.new.tasks c.args.vpid _ c.requires c.in_ok-end.ensures.tasks refl refl

pub returns-clause-served : goal.returns-clause-served
unfolding brk_call
returns-clause-served c = λ w.
    let shared = c.args.shared.now in
    let moved = c.in_ok-end.ensures in
    let mid = shared_of (record shared { tasks = c.move_break.new.tasks }) w in
    let end = c.in_ok-end.end in
    (λ i. done_effect (record (shared_of shared w) { tasks = sym moved.tasks i }) (sym moved.machine i) (sym moved.told i))
    ∙ effect-is mid mid (machine_after_answer c.move_break.new.machine end) c.done.new.machine None Done c.done.result refl (sym c.done.ensures.machine) c.done.ensures.child c.done.ensures.events c.done.ensures.served
