use Rattle.std.proofs.Common.{◌<◌, ◌≤◌, length, sym, ap, ◌∙◌, arith}
use Rattle.std.proofs.lemmas.List.{drop_all}
use Rattle.dt_procs.specs.Members.{vpids_of}
use Rattle.dt_procs.specs.Table.{members_of}
use Rattle.dt_calls.specs.Timers.{tasks_after_timers}
use Rattle.dt_calls.proofs.Fired.{fires-none, fires-next}
use Rattle.dt_calls.proofs.timers.fire_each.Goals as goal

pub loop-index-preserved : goal.loop-index-preserved
loop-index-preserved c =
    let vpids = vpids_of (members_of c.args.pids.now) in
    let index = c.loop-index.index in
    let below : index < length vpids = omega arith in
    fires-next c.args.ticks vpids index c.vpid_at.result c.loop-index.tasks c.fire_at.new.tasks _ below (sym c.vpid_at.ensures) c.loop-index.invariant c.fire_at.ensures

pub returns : goal.returns
returns c =
    let vpids = vpids_of (members_of c.args.pids.now) in
    let tasks = c.loop-index.tasks in
    let over : length vpids ≤ c.loop-index.index = omega arith in
    sym (c.loop-index.invariant ∙ ap (λ ps. tasks_after_timers c.args.ticks ps tasks) (drop_all c.loop-index.index vpids over)
    ∙ fires-none c.args.ticks tasks)
