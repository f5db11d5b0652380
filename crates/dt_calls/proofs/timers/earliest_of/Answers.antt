use Rattle.std.proofs.Common.{◌≡◌, ◌<◌, ◌≤◌, length, sym, ap, ◌∙◌, arith}
use Rattle.std.proofs.lemmas.List.{drop_all}
use Rattle.std.specs.Option.{option_copied}
use Rattle.std.specs.FinMap.{get}
use Rattle.dt_procs.specs.Members.{vpids_of}
use Rattle.dt_procs.specs.Table.{members_of}
use Rattle.dt_calls.specs.Timers.{sooner, due_in, earliest_after}
use Rattle.dt_calls.proofs.Fired.{earliest-none, earliest-next, sooner-none}
use Rattle.dt_calls.proofs.timers.earliest_of.Goals as goal
use Rattle.dt_calls.proofs.timers.earliest_of.Goals.{in-Some, in_default}

pub loop-index-preserved : goal.loop-index-preserved
loop-index-preserved c =
    let vpids = vpids_of (members_of c.args.pids.now) in
    let index = c.loop-index.index in
    let tasks = c.args.tasks.now in
    let below : index < length vpids = omega arith in
    let next : c.match-get.earliest ≡ sooner c.loop-index.earliest (due_in (get tasks c.from.result)) = elim c.match-get.branch [
      | in-Some w ↦ w.earliest-is ∙ w.sooner-earliest.ensures ∙ ap (sooner c.loop-index.earliest) (w.due.ensures ∙ ap due_in (ap option_copied (sym w.in-Some.is) ∙ c.get.ensures))
      | in_default w ↦ w.earliest-is ∙ sym (sooner-none c.loop-index.earliest) ∙ ap (λ found. sooner c.loop-index.earliest (due_in found)) (ap option_copied (sym w.in_default.is) ∙ c.get.ensures)
    ] in
    earliest-next vpids index c.from.result c.loop-index.earliest c.match-get.earliest _ tasks below (sym (c.from.ensures ∙ c.vpid_at.ensures)) c.loop-index.invariant next

pub returns : goal.returns
returns c =
    let vpids = vpids_of (members_of c.args.pids.now) in
    let tasks = c.args.tasks.now in
    let over : length vpids ≤ c.loop-index.index = omega arith in
    sym (c.loop-index.invariant ∙ ap (λ ps. earliest_after c.loop-index.earliest ps tasks) (drop_all c.loop-index.index vpids over)
    ∙ earliest-none c.loop-index.earliest tasks)
