use Rattle.std.proofs.Common.{sym, ap, subst, ◌∙◌}
use Rattle.std.specs.Prelude.{IsSome}
use Rattle.std.specs.FinMap.{empty, get, insert}
use Rattle.dt_fds.specs.OpenFiles.{pipes_at}
use Rattle.dt_base.specs.declared.limits.TheConstants.{FIRST_PID}
use Rattle.dt_tree.specs.Table.{Stands, tree_of}
use Rattle.dt_calls.specs.Container.{blank_task}
use Rattle.dt_calls.proofs.Started.{sound-first, none-held}
use Rattle.dt_calls.proofs.Tasks.{task-here}
use Rattle.dt_calls.proofs.shared.Shared.new.Goals as goal

pub returns-clause-sound : goal.returns-clause-sound
returns-clause-sound g c =
    let u = g.H.Host.view c.args.host.now in
    let w = g.H.Host.view c.first.new.host in
    let tasks = c.in_ok-put.ensures.ok ∙ (λ i. insert (c.new-tasks.ensures i) (c.from.ensures i) (c.first-2.ensures i)) in
    let none = c.first.ensures.rest.pipes ∙ c.requires.no_pipes in
    sound-first _ c.args.tree u w c.requires.image.0 c.requires.stands c.requires.image.1
    (subst (λ t. Stands t w.forest) (sym c.tree.view_is) (subst (λ v. Stands c.hold.new.self v) (sym c.first.ensures.rest.forest) c.in_ok-hold.ensures.stands))
    (ap (λ t. tree_of t w.forest) c.tree.view_is ∙ ap (tree_of c.hold.new.self) c.first.ensures.rest.forest ∙ c.in_ok-hold.ensures.tree)
    c.in_ok-pids.ensures.stands c.in_ok-first.ensures.nodes c.in_ok-first.ensures.all_in c.in_ok-first.ensures.files
    (record { stands = c.in_ok-first.ensures.stands w.pipes none; counted = c.in_ok-first.ensures.counted; there = c.in_ok-first.ensures.all_ends (pipes_at c.in_ok-first.field-0 w.pipes) })
    tasks c.in_ok-pids.ensures.members c.in_ok-pids.ensures.next

pub returns-clause-task : goal.returns-clause-task
returns-clause-task g c =
    let tasks = c.in_ok-put.ensures.ok ∙ (λ i. insert (c.new-tasks.ensures i) (c.from.ensures i) (c.first-2.ensures i)) in
    subst (λ m. IsSome (get m FIRST_PID)) (sym tasks) (task-here empty FIRST_PID (blank_task FIRST_PID))

pub returns-clause-ok : goal.returns-clause-ok
returns-clause-ok g c =
    let w = g.H.Host.view c.first.new.host in
    let tasks = c.in_ok-put.ensures.ok ∙ (λ i. insert (c.new-tasks.ensures i) (c.from.ensures i) (c.first-2.ensures i)) in
    let tree = ap (λ t. tree_of t w.forest) c.tree.view_is ∙ ap (tree_of c.hold.new.self) c.first.ensures.rest.forest ∙ c.in_ok-hold.ensures.tree in
    let contents = none-held c.in_ok-first.field-0.pipes w.pipes c.in_ok-first.ensures.no_pipes in
    λ i. record {
      tree = tree i;
      files = c.in_ok-first.ensures.files i;
      pipes = record { contents = contents i; next = c.in_ok-first.ensures.next i };
      clock = c.new.ensures i;
      rand = c.new-2.ensures i;
      input = (c.new-4.ensures ∙ c.new-3.ensures.items) i;
      members = c.in_ok-pids.ensures.members i;
      tasks = tasks i;
    }
