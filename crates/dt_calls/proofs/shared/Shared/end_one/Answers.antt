use Rattle.std.proofs.Common.{◌<◌, refl, sym, ap, subst, ◌∙◌}
use Rattle.std.specs.FinMap.{remove}
use Rattle.dt_procs.specs.Table as procs
use Rattle.dt_tree.specs.Changes.{tree_after_release}
use Rattle.dt_tree.specs.FileTree.{holds_of}
use Rattle.dt_tree.specs.Table.{tree_of}
use Rattle.dt_calls.specs.declared.shared.Shared.{Shared}
use Rattle.dt_calls.specs.Container.{task_in}
use Rattle.dt_calls.specs.Sound.{IsSound}
use Rattle.dt_calls.proofs.Ended.{cwd-left, sound-ended}
use Rattle.dt_calls.proofs.Tasks.{some-task}
use Rattle.dt_calls.proofs.shared.Shared.end_one.Goals as goal

pub release-requires-clause-held : goal.release-requires-clause-held
release-requires-clause-held g c =
    let old = c.args.self.now in
    let left = record old { fs = record old.fs { tree = c.drop_all.new.tree; files = c.drop_all.new.self } } in
    let u = g.H.Host.view c.drop_all.new.host in
    subst (λ n. 0 < holds_of (tree_of c.drop_all.new.tree u.forest) n) (sym c.cwd-cwd.ensures)
    (cwd-left old left old (g.H.Host.view c.args.host.now) u u c.args.vpid (task_in old.tasks c.args.vpid) c.args.end
    c.requires.sound (some-task old.tasks c.args.vpid c.requires.lives) c.in_ok-drop_all.ensures.backed c.in_ok-drop_all.ensures.others)

pub returns-clause-sound : goal.returns-clause-sound
returns-clause-sound g c =
    let old = c.args.self.now in
    let left = record old { fs = record old.fs { tree = c.drop_all.new.tree; files = c.drop_all.new.self } } in
    let u = g.H.Host.view c.drop_all.new.host in
    let v = g.H.Host.view c.release.new.host in
    let new : Shared = record {
      fs = record left.fs { tree = c.release.new.self };
      pids = c.ended.new.self;
      tasks = c.take.new.self;
    } in
    let ended : IsSound new v =
    sound-ended old left new (g.H.Host.view c.args.host.now) u v c.args.vpid (task_in old.tasks c.args.vpid) c.args.end
    c.requires.sound (some-task old.tasks c.args.vpid c.requires.lives) c.in_ok-drop_all.ensures.backed c.in_ok-drop_all.ensures.others
    refl (c.take.ensures.map ∙ ap (remove old.tasks) c.from.ensures) c.ended.ensures.members c.ended.ensures.next
    c.in_ok-release.ensures.stands (c.in_ok-release.ensures.tree ∙ ap (tree_after_release (tree_of c.drop_all.new.tree u.forest)) c.cwd-cwd.ensures)
    (c.ended.ensures.stands v.pids
    (subst (λ pids. procs.Stands old.pids pids) (sym (c.release.ensures.rest.pids ∙ c.drop_all.ensures.rest)) c.requires.sound.pids))
    c.release.ensures.rest.pipes in
    let kept = c.raise.ensures.kept.kept v ended in
    kept.sound
