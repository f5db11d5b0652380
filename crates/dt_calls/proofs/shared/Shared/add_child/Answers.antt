use Rattle.std.proofs.Common.{◌≡◌, refl, sym, ap, subst, ◌∙◌}
use Rattle.std.specs.FinMap.{insert}
use Rattle.dt_fds.specs.Backs.{KeepsNodes}
use Rattle.dt_host.proofs.Spots.{IsLive-IsDir}
use Rattle.dt_host.specs.World.{IsLive}
use Rattle.dt_procs.specs.Members.{with_child}
use Rattle.dt_procs.specs.Table.{members_of}
use Rattle.dt_tree.specs.Changes.{tree_after_hold}
use Rattle.dt_tree.specs.Table.{shape_of, tree_of}
use Rattle.dt_calls.specs.declared.shared.Shared.{Shared}
use Rattle.dt_calls.specs.Clone.{child_task}
use Rattle.dt_calls.specs.Container.{task_in}
use Rattle.dt_calls.specs.Sound.{IsSound}
use Rattle.dt_calls.proofs.Held.{own-dir, sound-child}
use Rattle.dt_calls.proofs.shared.Shared.add_child.Goals as goal

pub hold-requires-clause-live : goal.hold-requires-clause-live
hold-requires-clause-live g c =
    let world = g.H.Host.view c.args.host.now in
    let tree = c.args.self.now.fs.tree in
    let cwd = (task_in c.args.self.now.tasks c.args.parent).caller.cwd in
    subst (λ n. IsLive (shape_of tree (g.H.Host.view c.child.new.host).forest) n) (sym c.cwd-cwd.ensures)
    (subst (λ f. IsLive (shape_of tree f) cwd) (sym c.child.ensures.rest.forest)
    (IsLive-IsDir (shape_of tree world.forest) cwd (own-dir c.args.self.now c.args.parent world c.requires.sound c.requires.lives)))

pub returns-in-Ok-clause-sound : goal.returns-in-Ok-clause-sound
returns-in-Ok-clause-sound g c =
    let shared = c.args.self.now in
    let parent = c.args.parent in
    let own = task_in shared.tasks parent in
    let world = g.H.Host.view c.args.host.now in
    let after = g.H.Host.view c.child.new.host in
    let next = shared.pids.next in
    let pid = c.in_ok-vpid.vpid in
    let vpid : pid ≡ next = c.in_ok-vpid.ensures.vpid in
    let child = child_task own pid in
    let new : Shared = record {
      fs = record shared.fs { tree = c.hold.new.self; files = c.share_all.new.self };
      pids = c.child.new.self;
      tasks = insert shared.tasks pid child;
    } in
    subst (λ (s : Shared). IsSound s after) (sym c.in-Ok.ensures)
    (sound-child shared parent world c.requires.sound c.requires.lives new child after
    c.child.ensures.rest c.in_ok-hold.ensures.stands
    (c.in_ok-hold.ensures.tree ∙ ap (tree_after_hold (tree_of shared.fs.tree after.forest)) c.cwd-cwd.ensures)
    (subst (λ q. KeepsNodes q shared.fs.files.descriptors c.share_all.new.self.descriptors) vpid c.share_all.ensures.nodes)
    c.share_all.ensures.pipes c.share_all.ensures.ends
    c.in_ok-vpid.ensures.stands
    (subst (λ q. members_of c.child.new.self ≡ with_child (members_of shared.pids) q parent) vpid c.in_ok-vpid.ensures.members)
    c.in_ok-vpid.ensures.next
    (subst (λ q. insert shared.tasks pid child ≡ insert shared.tasks q child) vpid refl)
    vpid refl)
