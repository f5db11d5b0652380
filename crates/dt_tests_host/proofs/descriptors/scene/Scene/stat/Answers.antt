use Rattle.std.proofs.Common.{sym, subst}
use Rattle.std.specs.Prelude.{IfSome}
use Rattle.dt_host.specs.World.{IsLive}
use Rattle.dt_tree.specs.Table.{shape_of}
use Rattle.dt_fds.specs.Descriptions.{inode_of}
use Rattle.dt_tests_host.proofs.Kept.{live-described}
use Rattle.dt_tests_host.proofs.descriptors.scene.Scene.stat.Goals as goal

pub meta-requires-clause-live : goal.meta-requires-clause-live
meta-requires-clause-live c =
    let v = shape_of c.args.self.now.tree c.args.self.now.host.view.forest in
    let there = subst (λ found. IfSome found (λ desc. IfSome (inode_of desc.kind) (IsLive v))) (sym c.in-Some.ensures.desc) (live-described v c.args.self.now.files.descriptors c.args.pid c.args.fd c.requires.backs.is_in) in
    subst (λ found. IfSome found (IsLive v)) (sym c.in-Some-inode.ensures) there
