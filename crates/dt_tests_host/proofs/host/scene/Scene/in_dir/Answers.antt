use Rattle.std.proofs.Common.{sym, subst}
use Rattle.dt_host.specs.declared.kind.NodeKind.{NodeKind}
use Rattle.dt_tests_host.specs.Subject.{IsOf}
use Rattle.dt_tests_host.proofs.host.scene.Scene.in_dir.Goals as goal

pub make-requires : goal.make-requires
make-requires c = let old = c.args.self.now in subst (λ (kind : NodeKind). IsOf old.host.view kind old.number old.most) c.in-Dir.is c.requires

pub returns-in-Dir : goal.returns-in-Dir
returns-in-Dir c = let old = c.args.self.now in subst (λ (kind : NodeKind). IsOf c.make.new.host.view kind old.number old.most) (sym c.in-Dir.is) c.make.ensures
