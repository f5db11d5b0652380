use Rattle.std.proofs.Common.{sym, subst}
use Rattle.dt_host.specs.World.{World}
use Rattle.dt_tests_host.specs.Subject.{IsOf}
use Rattle.dt_tests_host.proofs.host.scene.Scene.ask.Goals as goal

pub returns : goal.returns
returns c = let old = c.args.self.now in subst (λ (w : World). IsOf w old.kind old.number old.most) (sym c.answer.ensures) c.requires
