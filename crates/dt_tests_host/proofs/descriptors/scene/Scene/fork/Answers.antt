use Rattle.std.proofs.Common.{ap, ◌∙◌}
use Rattle.std.specs.FinMap.{get}
use Rattle.dt_fds.specs.Holding.{Holding}
use Rattle.dt_fds.specs.Backs.{at, holding_at}
use Rattle.dt_fds.proofs.Tabled.{none-dropped}
use Rattle.dt_tests_host.proofs.descriptors.scene.Scene.fork.Goals as goal

pub share_all-requires : goal.share_all-requires
share_all-requires c =
    ap (λ (h : Holding). get h.files.tables 2) c.in_ok-drop_all.ensures.made
    ∙ none-dropped 2 (holding_at (at c.args.self.now.files c.args.self.now.tree c.args.self.now.host.view))
