use Rattle.std.proofs.Common.{arith, ap, ◌∙◌}
use Rattle.dt_host.specs.World.{World}
use Rattle.dt_tree.specs.Table.{tree_of}
use Rattle.dt_fds.specs.OpenFiles.{pipes_at}
use Rattle.dt_tests_host.proofs.descriptors.scene.Scene.new.Goals as goal

pub returns : goal.returns
returns c =
    let w = c.install.new.host.view in
    let files = c.in_ok-files.ensures in
    let pipes_of = λ (w : World). w.pipes in
    let none = c.install.ensures.rest.pipes ∙ ap pipes_of c.new-3.ensures.asks.stays ∙ ap pipes_of c.in_ok-host.ensures.start in
    let tree = tree_of c.install.new.self w.forest in
    record {
      stands = c.in_ok-install.ensures.stands;
      pipes = files.stands w.pipes none;
      ends = files.counted;
      backs = record {
        enough = λ n. omega (arith, files.nodes n);
        is_in = files.all_in tree.shape;
        ends = files.all_ends (pipes_at c.in_ok-files.files w.pipes);
      };
    }
