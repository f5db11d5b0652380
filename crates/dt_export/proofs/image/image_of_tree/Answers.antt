use Rattle.std.proofs.Common.{◌≡◌, Some, Ok, map, sym, ap, ◌∙◌}
use Rattle.dt_host.specs.World.{World}
use Rattle.dt_tree.specs.Table.{tree_of}
use Rattle.dt_export.specs.ExportedImage.{exported_image}
use Rattle.dt_image.specs.Paths.{path_pair}
use Rattle.dt_export.proofs.Exported.{some_image, no_image}
use Rattle.dt_export.proofs.image.image_of_tree.Goals as goal

pub returns-in-Some-clause-refused : goal.returns-in-Some-clause-refused
returns-in-Some-clause-refused g c = λ r is.
    let same : c.in-Some.refusal ≡ r = cc in
    let t = tree_of c.args.tree.now (g.H.Host.view c.args.host.now).forest in
    let paths = ap (map path_pair) c.deref.ensures.value ∙ c.in_ok-paths.ensures.ok in
    no_image t (map path_pair c.deref.result.now) paths r (sym c.path_refusal.ensures ∙ c.in-Some.is ∙ ap Some same)

pub returns-clause-ok : goal.returns-clause-ok
returns-clause-ok g c =
    let t = tree_of c.args.tree.now (g.H.Host.view c.args.host.now).forest in
    let paths = ap (map path_pair) c.deref.ensures.value ∙ c.in_ok-paths.ensures.ok in
    let image = c.in_ok-image_of_paths-in-None.ensures.ok ∙ ap (λ (w : World). exported_image (tree_of c.args.tree.now w.forest)) c.in_ok-paths.ensures.asks.stays in
    some_image t (map path_pair c.deref.result.now) paths (sym c.path_refusal.ensures ∙ c.in-None.is) ∙ ap Ok (sym image)
