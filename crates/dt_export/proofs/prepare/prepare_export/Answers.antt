use Rattle.std.proofs.Common.{◌≡◌, Some, map, sym, ap, ◌∙◌}
use Rattle.dt_tree.specs.Table.{tree_of}
use Rattle.dt_image.specs.Paths.{path_pair}
use Rattle.dt_export.proofs.Prepared.{refused_text}
use Rattle.dt_export.proofs.prepare.prepare_export.Goals as goal

pub returns-in-Some-clause-refused : goal.returns-in-Some-clause-refused
returns-in-Some-clause-refused g c = λ r is.
    let same : c.in-Some.refusal ≡ r = cc in
    let t = tree_of c.args.tree.now (g.H.Host.view c.args.host.now).forest in
    let paths = ap (map path_pair) c.deref.ensures.value ∙ c.in_ok-paths.ensures.ok in
    refused_text c.args.version t (map path_pair c.deref.result.now) paths r (sym c.path_refusal.ensures ∙ c.in-Some.is ∙ ap Some same)
