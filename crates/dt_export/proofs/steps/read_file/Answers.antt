use Rattle.std.proofs.Common.{◌≡◌, ◌∙◌, true, rules}
use Rattle.std.specs.Prelude.{IfOk, option_and_then, option_map, vec_items}
use Rattle.dt_image.specs.Index.{is_blob_name}
use Rattle.dt_export.specs.Steps.{steps_of}
use Rattle.dt_export.proofs.Listed.{at_name}
use Rattle.dt_export.proofs.steps.read_file.Goals as goal

pub returns-clause-steps : goal.returns-clause-steps
returns-clause-steps g c =
    let good : is_blob_name c.args.file.now ≡ true = search rules in
    at_name (g.S.Store.told c.args.store.now) c.as_str.result.now c.args.folder.now c.args.file.now
    (λ steps. IfOk c.read_named.result (λ found. option_and_then steps_of (option_map vec_items found) ≡ steps))
    good (c.as_str.ensures.value ∙ c.in_ok-name.ensures) c.read_named.ensures.steps
