use Rattle.std.proofs.Common.{◌≡◌, refl, ◌∙◌}
use Rattle.std.specs.Prelude.{codes}
use Rattle.dt_image.specs.ImageOf.{name_below}
use Rattle.dt_run.proofs.Changes.{index-changes, put-changes, part-same, if_fail}
use Rattle.dt_run.proofs.export.put_index.Goals as goal

pub returns-clause-keeps : goal.returns-clause-keeps
returns-clause-keeps g c =
    let named : c.as_str.result.now ≡ name_below c.args.folder.now (codes "image.json") = c.as_str.ensures.value ∙ c.in_ok-name.ensures.ok in
    put-changes c.args.folder.now c.put.result _ _ _ _ (λ some. index-changes c.args.folder.now _ _ some named) c.put.ensures.ok c.put.ensures.err

pub returns-clause-part : goal.returns-clause-part
returns-clause-part g c =
    let named : c.as_str.result.now ≡ name_below c.args.folder.now (codes "image.json") = c.as_str.ensures.value ∙ c.in_ok-name.ensures.ok in
    if_fail c.put.result _ _ c.put.ensures.err (part-same _ _ _ _ _ _ named refl)
