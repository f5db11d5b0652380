use Rattle.std.proofs.Common.{Err, ap, ◌∙◌}
use Rattle.dt_tree.specs.Table.{tree_of}
use Rattle.dt_steps.proofs.Ran.{of-paths}
use Rattle.dt_steps.proofs.step.image_left.Goals as goal

pub no_image-requires : goal.no_image-requires
no_image-requires g c =
    of-paths (tree_of c.args.tree.now (g.H.Host.view c.args.host.now).forest) c.in-Err-Refused.refusal
    (c.image_of_tree.ensures.refused c.in-Err-Refused.refusal (c.in-Err-Refused.is ∙ ap Err c.in-Err-Refused.field-0-is))
