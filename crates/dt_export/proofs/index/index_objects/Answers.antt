use Rattle.std.proofs.Common.{◌<◌, ℕ, List, Err, length, map, sym, ap, ◌∙◌, arith}
use Rattle.std.proofs.lemmas.List.Folds.{list_all-map, list_all_at}
use Rattle.dt_host.specs.World.{World}
use Rattle.dt_host.proofs.Asking.{passed_on}
use Rattle.dt_tree.specs.Table.{tree_of}
use Rattle.dt_image.specs.declared.paths.TreePath.{TreePath}
use Rattle.dt_export.specs.ExportedImage.{entry_at}
use Rattle.dt_export.specs.ExportedIndex.{is_text_entry}
use Rattle.dt_image.specs.Paths.{path_pair}
use Rattle.dt_export.proofs.index.index_objects.Goals as goal

pub returns-in_err-object_at-clause-refused : goal.returns-in_err-object_at-clause-refused
returns-in_err-object_at-clause-refused g c = λ r is.
    let v = (g.H.Host.view c.args.host.now).forest in
    let entry = λ (at : TreePath). entry_at (tree_of c.args.tree.now v) (path_pair at) in
    let within : c.loop-at.at-index < length c.args.paths.now = omega arith in
    let lacks = c.in_err-object_at.ensures.refused r (ap Err (passed_on _ _ _ c.from_residual.ensures.1 is)) in
    let here =
    ap (λ (at : TreePath). is_text_entry (entry at)) (sym c.at-item.is)
    ∙ ap (λ (w : World). is_text_entry (entry_at (tree_of c.args.tree.now w.forest) (path_pair c.at-item.result))) (sym c.loop-at.invariant.stays)
    ∙ lacks.1 in (
      lacks.0,
      list_all-map is_text_entry (entry_at (tree_of c.args.tree.now v)) (map path_pair c.args.paths.now)
          ∙ list_all-map (λ (at : List ℕ × ℕ). is_text_entry (entry_at (tree_of c.args.tree.now v) at)) path_pair c.args.paths.now
          ∙ list_all_at (λ (at : TreePath). is_text_entry (entry at)) c.args.paths.now c.loop-at.at-index c.at-item.result within here,
    )
