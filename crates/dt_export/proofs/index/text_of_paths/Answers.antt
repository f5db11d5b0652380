use Rattle.std.proofs.Common.{◌≡◌, ◌≤◌, Some, Ok, Err, map, sym, ap, subst, ◌∙◌, arith, length}
use Rattle.std.specs.List.{list_all}
use Rattle.serde_json.specs.Data.{items_depth}
use Rattle.serde_json.specs.View.{items_of}
use Rattle.serde_json.specs.Written.{items_have_float, compact_text}
use Rattle.dt_host.proofs.Asking.{passed_on}
use Rattle.dt_tree.specs.Table.{tree_of}
use Rattle.dt_export.specs.declared.refusal.ExportRefusal.TheVariants.{BigIndex}
use Rattle.dt_export.specs.ExportedImage.{entry_at}
use Rattle.dt_export.specs.ExportedIndex.{object_at, index_of_objects, is_text_entry}
use Rattle.dt_image.specs.Paths.{path_pair}
use Rattle.dt_export.proofs.Exported.{live_shown}
use Rattle.dt_export.proofs.Objects.{no_floats, all_flat, other_index, big_index, some_index}
use Rattle.dt_image.specs.ImageOf.{value_of}
use Rattle.dt_image.proofs.Images.{value_of_text}
use Rattle.dt_export.proofs.index.text_of_paths.Goals as goal

pub index_objects-requires-clause-live : goal.index_objects-requires-clause-live
index_objects-requires-clause-live g c = live_shown (tree_of c.args.tree.now (g.H.Host.view c.args.host.now).forest) c.args.paths.now c.requires.paths c.requires.stands.tree

pub returns-in_err-objects-clause-refused : goal.returns-in_err-objects-clause-refused
returns-in_err-objects-clause-refused g c = λ r is.
    let t = tree_of c.args.tree.now (g.H.Host.view c.args.host.now).forest in
    let lacks = c.in_err-objects.ensures.refused r (ap Err (passed_on _ _ _ c.from_residual.ensures.1 is)) in
    let other = ap (λ paths. list_all is_text_entry (map (entry_at t) paths)) (sym c.requires.paths) ∙ lacks.1 in
    other_index c.args.version t other ∙ ap Err (sym lacks.0)

pub write_index-requires-clause-plain : goal.write_index-requires-clause-plain
write_index-requires-clause-plain g c =
    let t = tree_of c.args.tree.now (g.H.Host.view c.args.host.now).forest in
    ap (λ objects. items_have_float (items_of objects)) c.in_ok-objects.ensures.ok ∙ no_floats t (map path_pair c.args.paths.now)

pub write_index-requires-clause-flat : goal.write_index-requires-clause-flat
write_index-requires-clause-flat g c =
    let t = tree_of c.args.tree.now (g.H.Host.view c.args.host.now).forest in
    subst (λ objects. items_depth (items_of objects) ≤ 1) (sym c.in_ok-objects.ensures.ok) (all_flat t (map path_pair c.args.paths.now))

pub returns-then-len-gt-INDEX_LIMIT-clause-refused : goal.returns-then-len-gt-INDEX_LIMIT-clause-refused
returns-then-len-gt-INDEX_LIMIT-clause-refused g c = λ r is.
    let same : BigIndex ≡ r = cc in
    let t = tree_of c.args.tree.now (g.H.Host.view c.args.host.now).forest in
    let text = ap (λ paths. list_all is_text_entry (map (entry_at t) paths)) (sym c.requires.paths) ∙ c.in_ok-objects.ensures.text in
    let objects = c.in_ok-objects.ensures.ok ∙ ap (map (object_at t)) c.requires.paths in
    let len = ap length (c.in_ok-text.ensures.text ∙ ap (λ objects. compact_text (index_of_objects c.args.version objects)) objects) in
    big_index c.args.version t text (omega (arith, len)) ∙ ap Err same

pub returns-clause-ok : goal.returns-clause-ok
returns-clause-ok g c =
    let t = tree_of c.args.tree.now (g.H.Host.view c.args.host.now).forest in
    let text = ap (λ paths. list_all is_text_entry (map (entry_at t) paths)) (sym c.requires.paths) ∙ c.in_ok-objects.ensures.text in
    let objects = c.in_ok-objects.ensures.ok ∙ ap (map (object_at t)) c.requires.paths in
    let written = c.in_ok-text.ensures.text ∙ ap (λ objects. compact_text (index_of_objects c.args.version objects)) objects in
    let len = ap length written in
    some_index c.args.version t text (omega (arith, len)) ∙ ap Ok (sym (c.new.ensures ∙ written))

pub returns-clause-value : goal.returns-clause-value
returns-clause-value g c =
    let t = tree_of c.args.tree.now (g.H.Host.view c.args.host.now).forest in
    let objects = c.in_ok-objects.ensures.ok ∙ ap (map (object_at t)) c.requires.paths in
    ap value_of c.new.ensures
    ∙ value_of_text c.in_ok-text.text.items (omega arith) c.in_ok-text.ensures.utf8
    ∙ c.in_ok-text.ensures.read
    ∙ ap (λ objects. Some (index_of_objects c.args.version objects)) objects
