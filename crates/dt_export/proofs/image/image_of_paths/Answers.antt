use Rattle.std.proofs.Common.{◌≡◌, map, sym, ap, subst, ◌∙◌}
use Rattle.dt_base.specs.Image.{ImageParts, IsImage}
use Rattle.dt_tree.specs.Table.{tree_of}
use Rattle.dt_export.specs.ExportedImage.{entry_at, exported_image, path_refusal}
use Rattle.dt_export.proofs.Exported.{IsImage-exported, live_shown}
use Rattle.dt_export.proofs.image.image_of_paths.Goals as goal

pub read_entries-requires-clause-live : goal.read_entries-requires-clause-live
read_entries-requires-clause-live g c = live_shown (tree_of c.args.tree.now (g.H.Host.view c.args.host.now).forest) c.args.paths.now c.requires.paths c.requires.stands.tree

pub new-requires : goal.new-requires
new-requires g c =
    let t = tree_of c.args.tree.now (g.H.Host.view c.args.host.now).forest in
    let entries = c.in_ok-read_entries.ensures.ok ∙ ap (map (entry_at t)) c.requires.paths in
    subst IsImage (λ i. record { version = sym c.requires.profile i; entries = sym entries i }) (IsImage-exported t c.requires.stands.tree (ap path_refusal (sym c.requires.paths) ∙ c.requires.good))

pub returns-clause-ok : goal.returns-clause-ok
returns-clause-ok g c =
    let t = tree_of c.args.tree.now (g.H.Host.view c.args.host.now).forest in
    let entries = c.in_ok-read_entries.ensures.ok ∙ ap (map (entry_at t)) c.requires.paths in
    let same : ◌≡◌ {A = ImageParts} (record { version = c.args.version; entries = c.in_ok-read_entries.field-0.items }) (exported_image t) = λ i. record { version = c.requires.profile i; entries = entries i } in
    c.new.ensures ∙ same
