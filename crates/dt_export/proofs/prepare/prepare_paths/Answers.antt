use Rattle.std.proofs.Common.{◌<◌, ◌^◌, ℕ, Err, Some, map, sym, ap, subst, ◌∙◌}
use Rattle.std.specs.List.{All}
use Rattle.dt_host.proofs.Asking.{passed_on}
use Rattle.dt_tree.specs.Table.{tree_of}
use Rattle.dt_export.specs.ExportedImage.{path_refusal}
use Rattle.dt_export.specs.ExportedIndex.{exported_index}
use Rattle.dt_export.specs.ExportedFiles.{exported_files, with_files}
use Rattle.dt_export.specs.ReadBack.{IsReadAs}
use Rattle.dt_export.specs.inner.Inodes.{inodes_of_files}
use Rattle.dt_image.specs.Paths.{path_pair}
use Rattle.dt_export.proofs.Exported.{live_shown, some_image}
use Rattle.dt_export.proofs.Gathered.{same_inodes}
use Rattle.dt_export.proofs.Prepared.{some_text}
use Rattle.dt_export.proofs.Put.{has_export}
use Rattle.dt_export.proofs.ReadBack.{read_back}
use Rattle.dt_export.proofs.prepare.prepare_paths.Goals as goal

pub returns-in_err-index-clause-refused : goal.returns-in_err-index-clause-refused
returns-in_err-index-clause-refused g c = λ r is.
    let t = tree_of c.args.tree.now (g.H.Host.view c.args.host.now).forest in
    some_text c.args.version t (map path_pair c.args.paths.now) c.requires.paths c.requires.good ∙ c.in_err-index.ensures.refused r (ap Err (passed_on _ _ _ c.from_residual.ensures.1 is))

pub returns-clause-index : goal.returns-clause-index
returns-clause-index g c =
    let t = tree_of c.args.tree.now (g.H.Host.view c.args.host.now).forest in
    some_text c.args.version t (map path_pair c.args.paths.now) c.requires.paths c.requires.good ∙ c.in_ok-index.ensures.ok

pub returns-clause-inodes : goal.returns-clause-inodes
returns-clause-inodes g c =
    let v = (g.H.Host.view c.args.host.now).forest in
    let t = tree_of c.args.tree.now v in
    c.in_ok-inodes.ensures v c.requires.stands (live_shown t c.args.paths.now c.requires.paths c.requires.stands.tree) ∙ ap (inodes_of_files t.shape) c.requires.paths ∙ same_inodes t

pub returns-clause-image : goal.returns-clause-image
returns-clause-image g c =
    let t = tree_of c.args.tree.now (g.H.Host.view c.args.host.now).forest in
    some_image t (map path_pair c.args.paths.now) c.requires.paths c.requires.good

pub returns-clause-read_back : goal.returns-clause-read_back
unfolding IsReadAs
returns-clause-read_back g c = λ files folder.
    let v = (g.H.Host.view c.args.host.now).forest in
    let t = tree_of c.args.tree.now v in
    let inodes = c.in_ok-inodes.ensures v c.requires.stands (live_shown t c.args.paths.now c.requires.paths c.requires.stands.tree) ∙ ap (inodes_of_files t.shape) c.requires.paths ∙ same_inodes t in
    let none = ap path_refusal (sym c.requires.paths) ∙ c.requires.good in
    let value = c.in_ok-index.ensures.value ∙ ap (λ version. Some (exported_index version t)) c.requires.profile in
    let small = subst (All (λ (n : ℕ). n < 2 ^ 64)) (c.deref.ensures.value ∙ inodes) c.have_64_bits.ensures in
    let held = with_files files folder (exported_files t c.in_ok-index.index) in
    read_back t c.requires.stands.tree held folder c.in_ok-index.index none value (has_export t folder files c.in_ok-index.index small)
