use Rattle.std.proofs.Common.{Err, refl, sym, ap, subst, ◌∙◌}
use Rattle.std.specs.List.{All}
use Rattle.dt_host.specs.World.{IsFile}
use Rattle.dt_tree.specs.Table.{shape_of, tree_of}
use Rattle.dt_export.specs.ExportedFiles.{exported_text}
use Rattle.dt_run.specs.inner.Exporting.{PutsBlobs, told_with_blobs}
use Rattle.dt_run.proofs.Changes.{exported-files, part-same}
use Rattle.dt_run.proofs.Putting.{blobs-some, index-some, fails-prepare, fails-blobs, fails-index}
use Rattle.dt_run.proofs.Wanting.{on_err}
use Rattle.dt_run.proofs.export.put_tree.Goals as goal

pub put_blobs-requires-clause-files : goal.put_blobs-requires-clause-files
put_blobs-requires-clause-files g c =
    let tree = c.args.tree.now in
    let forest = (g.H.Host.view c.args.host.now).forest in
    let inodes = c.deref.ensures.value ∙ c.in_ok-export.ensures.inodes in
    subst (λ world. All (IsFile (shape_of tree world.forest)) c.deref.result.now) (sym c.prepare_export.ensures.asks.stays)
    (subst (All (IsFile (shape_of tree forest))) (sym inodes) (exported-files (tree_of tree forest)))

pub returns-in_err-export-clause-failed : goal.returns-in_err-export-clause-failed
returns-in_err-export-clause-failed g c =
    let t = tree_of c.args.tree.now (g.H.Host.view c.args.host.now).forest in
    on_err _ _ _ c.from_residual.ensures.1
    (fails-prepare t _ _ _ _ refl (λ r is. ap (λ version. exported_text version t) (sym c.version.ensures) ∙ c.in_err-export.ensures.refused r (ap Err is)))

pub returns-in_err-put_blobs-clause-failed : goal.returns-in_err-put_blobs-clause-failed
returns-in_err-put_blobs-clause-failed g c =
    let tree = c.args.tree.now in
    let told = g.S.Store.told c.args.store.now in
    let now = g.S.Store.told c.put_blobs.new.store in
    let t = tree_of tree (g.H.Host.view c.args.host.now).forest in
    let index = ap (λ version. exported_text version t) (sym c.version.ensures) ∙ c.in_ok-export.ensures.index in
    let inodes = c.deref.ensures.value ∙ c.in_ok-export.ensures.inodes in
    let here = subst (λ world. PutsBlobs (tree_of tree world.forest) c.args.folder.now c.deref.result.now told now) c.prepare_export.ensures.asks.stays c.in_err-put_blobs.ensures.part in
    let some = subst (λ these. PutsBlobs (tree_of tree (g.H.Host.view c.args.host.now).forest) c.args.folder.now these told now) inodes here in
    on_err _ _ _ c.from_residual-in_err-put_blobs.ensures.1
    (fails-blobs t _ _ _ _ c.in_err-put_blobs.ensures.fault (blobs-some t _ _ _ _ index some))

pub returns-in_err-put_index-clause-failed : goal.returns-in_err-put_index-clause-failed
returns-in_err-put_index-clause-failed g c =
    let tree = c.args.tree.now in
    let forest = (g.H.Host.view c.args.host.now).forest in
    let told = g.S.Store.told c.args.store.now in
    let t = tree_of tree forest in
    let index = ap (λ version. exported_text version t) (sym c.version.ensures) ∙ c.in_ok-export.ensures.index in
    let inodes = c.deref.ensures.value ∙ c.in_ok-export.ensures.inodes in
    let mid =
    c.in_ok-put_blobs.ensures.put
    ∙ ap (λ world. told_with_blobs told c.args.folder.now (tree_of tree world.forest) c.deref.result.now) c.prepare_export.ensures.asks.stays
    ∙ ap (told_with_blobs told c.args.folder.now (tree_of tree forest)) inodes in
    on_err _ _ _ c.from_residual-in_err-put_index.ensures.1
    (fails-index t _ _ _ _ (index-some t _ _ _ _ index _ mid (part-same _ _ _ _ _ _ refl c.as_slice.ensures c.in_err-put_index.ensures.part)))
