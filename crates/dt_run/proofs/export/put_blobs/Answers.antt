use Rattle.std.proofs.Common.{get_or, refl, subst, ◌∙◌, arith}
use Rattle.dt_host.specs.Store.{told_with, StoresPart}
use Rattle.dt_host.specs.World.{content}
use Rattle.dt_tree.specs.Table.{shape_of, tree_of}
use Rattle.dt_image.specs.ImageOf.{name_below}
use Rattle.dt_export.specs.ExportedIndex.{blob_name}
use Rattle.dt_run.proofs.Changes.{folder_then, blobs-next, blobs-stop, on_fail}
use Rattle.dt_run.proofs.export.put_blobs.Goals as goal

pub loop-inode-preserved : goal.loop-inode-preserved
loop-inode-preserved g c =
    let before = c.loop-inode.invariant in
    let tree = c.args.tree.now in
    let n = get_or c.args.inodes.now c.loop-inode.inode-index 0 in
    record {
      stays = c.put_blob.ensures.stays ∙ before.stays;
      host = omega (arith, before.host, c.put_blob.ensures.host.later);
      store = omega (arith, before.store, c.put_blob.ensures.store.later);
      put =
          c.in_ok-put_blob.ensures.put
          ∙ (λ i. told_with (before.put i) (name_below c.args.folder.now (blob_name n)) (content (shape_of tree (before.stays i).forest) n))
          ∙ blobs-next c.args.folder.now (g.S.Store.told c.args.store.now) (tree_of tree (g.H.Host.view c.args.host.now).forest) c.args.inodes.now c.loop-inode.inode-index n 0 c.loop-inode-test.true refl;
      keeps = folder_then c.args.folder.now _ _ _ before.keeps c.put_blob.ensures.keeps;
    }

pub returns-in_err-put_blob-clause-part : goal.returns-in_err-put_blob-clause-part
returns-in_err-put_blob-clause-part g c =
    let before = c.loop-inode.invariant in
    let tree = c.args.tree.now in
    let folder = c.args.folder.now in
    let told = g.S.Store.told c.args.store.now in
    let n = get_or c.args.inodes.now c.loop-inode.inode-index 0 in
    on_fail _ _
    (blobs-stop folder told _ _ (tree_of tree (g.H.Host.view c.args.host.now).forest) c.args.inodes.now c.loop-inode.inode-index n 0 c.loop-inode-test.true refl before.put
    (subst (λ world. StoresPart (g.S.Store.told c.loop-inode.store) (g.S.Store.told c.put_blob.new.store) (name_below folder (blob_name n)) (content (shape_of tree world.forest) n)) before.stays c.in_err-put_blob.ensures.part))
