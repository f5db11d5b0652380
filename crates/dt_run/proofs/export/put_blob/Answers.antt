use Rattle.std.proofs.Common.{◌≡◌, ◌∙◌}
use Rattle.dt_image.specs.ImageOf.{name_below}
use Rattle.dt_export.specs.ExportedIndex.{blob_name}
use Rattle.dt_run.proofs.Changes.{blob-changes, put-changes, part-same, on_fail}
use Rattle.dt_run.proofs.export.put_blob.Goals as goal

pub returns-in_err-put-clause-keeps : goal.returns-in_err-put-clause-keeps
returns-in_err-put-clause-keeps g c =
    let named : c.as_str.result.now ≡ name_below c.args.folder.now (blob_name c.args.inode) = c.as_str.ensures.value ∙ c.in_ok-name.ensures.ok in
    put-changes c.args.folder.now c.put.result _ _ _ _ (λ some. blob-changes c.args.folder.now _ c.args.inode _ some named) c.put.ensures.ok c.put.ensures.err

pub returns-clause-keeps : goal.returns-clause-keeps
returns-clause-keeps g c =
    let named : c.as_str.result.now ≡ name_below c.args.folder.now (blob_name c.args.inode) = c.as_str.ensures.value ∙ c.in_ok-name.ensures.ok in
    put-changes c.args.folder.now c.put.result _ _ _ _ (λ some. blob-changes c.args.folder.now _ c.args.inode _ some named) c.put.ensures.ok c.put.ensures.err

pub returns-in_err-put-clause-part : goal.returns-in_err-put-clause-part
returns-in_err-put-clause-part g c =
    let named : c.as_str.result.now ≡ name_below c.args.folder.now (blob_name c.args.inode) = c.as_str.ensures.value ∙ c.in_ok-name.ensures.ok in
    on_fail _ _ (part-same _ _ _ _ _ _ named (c.deref.ensures.value ∙ c.in_ok-bytes.ensures.ok) c.in_err-put.ensures.err)
