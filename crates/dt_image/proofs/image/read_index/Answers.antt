use Rattle.std.proofs.Common.{◌∙◌}
use Rattle.dt_image.proofs.Images.{by_name}
use Rattle.dt_image.proofs.image.read_index.Goals as goal

pub returns-clause-refused : goal.returns-clause-refused
returns-clause-refused g c = λ r e.
    by_name (g.S.Store.told c.args.store.now) c.as_str.result.now c.args.folder.now r (c.as_str.ensures.value ∙ c.in_ok-name.ensures) (c.index_bytes.ensures.refused r e)
