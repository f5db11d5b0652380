use Rattle.std.proofs.Common.{◌≡◌, Err, IfSome, subst}
use Rattle.dt_image.specs.ImageOf.{image_of}
use Rattle.dt_run.proofs.top.read_run_image.Goals as goal

pub returns-clause-refused : goal.returns-clause-refused
returns-clause-refused g c = λ r is.
    let told = g.S.Store.told c.args.store.now in
    subst (λ folder. IfSome told (λ files. image_of files folder c.args.options.now.input ≡ Err r)) c.as_str.ensures
    (subst (λ input. IfSome told (λ files. image_of files c.as_str.result.now input ≡ Err r)) c.input_name.ensures (c.read_image.ensures.refused r is))
