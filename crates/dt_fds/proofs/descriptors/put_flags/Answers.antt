use Rattle.std.proofs.Common.{◌≡◌, refl, sym, ap, subst, ◌∙◌}
use Rattle.std.specs.Prelude.{IsSome, IfSome}
use Rattle.std.specs.Cmp.{nat_cmp_total}
use Rattle.std.specs.FinMap.{get, insert, nat_cmp-IsAntisymmetric}
use Rattle.dt_tables.proofs.Maps.{get-insert_same, insert_same}
use Rattle.dt_fds.specs.Descriptions.{with_flags}
use Rattle.dt_fds.proofs.descriptors.put_flags.Goals as goal

pub set-requires : goal.set-requires
set-requires c = subst (λ found. IsSome found) (sym (ap (λ m. get m c.args.n) c.swap-old.ensures.map ∙ get-insert_same nat_cmp_total nat_cmp-IsAntisymmetric c.args.descs.now c.args.n _)) refl

pub returns : goal.returns
returns c =
    subst (λ found. IfSome found (λ old. c.set.new.self ≡ insert c.args.descs.now c.args.n (with_flags c.args.append c.args.nonblock old))) (sym c.swap-old.ensures.found)
    (c.set.ensures ∙ ap (λ m. insert m c.args.n (with_flags c.args.append c.args.nonblock c.swap-old.result)) c.swap-old.ensures.map ∙ insert_same nat_cmp_total nat_cmp-IsAntisymmetric c.args.descs.now c.args.n _ _)
