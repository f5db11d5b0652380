use Rattle.std.specs.Cmp.{nat_cmp_total}
use Rattle.dt_tables.proofs.MapOf.{map_of-nil}
use Rattle.dt_tables.proofs.numbered.Numbered.new.Goals as goal

pub returns : goal.returns
returns g c = map_of-nil nat_cmp_total (λ n. n) (λ x. x) c.new.result.entries c.new.ensures.empty
