use Rattle.std.specs.Prelude.{string_bytes, vec_items}
use Rattle.std.specs.Cmp.Lexicographic.{nat_list_cmp_total}
use Rattle.dt_tables.proofs.MapOf.{map_of-nil}
use Rattle.dt_memhost.proofs.store.MemStore.new.Goals as goal

pub returns : goal.returns
returns c = rw (map_of-nil nat_list_cmp_total string_bytes vec_items c.new.result.entries c.new.ensures.empty, c.new-2.ensures)
