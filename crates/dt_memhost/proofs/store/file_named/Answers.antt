use Rattle.std.proofs.Common.{ap, sym, ◌∙◌}
use Rattle.std.specs.Prelude.{option_map, string_bytes, vec_items}
use Rattle.std.specs.Cmp.Lexicographic.{nat_list_cmp_total}
use Rattle.dt_tables.proofs.MapOf.{get-map_of}
use Rattle.dt_memhost.proofs.store.file_named.Goals as goal

pub returns : goal.returns
returns c =
    ap (option_map vec_items) c.get.ensures.value
    ∙ sym (get-map_of nat_list_cmp_total string_bytes vec_items c.args.name.now c.args.files.now.entries)
