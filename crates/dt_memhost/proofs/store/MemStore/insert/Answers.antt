use Rattle.std.proofs.Common.{ap, ◌∙◌}
use Rattle.std.specs.Prelude.{string_bytes, vec_items}
use Rattle.std.specs.Cmp.Lexicographic.{nat_list_cmp_total}
use Rattle.std.specs.FinMap.{insert}
use Rattle.dt_tables.proofs.Maps.{names_tie}
use Rattle.dt_tables.proofs.MapOf.{map_of-insert_entry}
use Rattle.dt_tables.specs.Entries.{map_of}
use Rattle.dt_memhost.proofs.store.MemStore.insert.Goals as goal

pub returns-clause-ok : goal.returns-clause-ok
returns-clause-ok c =
    let old = c.self.inside.files.entries in
    let name = c.in_ok-name.name in
    let bytes = c.in_ok-bytes.bytes in
    let inserted =
    ap (map_of string_bytes vec_items) c.in_ok-insert.ensures.entries
    ∙ map_of-insert_entry nat_list_cmp_total string_bytes vec_items names_tie old name bytes
    ∙ ap (λ k. insert (map_of string_bytes vec_items old) k bytes.items) c.in_ok-name.ensures.ok
    ∙ ap (insert (map_of string_bytes vec_items old) c.args.name.now) c.in_ok-bytes.ensures.items in
    rw (← c.self.view_is) (ap (λ files. record { files = files; script = c.self.inside.script }) inserted)
