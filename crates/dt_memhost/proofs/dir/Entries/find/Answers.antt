use Rattle.std.proofs.Common.{sym, ◌∙◌}
use Rattle.dt_memhost.proofs.Named.{get-names_of}
use Rattle.dt_memhost.proofs.dir.Entries.find.Goals as goal

pub returns : goal.returns
returns c =
    let found = get-names_of c.self.inside.names.entries c.args.name.now in
    rw (← c.self.view_is) (c.copied.ensures ∙ c.get.ensures.value ∙ sym found)
