use Rattle.std.proofs.Common.{◌≡◌, None, sym, ap, ◌∙◌}
use Rattle.std.specs.FinMap.{get}
use Rattle.indexmap.proofs.CallerLemmas.{insert_entry-new}
use Rattle.dt_memhost.specs.inner.Dir.{order_of, names_of}
use Rattle.dt_memhost.proofs.Named.{get-names_of, order_of-push, names_of-push}
use Rattle.dt_memhost.proofs.dir.Entries.bind.Goals as goal

pub returns-clause-ok : goal.returns-clause-ok
returns-clause-ok c =
    let old = c.self.inside.names in
    let none : get (names_of (order_of old.entries)) c.args.name.items ≡ None = rw c.self.view_is c.requires in
    let last = insert_entry-new _ old c.args.name c.args.number (sym (get-names_of old.entries c.args.name.items) ∙ none) in
    rw (← c.self.view_is) (ap order_of (c.in_ok-insert.ensures.entries ∙ last) ∙ order_of-push old.entries c.args.name c.args.number)

pub returns-clause-names : goal.returns-clause-names
returns-clause-names c =
    let old = c.self.inside.names in
    let order = order_of old.entries in
    let none : get (names_of order) c.args.name.items ≡ None = rw c.self.view_is c.requires in
    let last = insert_entry-new _ old c.args.name c.args.number (sym (get-names_of old.entries c.args.name.items) ∙ none) in
    rw (← c.self.view_is) (ap (λ es. names_of (order_of es)) (c.in_ok-insert.ensures.entries ∙ last) ∙ ap names_of (order_of-push old.entries c.args.name c.args.number) ∙ names_of-push order c.args.name.items c.args.number none)
