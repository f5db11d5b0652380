use Rattle.std.proofs.Common.{Some, Err, List, ℕ, Option, option_map, map, sym, ap, ◌∙◌}
use Rattle.std.specs.Borrow.{Bor}
use Rattle.dt_host.proofs.Asking.{passed_on}
use Rattle.dt_image.specs.inner.IndexView.{entry_in}
use Rattle.dt_image.specs.ImageOf.{value_of}
use Rattle.dt_image.proofs.Indexed.{parts, told_index, at_input}
use Rattle.dt_image.proofs.image.read_image.Goals as goal

pub returns-in-Some-clause-refused : goal.returns-in-Some-clause-refused
returns-in-Some-clause-refused g c = λ r is.
    let read = ap value_of (sym c.deref.ensures.value) ∙ c.in_ok-index.ensures.ok in
    let lists = ap (λ files. Some (parts c.in-Some.version (map entry_in files))) c.deref-in-Some.ensures.value ∙ rw c.in-Some.is at c.in_ok-version.ensures.value in
    told_index (g.S.Store.told c.args.store.now) (g.S.Store.told c.read_index.new.store) _ _ _ _ _ _ c.read_index.ensures.asks.stays c.in_ok-bytes.ensures.ok read lists (c.read_entries.ensures.refused r is)

pub returns-in_err-bytes-clause-refused : goal.returns-in_err-bytes-clause-refused
returns-in_err-bytes-clause-refused g c = λ r is.
    at_input (g.S.Store.told c.args.store.now) c.args.folder.now (option_map (λ (name : Bor (List ℕ)). name.now) c.args.input) r
    (c.in_err-bytes.ensures.refused r (ap Err (passed_on _ _ _ c.from_residual.ensures.1 is)))
