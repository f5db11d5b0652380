use Rattle.std.proofs.Common.{◌<◌, not, length, map, refl, sym, ap, ◌∙◌, arith}
use Rattle.dt_image.specs.ImageOf.{sorted_entries}
use Rattle.dt_image.specs.inner.IndexView.{keyed_entry}
use Rattle.dt_image.proofs.Sorting.{no_entry, twice_found, once_more, order_more}
use Rattle.dt_image.proofs.order.sources_by_path.Goals as goal

pub loop-entry-init : goal.loop-entry-init
unfolding sorted_entries
loop-entry-init c = record { once = refl; order = ap (map keyed_entry) c.new-sources.ensures.empty }

pub returns-in-Some-clause-once : goal.returns-in-Some-clause-once
returns-in-Some-clause-once c =
    let within : c.loop-entry.entry-index < length c.args.entries.now = omega arith in
    sym (ap not (twice_found c.args.entries.now c.loop-entry.entry-index no_entry _ c.in-Some.field-0 within c.loop-entry.invariant.order (sym c.in-Some.is ∙ c.in_ok-insert.ensures.old)))

pub loop-entry-preserved : goal.loop-entry-preserved
loop-entry-preserved c =
    let within : c.loop-entry.entry-index < length c.args.entries.now = omega arith in
    let none = sym c.in-None.is ∙ c.in_ok-insert.ensures.old in
    record {
      once = once_more c.args.entries.now c.loop-entry.entry-index no_entry _ within c.loop-entry.invariant.order none c.loop-entry.invariant.once;
      order = ap (map keyed_entry) c.in_ok-insert.ensures.entries ∙ order_more c.args.entries.now c.loop-entry.entry-index no_entry _ within c.loop-entry.invariant.order none;
    }
