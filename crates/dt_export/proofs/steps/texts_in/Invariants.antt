use Rattle.std.proofs.Common.{◌≡◌, ◌++◌, drop}
use Rattle.std.specs.Prelude.{option_map}
use Rattle.serde_json.specs.View.{items_view}
use Rattle.dt_export.specs.Steps.{texts_in}
use Rattle.dt_export.proofs.steps.texts_in.Given as goal

-- those of all items are those so far, and those of the items that are left
abbrev pub invariant-loop-item : goal.invariant-loop-item
invariant-loop-item l = option_map (λ texts. l.texts.items ++ texts) (texts_in (items_view (drop l.item-index l.items))) ≡ texts_in (items_view l.items)
