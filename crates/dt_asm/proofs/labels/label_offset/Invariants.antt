use Rattle.std.proofs.Common.{◌≡◌, ◌+◌, drop}
use Rattle.dt_asm.specs.Item.{total_size, offset_from, label_offset}
use Rattle.dt_asm.proofs.labels.label_offset.Given as goal

-- what is left answers as all items do, and the offset is the sizes so far
abbrev pub invariant-loop-item : goal.invariant-loop-item
invariant-loop-item l = record {
  sizes : l.at + total_size (drop l.item-index l.items) ≡ total_size l.items;
  rest : offset_from l.at (drop l.item-index l.items) l.name ≡ label_offset l.items l.name;
}
