use Rattle.std.proofs.Common.{◌≡◌, ◌+◌, drop}
use Rattle.dt_asm.specs.Item.{total_size}
use Rattle.dt_asm.specs.Refusal.{any_out_of_reach}
use Rattle.dt_asm.proofs.labels.any_out_of_reach.Given as goal

-- what is left answers as all items do, and the offset is the sizes so far
abbrev pub invariant-loop-item : goal.invariant-loop-item
invariant-loop-item l = record {
  sizes : l.at + total_size (drop l.item-index l.items) ≡ total_size l.items;
  rest : any_out_of_reach l.items l.at (drop l.item-index l.items) ≡ any_out_of_reach l.items 0 l.items;
}
