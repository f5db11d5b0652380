use Rattle.std.proofs.Common.{◌≡◌, ◌<◌, ◌+◌, ◌^◌, drop}
use Rattle.dt_asm.specs.Item.{total_size}
use Rattle.dt_asm.proofs.guest.size_with_all.Given as goal

-- the size so far, with those of the items that are left
abbrev pub invariant-loop-item : goal.invariant-loop-item
invariant-loop-item l = record {
  sizes : l.size + total_size (drop l.item-index l.items) ≡ l.fn.size + total_size l.items;
  few : l.size < 2 ^ 63;
}
