use Rattle.std.proofs.Common.{◌≡◌, ◌+◌, ◌++◌, ℕ, List, length, drop}
use Rattle.std.specs.List.{list_any}
use Rattle.dt_asm.specs.Item.{total_size, pieces_from, pieces_of}
use Rattle.dt_asm.specs.Refusal.{is_bad}
use Rattle.dt_asm.specs.Code.{AreSpelled}
use Rattle.dt_asm.proofs.code.code_of.Given as goal

-- the code so far, with what spells the items that are left, spells all items
abbrev pub invariant-loop-item : goal.invariant-loop-item
invariant-loop-item l = record {
  sizes : l.at + total_size (drop l.item-index l.items) ≡ total_size l.items;
  size : length l.code.items ≡ l.at;
  good : list_any is_bad (pieces_from l.items l.at (drop l.item-index l.items)) ≡ list_any is_bad (pieces_of l.items);
  spelled : (rest : List ℕ) → AreSpelled (pieces_from l.items l.at (drop l.item-index l.items)) rest → AreSpelled (pieces_of l.items) (l.code.items ++ rest);
}
