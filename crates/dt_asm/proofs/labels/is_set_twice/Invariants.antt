use Rattle.std.proofs.Common.{◌≡◌, ◌≤◌, length}
use Rattle.dt_asm.specs.Item.{total_size}
use Rattle.dt_asm.specs.Refusal.{is_set_twice}
use Rattle.dt_asm.proofs.labels.is_set_twice.Given as goal

-- what is left answers as all items do
abbrev pub invariant-loop-rest : goal.invariant-loop-rest
invariant-loop-rest l = record {
  sizes : total_size l.rest ≤ total_size l.items;
  rest : is_set_twice l.rest ≡ is_set_twice l.items;
}

abbrev pub decreases-loop-rest : goal.decreases-loop-rest
decreases-loop-rest l = length l.rest
