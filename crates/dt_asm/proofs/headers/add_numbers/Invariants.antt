use Rattle.std.proofs.Common.{◌≡◌, ◌++◌, drop}
use Rattle.std.specs.List.{flat_map}
use Rattle.dt_base.specs.Fields.{low_bytes}
use Rattle.dt_asm.proofs.headers.add_numbers.Given as goal

abbrev pub invariant-loop-number : goal.invariant-loop-number
invariant-loop-number l = l.fn.bytes.items ++ flat_map (low_bytes 8) l.numbers ≡ l.bytes.items ++ flat_map (low_bytes 8) (drop l.number-index l.numbers)
