-- What becomes of values by number once a borrow of one ends.
use Rattle.std.specs.Prelude.{ℕ, Option}
use Rattle.std.specs.Ordering.{nat_cmp}
use Rattle.std.specs.FinMap.{FinMap, insert}
use Rattle.std.specs.Borrow.{LendsIf, Fml, RattleType, MutBor}
use Rattle.dt_tables.specs.contracts.numbered.Numbered.{the_row}

-- the number has the last value written through r, and at `None` all is as it was
abbrev pub LendsValue : (X : RattleType) → MutBor (FinMap nat_cmp X.Denot) → ℕ → Option (MutBor X.Denot) → Fml
LendsValue X values n r = LendsIf (the_row X) X values r (insert values.now n) values.now
