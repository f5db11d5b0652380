use Rattle.std.proofs.Common.{◌≡◌, ◌++◌, drop, take}
use Rattle.dt_iocalls.specs.Entries.{fitting_entries}
use Rattle.dt_iocalls.proofs.entries.fitting_count.Given as goal

abbrev pub invariant-loop-count : goal.invariant-loop-count
invariant-loop-count l = take l.count l.entries ++ fitting_entries l.left (drop l.count l.entries) ≡ fitting_entries l.fn.room l.entries
