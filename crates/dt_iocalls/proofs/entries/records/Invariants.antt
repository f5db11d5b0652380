use Rattle.std.proofs.Common.{◌≡◌, ◌++◌, drop}
use Rattle.dt_iocalls.specs.Entries.{dirents}
use Rattle.dt_iocalls.proofs.entries.records.Given as goal

abbrev pub invariant-loop-entry : goal.invariant-loop-entry
invariant-loop-entry l = l.bytes.items ++ dirents (drop l.entry-index l.entries) ≡ dirents l.entries
