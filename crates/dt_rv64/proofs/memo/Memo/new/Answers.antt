use Rattle.dt_rv64.specs.declared.memo.TheConstants.{ENTRIES}
use Rattle.dt_rv64.proofs.Decoded.{new-decoded}
use Rattle.dt_rv64.proofs.memo.Memo.new.Goals as goal

pub invariant_of-result : goal.invariant_of-result
invariant_of-result c = new-decoded ENTRIES
