use Rattle.std.proofs.Common.{ap}
use Rattle.dt_pipes.specs.declared.pipe.TheConstants.{FIRST_PIPE}
use Rattle.dt_pipes.specs.Table.{table_of}
use Rattle.dt_pipes.proofs.Standing.{stands-empty}
use Rattle.dt_pipes.proofs.Alike.{stands-alike}
use Rattle.dt_pipes.proofs.pipes.Pipes.new.Goals as goal

pub returns-clause-stands : goal.returns-clause-stands
returns-clause-stands c = λ host none.
    stands-alike _ _ host _ (ap (λ pipes. table_of pipes FIRST_PIPE) c.new.ensures) none stands-empty
