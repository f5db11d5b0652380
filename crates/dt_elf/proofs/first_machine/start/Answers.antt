use Rattle.std.proofs.Common.{arith}
use Rattle.dt_elf.specs.Executable.{executable}
use Rattle.dt_elf.proofs.Refusals.{read-placed, read-low, read-entry}
use Rattle.dt_elf.proofs.first_machine.start.Goals as goal

pub is_too_big-requires : goal.is_too_big-requires
is_too_big-requires c = read-low c.args.bytes.now (executable c.args.elf.now) c.requires.read

pub make_machine-requires-clause-placed : goal.make_machine-requires-clause-placed
make_machine-requires-clause-placed c = read-placed c.args.bytes.now (executable c.args.elf.now) c.requires.read

pub make_machine-requires-clause-entry : goal.make_machine-requires-clause-entry
make_machine-requires-clause-entry c = let low = read-entry c.args.bytes.now (executable c.args.elf.now) c.requires.read in omega (arith, low)
