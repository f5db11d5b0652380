use Rattle.dt_laws.proofs.Accepted.{accepted-file}
use Rattle.dt_laws.proofs.executable.Goals as goal

pub returns-clause-executable : goal.returns-clause-executable
returns-clause-executable c = accepted-file (λ file. file.items) c.args.guest.now c.elf.result c.elf.ensures.file c.elf.ensures.accepted
