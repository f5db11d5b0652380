use Rattle.dt_base.specs.declared.limits.TheConstants.{PAGE_SIZE}
use Rattle.std.proofs.Common.{◌/◌, ◌%◌}
use Rattle.dt_space.specs.declared.access.TheConstants.{READ}
use Rattle.dt_space.specs.Space.{page_at}
use Rattle.dt_tests_machine.proofs.Bytes.{found-page, byte-of}
use Rattle.dt_tests_machine.proofs.machines.byte_of.Goals as goal

pub returns : goal.returns
returns c = λ is.
    let pages = c.args.machine.now.space in
    byte-of READ (c.args.at % PAGE_SIZE) (page_at pages (c.args.at / PAGE_SIZE)) (found-page pages (c.args.at / PAGE_SIZE) is.space.each)
