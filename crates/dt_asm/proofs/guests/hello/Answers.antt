use Rattle.std.proofs.Common.{refl}
use Rattle.dt_rv64.specs.Instruction.{instr}
use Rattle.dt_asm.specs.Load.{load_sequence_within}
use Rattle.dt_asm.proofs.guests.hello.Goals as goal

pub returns : goal.returns
unfolding instr load_sequence_within
returns c =
    rw (c.in_ok-bytes.ensures.ok, c.in_ok-call-2.ensures.ok, c.in_ok-li-3.ensures.ok, c.in_ok-call.ensures.ok, c.in_ok-li-2.ensures.ok, c.in_ok-ins-2.ensures.ok, c.in_ok-ins.ensures.ok, c.in_ok-li.ensures.ok, c.new-guest.ensures, c.lui.ensures, c.addi.ensures) refl
