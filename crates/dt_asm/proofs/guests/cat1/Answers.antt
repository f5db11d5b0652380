use Rattle.std.proofs.Common.{refl}
use Rattle.dt_rv64.specs.Instruction.{instr}
use Rattle.dt_asm.specs.Load.{load_sequence_within}
use Rattle.dt_asm.proofs.guests.cat1.Goals as goal

pub returns : goal.returns
unfolding instr load_sequence_within
returns c =
    rw (c.in_ok-bytes.ensures.ok, c.in_ok-call-4.ensures.ok, c.in_ok-li-5.ensures.ok, c.in_ok-call-3.ensures.ok, c.in_ok-li-4.ensures.ok, c.in_ok-ins-6.ensures.ok, c.in_ok-call-2.ensures.ok, c.in_ok-ins-5.ensures.ok, c.in_ok-ins-4.ensures.ok, c.in_ok-ins-3.ensures.ok, c.in_ok-call.ensures.ok, c.in_ok-li-3.ensures.ok, c.in_ok-li-2.ensures.ok, c.in_ok-ins-2.ensures.ok, c.in_ok-ins.ensures.ok, c.in_ok-li.ensures.ok, c.in_ok-memsz.ensures.size, c.new-guest.ensures, c.lui.ensures, c.lui-2.ensures, c.lui-3.ensures, c.addi.ensures, c.addi-2.ensures, c.addi-3.ensures) refl
