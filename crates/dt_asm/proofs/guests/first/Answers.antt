use Rattle.std.proofs.Common.{refl}
use Rattle.dt_rv64.specs.Instruction.{instr}
use Rattle.dt_asm.specs.Load.{load_sequence_within}
use Rattle.dt_asm.proofs.guests.first.Goals as goal

pub returns : goal.returns
unfolding instr load_sequence_within
returns c =
    rw (c.in_ok-jump.ensures.ok, c.in_ok-ins.ensures.ok, c.in_ok-label.ensures.ok, c.in_ok-call.ensures.ok, c.in_ok-li.ensures.ok, c.in_ok-fork.ensures, c.new-guest.ensures, c.addi.ensures) refl
