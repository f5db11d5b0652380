use Rattle.std.proofs.Common.{refl}
use Rattle.dt_rv64.specs.Instruction.{instr}
use Rattle.dt_asm.specs.Load.{load_sequence_within}
use Rattle.dt_asm.proofs.guests.trio.Goals as goal

pub returns : goal.returns
unfolding instr load_sequence_within
returns c =
    rw (c.in_ok-call-3.ensures.ok, c.in_ok-li-7.ensures.ok, c.in_ok-label.ensures.ok, c.in_ok-call-2.ensures.ok, c.in_ok-li-6.ensures.ok, c.in_ok-ins.ensures.ok, c.in_ok-li-5.ensures.ok, c.in_ok-call.ensures.ok, c.in_ok-li-4.ensures.ok, c.in_ok-li-3.ensures.ok, c.in_ok-li-2.ensures.ok, c.in_ok-li.ensures.ok, c.in_ok-fork-2.ensures, c.in_ok-fork.ensures, c.new-guest.ensures) refl
