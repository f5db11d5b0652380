use Rattle.std.proofs.Common.{◌∙◌}
use Rattle.std.proofs.lemmas.Result.{on_ok_weaker}
use Rattle.std.proofs.lemmas.List.{append_assoc}
use Rattle.dt_rv64.specs.Instruction.{instr}
use Rattle.dt_asm.specs.Load.{load_sequence_within}
use Rattle.dt_asm.proofs.guests.fork.Goals as goal

pub returns : goal.returns
unfolding instr load_sequence_within
returns c = on_ok_weaker c.branch-guest.result (λ e. e ∙ rw (c.in_ok-call.ensures.ok, c.in_ok-li-2.ensures.ok, c.in_ok-li.ensures.ok) (simp append_assoc)) c.branch-guest.ensures.ok
