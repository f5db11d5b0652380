use Rattle.std.proofs.Common.{◌-◌}
use Rattle.dt_exec.specs.declared.limits.TheConstants.{LIST_LIMIT}
use Rattle.dt_exec.specs.Arguments.{words_at}
use Rattle.dt_exec.proofs.Collected.{SoFar}
use Rattle.dt_exec.proofs.arguments.words_at.Given as goal

abbrev pub invariant-loop-index : goal.invariant-loop-index
invariant-loop-index l = SoFar (words_at l.space l.at LIST_LIMIT) (words_at l.space l.next (LIST_LIMIT - l.index)) l.list.words.items l.list.size
