use Rattle.std.proofs.Common.{◌≡◌, length}
use Rattle.dt_exec.specs.Script.{without_leading_blanks}
use Rattle.dt_exec.proofs.script.without_leading_blanks.Given as goal

-- what is left is the same without its blanks
abbrev pub invariant-loop-first : goal.invariant-loop-first
invariant-loop-first l = without_leading_blanks l.rest ≡ without_leading_blanks l.text

abbrev pub decreases-loop-first : goal.decreases-loop-first
decreases-loop-first l = length l.rest
