use Rattle.std.proofs.Common.{◌≡◌, length}
use Rattle.dt_exec.specs.Script.{without_trailing_blanks}
use Rattle.dt_exec.proofs.script.without_trailing_blanks.Given as goal

-- what is left is the same without its blanks
abbrev pub invariant-loop-last : goal.invariant-loop-last
invariant-loop-last l = without_trailing_blanks l.rest ≡ without_trailing_blanks l.text

abbrev pub decreases-loop-last : goal.decreases-loop-last
decreases-loop-last l = length l.rest
