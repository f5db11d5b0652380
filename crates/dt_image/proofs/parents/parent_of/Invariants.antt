use Rattle.std.proofs.Common.{◌≡◌, length}
use Rattle.dt_base.specs.Path.{parent_of}
use Rattle.dt_image.proofs.parents.parent_of.Given as goal

-- what is left has the same parent
abbrev pub invariant-loop-last : goal.invariant-loop-last
invariant-loop-last l = parent_of l.rest ≡ parent_of l.path

abbrev pub decreases-loop-last : goal.decreases-loop-last
decreases-loop-last l = length l.rest
