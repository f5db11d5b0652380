use Rattle.std.proofs.Common.{◌≡◌, ◌+◌, ◌≤◌, length, take, not}
use Rattle.std.specs.List.{suffix_len}
use Rattle.dt_base.specs.Path.{is_slash}
use Rattle.dt_tree.proofs.install.name_start.Given as goal

abbrev pub invariant-loop-start : goal.invariant-loop-start
invariant-loop-start l = record {
  within : l.start ≤ length l.path;
  same : l.start + suffix_len (λ b. not (is_slash b)) l.path ≡ length l.path + suffix_len (λ b. not (is_slash b)) (take l.start l.path);
}

abbrev pub decreases-loop-start : goal.decreases-loop-start
decreases-loop-start l = l.start
