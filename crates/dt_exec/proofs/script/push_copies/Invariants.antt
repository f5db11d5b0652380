use Rattle.std.proofs.Common.{◌≡◌, ◌++◌, take}
use Rattle.dt_exec.proofs.script.push_copies.Given as goal

abbrev pub invariant-loop-word : goal.invariant-loop-word
invariant-loop-word l = l.words.items ≡ l.fn.words.items ++ take l.word-index l.more
