use Rattle.std.proofs.Common.{◌≡◌, ◌+◌, ◌++◌, length, drop}
use Rattle.dt_elf.specs.Stack.{terminated_words, word_addresses}
use Rattle.dt_elf.proofs.stack.push_addresses.Given as goal

abbrev pub invariant-loop-word : goal.invariant-loop-word
invariant-loop-word l = (l.next + length (terminated_words (drop l.word-index l.words)) ≡ l.fn.address + length (terminated_words l.words)) × (l.list.items ++ word_addresses l.next (drop l.word-index l.words) ≡ l.fn.list.items ++ word_addresses l.fn.address l.words)
