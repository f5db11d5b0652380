use Rattle.std.proofs.Common.{◌≡◌, ◌++◌, drop}
use Rattle.std.specs.List.{flat_map}
use Rattle.dt_base.specs.Fields.{low_bytes}
use Rattle.dt_asm.proofs.demo.add_words.Given as goal

abbrev pub invariant-loop-word : goal.invariant-loop-word
invariant-loop-word l = l.fn.file.items ++ flat_map (low_bytes 4) l.words ≡ l.file.items ++ flat_map (low_bytes 4) (drop l.word-index l.words)
