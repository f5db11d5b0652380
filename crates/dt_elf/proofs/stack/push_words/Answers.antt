use Rattle.std.proofs.Common.{◌∙◌, sym}
use Rattle.dt_elf.proofs.Strings.{word_bytes-on, word_bytes-end}
use Rattle.dt_space.proofs.Numbers.{le-eight}
use Rattle.dt_elf.proofs.stack.push_words.Goals as goal

pub loop-word-preserved : goal.loop-word-preserved
loop-word-preserved c =
    rw (c.in_ok-extend_from_slice.ensures.items, c.to_le_bytes.ensures, le-eight) (word_bytes-on c.args.words.now c.loop-word.word-index _ c.loop-word.bytes.items c.loop-word-test.true ∙ c.loop-word.invariant)

pub returns : goal.returns
returns c = sym (word_bytes-end c.args.words.now c.loop-word.word-index c.loop-word.bytes.items c.loop-word-test.false) ∙ c.loop-word.invariant
